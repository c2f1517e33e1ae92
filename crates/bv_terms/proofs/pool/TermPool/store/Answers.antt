use Rattle.std.proofs.Common.{◌≡◌, List, length, subst, sym}
use Rattle.std.specs.List.{list_any}
use Rattle.bv_terms.specs.contracts.term.TermPartialEq.TheImpl.{ghosts}
use Rattle.bv_terms.specs.declared.term.Term.{Term}
use Rattle.bv_terms.specs.Fitting.{IsFitting}
use Rattle.bv_terms.specs.Placed.{shapes_of}
use Rattle.bv_terms.specs.Shapes.{Shape, shape_of}
use Rattle.bv_terms.specs.Values.{KeepsTerms, node_width, width_at}
use Rattle.bv_terms.specs.Shared.{GainsAtMost, IsShared}
use Rattle.bv_terms.specs.Variables.{IsTermOf, KeepsVariables}
use Rattle.bv_terms.proofs.Equal.{eq_terms}
use Rattle.bv_terms.proofs.Growth.{Grown, grown, found_grown, gains_grown, term_grown, placed_grown, keeps_grown}
use Rattle.bv_terms.proofs.Shared.{shared}
use Rattle.bv_terms.proofs.Terms.{occurs-older}
use Rattle.bv_terms.proofs.pool.TermPool.store.Goals as goal

pub invariant_of-self-2 : goal.invariant_of-self-2
invariant_of-self-2 c =
    let old = c.self.inside.terms.keys in
    let term : Term = record { node = c.args.node; width = c.node_width-width.result } in
    let growth : Grown old term c.insert_full.new.self.keys = subst (λ l. Grown old term l) (sym c.in_ok-number.ensures.keys) (grown old term (list_any (ghosts.eq term) old)) in
    let fits = subst (λ (l : List Shape). IsFitting (width_at l) (length l) (shape_of c.args.node)) (sym c.self.view_is) c.requires in
    let width = subst (λ (l : List Shape). c.node_width-width.result ≡ node_width (width_at l) (shape_of c.args.node)) (sym c.self.view_is) c.node_width-width.ensures.width in
    placed_grown old c.insert_full.new.self.keys term growth c.self.invariant fits width

pub returns-clause-older : goal.returns-clause-older
returns-clause-older c =
    let old = c.self.inside.terms.keys in
    let term : Term = record { node = c.args.node; width = c.node_width-width.result } in
    let growth : Grown old term c.insert_full.new.self.keys = subst (λ l. Grown old term l) (sym c.in_ok-number.ensures.keys) (grown old term (list_any (ghosts.eq term) old)) in
    subst (λ (l : List Shape). KeepsTerms l (shapes_of c.insert_full.new.self.keys)) c.self.view_is (keeps_grown old c.insert_full.new.self.keys term growth)

pub returns-clause-variables : goal.returns-clause-variables
returns-clause-variables c =
    let old = c.self.inside.terms.keys in
    let term : Term = record { node = c.args.node; width = c.node_width-width.result } in
    let growth : Grown old term c.insert_full.new.self.keys = subst (λ l. Grown old term l) (sym c.in_ok-number.ensures.keys) (grown old term (list_any (ghosts.eq term) old)) in
    subst (λ (l : List Shape). KeepsVariables l (shapes_of c.insert_full.new.self.keys)) c.self.view_is
    (occurs-older (shapes_of old) (shapes_of c.insert_full.new.self.keys) (keeps_grown old c.insert_full.new.self.keys term growth) c.self.invariant.fitting)

pub returns-clause-term : goal.returns-clause-term
returns-clause-term c =
    let old = c.self.inside.terms.keys in
    let term : Term = record { node = c.args.node; width = c.node_width-width.result } in
    let growth : Grown old term c.insert_full.new.self.keys = subst (λ l. Grown old term l) (sym c.in_ok-number.ensures.keys) (grown old term (list_any (ghosts.eq term) old)) in
    let fits = subst (λ (l : List Shape). IsFitting (width_at l) (length l) (shape_of c.args.node)) (sym c.self.view_is) c.requires in
    let width = subst (λ (l : List Shape). c.node_width-width.result ≡ node_width (width_at l) (shape_of c.args.node)) (sym c.self.view_is) c.node_width-width.ensures.width in
    let stored = c.in_ok-number.ensures.stored in
    subst (λ (l : List Shape). IsTermOf l (shapes_of c.insert_full.new.self.keys) (shape_of c.args.node) c.in_ok-number.number) c.self.view_is
    (term_grown old c.insert_full.new.self.keys term growth c.self.invariant fits width c.in_ok-number.number stored.0 stored.1 (eq_terms term stored.0 stored.2))

pub returns-clause-found : goal.returns-clause-found
returns-clause-found c =
    let term : Term = record { node = c.args.node; width = c.node_width-width.result } in
    let stored = c.in_ok-number.ensures.stored in
    found_grown c.insert_full.new.self.keys term c.in_ok-number.number stored.0 stored.1 (eq_terms term stored.0 stored.2)

pub returns-clause-gains : goal.returns-clause-gains
returns-clause-gains c =
    let old = c.self.inside.terms.keys in
    let term : Term = record { node = c.args.node; width = c.node_width-width.result } in
    let growth : Grown old term c.insert_full.new.self.keys = subst (λ l. Grown old term l) (sym c.in_ok-number.ensures.keys) (grown old term (list_any (ghosts.eq term) old)) in
    let stored = c.in_ok-number.ensures.stored in
    let found = found_grown c.insert_full.new.self.keys term c.in_ok-number.number stored.0 stored.1 (eq_terms term stored.0 stored.2) in
    subst (λ (l : List Shape). GainsAtMost l (shapes_of c.insert_full.new.self.keys) c.in_ok-number.number) c.self.view_is
    (gains_grown old c.insert_full.new.self.keys term growth c.in_ok-number.number found)

pub returns-clause-shared : goal.returns-clause-shared
returns-clause-shared c =
    let old = c.self.inside.terms.keys in
    let new = c.insert_full.new.self.keys in
    let term : Term = record { node = c.args.node; width = c.node_width-width.result } in
    let width = subst (λ (l : List Shape). c.node_width-width.result ≡ node_width (width_at l) (shape_of c.args.node)) (sym c.self.view_is) c.node_width-width.ensures.width in
    let kept = c.in_ok-number.ensures in
    let stored = kept.stored in
    let found = found_grown new term c.in_ok-number.number stored.0 stored.1 (eq_terms term stored.0 stored.2) in
    subst (λ (l : List Shape). IsShared l (shapes_of new) c.in_ok-number.number) c.self.view_is
    (shared old new term c.in_ok-number.number stored.0 c.self.invariant width kept.keys kept.unique stored.1 stored.2 found)
