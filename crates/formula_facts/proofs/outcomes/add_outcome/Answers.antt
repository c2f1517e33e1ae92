use Rattle.std.proofs.Common.{ℕ, ◌<◌, ◌∙◌, All, List, length, ap, sym, subst}
use Rattle.thread_terms.specs.declared.access.Access.{Access}
use Rattle.outcome_parts.specs.Outcomes.{CanSucceed}
use Rattle.outcome_parts.specs.Rivals.{KnowsRival}
use Rattle.formula_facts.proofs.Succeeding.{Links, can_succeed, link_from, no_outcome, one_outcome, reserved_in, rivals_known}
use Rattle.formula_facts.proofs.outcomes.add_outcome.Goals as goal

pub returns-in_default-clause-adds : goal.returns-in_default-clause-adds
returns-in_default-clause-adds g c setting image_is is ready =
    no_outcome setting c.args.encoder.now c.args.known.now.accesses c.args.access ready
    (link_from c.as_slice-accesses.result.now c.args.known.now.accesses c.args.access _ _ c.as_slice-accesses.ensures c.requires.access c.in_default.is)

pub rivals_of-requires-clause-reserved_in : goal.rivals_of-requires-clause-reserved_in
rivals_of-requires-clause-reserved_in g c =
    let known = c.args.known.now in
    let accesses = known.accesses in
    let links : Links known c.in-Some.reserved c.args.access = record {
      there = c.requires.access;
      link = link_from c.as_slice-accesses.result.now accesses c.args.access _ _ c.as_slice-accesses.ensures c.requires.access c.in-Some.is;
    } in
    let lr_in = reserved_in c.args.image.now known c.args.encoder.now c.in-Some.reserved c.args.access c.requires.can links in
    subst (λ (n : ℕ). c.in-Some.reserved < n) (sym (ap length c.as_slice.ensures ∙ c.requires.can.is.are.count ∙ ap length c.requires.can.is.accesses_are)) lr_in

pub add_success-requires-clause-reserved : goal.add_success-requires-clause-reserved
add_success-requires-clause-reserved g c =
    let known = c.args.known.now in
    let links : Links known c.in-Some.reserved c.args.access = record {
      there = c.requires.access;
      link = link_from c.as_slice-accesses.result.now known.accesses c.args.access _ _ c.as_slice-accesses.ensures c.requires.access c.in-Some.is;
    } in
    subst (λ (xs : List Access). c.in-Some.reserved < length xs) (sym c.as_slice-accesses.ensures)
    (reserved_in c.args.image.now known c.args.encoder.now c.in-Some.reserved c.args.access c.requires.can links)

pub add_success-requires-clause-rivals : goal.add_success-requires-clause-rivals
add_success-requires-clause-rivals g c =
    let known = c.args.known.now in
    let encoder = c.args.encoder.now in
    let links : Links known c.in-Some.reserved c.args.access = record {
      there = c.requires.access;
      link = link_from c.as_slice-accesses.result.now known.accesses c.args.access _ _ c.as_slice-accesses.ensures c.requires.access c.in-Some.is;
    } in
    subst (λ (xs : List Access). All (KnowsRival encoder.clauses.vars (length xs)) c.as_slice-3.result.now) (sym c.as_slice-accesses.ensures)
    (subst (All (KnowsRival encoder.clauses.vars (length known.accesses))) (sym c.as_slice-3.ensures)
    (rivals_known c.args.image.now known encoder c.as_slice.result.now c.as_slice-2.result.now c.in-Some.reserved c.args.access c.in_ok-rivals.rivals c.requires.can links
    c.as_slice.ensures c.as_slice-2.ensures c.in_ok-rivals.ensures.rivals))

pub returns-clause-adds : goal.returns-clause-adds
returns-clause-adds g c setting image_is is ready =
    let known = c.args.known.now in
    let encoder = c.args.encoder.now in
    let lr = c.in-Some.reserved in
    let x = c.args.access in
    let links : Links known lr x = record {
      there = c.requires.access;
      link = link_from c.as_slice-accesses.result.now known.accesses x _ _ c.as_slice-accesses.ensures c.requires.access c.in-Some.is;
    } in
    one_outcome setting encoder c.add_success.new.encoder known.accesses lr x links.link
    (c.in_ok-add_success.ensures.adds setting (is.accesses_are ∙ sym c.as_slice-accesses.ensures)
    (subst (CanSucceed setting encoder lr x) (sym c.as_slice-3.ensures)
    (can_succeed setting known encoder c.as_slice.result.now c.as_slice-2.result.now lr x c.in_ok-rivals.rivals is ready links
    c.as_slice.ensures c.as_slice-2.ensures c.in_ok-rivals.ensures.rivals)))
