use Rattle.std.proofs.Common.{◌+◌, List, length, subst, sym, ◌∙◌, arith}
use Rattle.outcome_parts.specs.declared.rival.Rival.{Rival}
use Rattle.rivals.specs.Between.{AreRivalsBelow, placed}
use Rattle.rivals.proofs.Listing.{all_done, none_more, none_yet, one_more}
use Rattle.rivals.proofs.Reservations.{rivals_in}
use Rattle.rivals.proofs.rivals.rivals_of.Goals.{in-Some+in_ok-push, in_default}
use Rattle.rivals.proofs.rivals.rivals_of.Goals as goal

pub loop-other-init : goal.loop-other-init
loop-other-init c =
    λ log order counted.
    let s = placed log c.args.shapes.now c.args.places.now c.args.vars.now.ordered.table in
    subst (λ (list : List Rival). AreRivalsBelow s c.args.reserved c.args.access 0 list) (sym c.new-rivals.ensures) (none_yet s c.args.reserved c.args.access)

pub returns-clause-exact : goal.returns-clause-exact
returns-clause-exact c =
    λ log order counted.
    all_done (placed log c.args.shapes.now c.args.places.now c.args.vars.now.ordered.table) c.args.reserved c.args.access c.loop-other.other (length c.args.shapes.now) c.loop-other.rivals
    (omega (arith, c.loop-other-test.false)) (c.loop-other.invariant log order counted)

pub returns-clause-rivals : goal.returns-clause-rivals
returns-clause-rivals c =
    λ setting count is known.
    rivals_in setting c.args.order.now c.args.shapes.now c.args.places.now c.args.vars.now count c.args.reserved c.args.access c.loop-other.rivals
    c.requires.reserved_in c.requires.access_in
    (λ log order counted. all_done (placed log c.args.shapes.now c.args.places.now c.args.vars.now.ordered.table) c.args.reserved c.args.access c.loop-other.other
    (length c.args.shapes.now) c.loop-other.rivals (omega (arith, c.loop-other-test.false)) (c.loop-other.invariant log order counted)) is known

pub loop-other-preserved : goal.loop-other-preserved
loop-other-preserved c =
    λ log order counted.
    elim c.match-rival_of.branch [
      | in-Some+in_ok-push w ↦ one_more (placed log c.args.shapes.now c.args.places.now c.args.vars.now.ordered.table) c.args.reserved c.args.access c.loop-other.other
          w.in-Some.rival c.loop-other.rivals c.match-rival_of.rivals (w.rivals-is ∙ w.in_ok-push.ensures) w.in-Some.ensures.number
          (w.in-Some.ensures.rival log order counted) (c.loop-other.invariant log order counted)
      | in_default w ↦ subst (λ (list : List Rival). AreRivalsBelow (placed log c.args.shapes.now c.args.places.now c.args.vars.now.ordered.table) c.args.reserved c.args.access
          (c.loop-other.other + 1) list) (sym w.rivals-is)
          (none_more (placed log c.args.shapes.now c.args.places.now c.args.vars.now.ordered.table) c.args.reserved c.args.access c.loop-other.other c.loop-other.rivals
          (w.in_default.ensures.none log order counted) (c.loop-other.invariant log order counted))
    ]
