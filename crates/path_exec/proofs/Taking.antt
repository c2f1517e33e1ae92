-- One step more: what is known before it, and what it does under an assignment.
use Rattle.std.proofs.Common.{◌≡◌, ◌↔◌, suc, List, [], ◌∷◌, ◌++◌, length, sym, ◌∙◌, ap, subst}
use Rattle.std.specs.Prelude.{◌⊎◌, Ok, Some}
use Rattle.odr_log.specs.declared.log.Pos.{Pos}
use Rattle.rv_model.specs.Noted.{note_in}
use Rattle.rv_model.specs.RecordedOrder.{Counted}
use Rattle.rv_model.specs.Step.{instr_at}
use Rattle.rv_model.specs.Walk.{goes_to, transfer_of}
use Rattle.bv_terms.specs.declared.node.TermId.{TermId}
use Rattle.bv_terms.specs.Shapes.{Shape}
use Rattle.bv_terms.specs.Values.{Assignment, value_at}
use Rattle.bv_terms.specs.Variables.{Occurs}
use Rattle.guided_walk.specs.Guided.{Seen, Visit, joined_from, joins, seen_before, visit, went}
use Rattle.guided_walk.specs.Orders.{In}
use Rattle.guided_walk.specs.Told.{noted}
use Rattle.step_terms.specs.Made.{Grows}
use Rattle.thread_terms.specs.Given.{given_by}
use Rattle.thread_terms.specs.Standing.{AreRegisters}
use Rattle.thread_terms.specs.Steps.{HasVariables, OfRegistersOr, StandsBefore}
use Rattle.walk_lists.specs.Order.{Follows}
use Rattle.path_exec.specs.declared.progress.Left.{Left}
use Rattle.path_exec.specs.declared.progress.Progress.{Progress}
use Rattle.path_exec.specs.declared.walker.Walker.{Walker}
use Rattle.path_exec.specs.Following.{IsTaken}
use Rattle.path_exec.specs.Links.{link_after}
use Rattle.path_exec.specs.Paths.{IsOfEarlier}
use Rattle.path_exec.specs.Progress.{Ground, HoldSoFar, IsAt, IsGround, IsProgress, IsWalker, place_in, tells, visited}
use Rattle.path_exec.proofs.Along.{holds_more}
use Rattle.path_exec.proofs.Orders.{follows_next}
use Rattle.path_exec.proofs.Stepping.{StepOn, step_on}

-- a counted step that can follow those done, its thread before it, and what taking it leaves
pub record Taking (ground : Ground) (old new : List Shape) (done : List Pos) (p : Pos) (before : Progress) (walker : Walker) (joined : TermId) (left : Left) : Type 0 where
  pub ground_is : IsGround ground
  pub progress : IsProgress ground old done before
  pub follows : Follows (tells ground) done p
  pub counted : Counted ground.log p
  pub grows : Grows old new
  pub walker_is : IsWalker ground old done before.accesses p.thread walker
  pub joined_value : (w : Assignment) → HoldSoFar ground done w → value_at w old joined.number ≡ joined_from (tells ground) (visited ground done w) (joins (noted (tells ground) p))
  pub joined_knows : HasVariables (IsOfEarlier ground.log before.accesses p) old joined.number
  pub taken : IsTaken ground.image p (place_in ground p.thread p.step) (noted (tells ground) p) walker old new left.walker.registers joined left.stepped
  pub words : AreRegisters new left.walker.registers
  pub link : left.walker.link ≡ link_after (place_in ground p.thread p.step).instr (length before.accesses) walker.link

-- the thread before the step, and the step, by what an assignment gives
abbrev pub seen_at : Ground → List Pos → Pos → Assignment → Seen
seen_at ground done p w = seen_before ground.image (tells ground) (visited ground done w) p.thread p.step

abbrev pub visit_at : Ground → List Pos → Pos → Assignment → Visit
visit_at ground done p w = visit ground.image (tells ground) (given_by w) (visited ground done w) p.thread p.step

pub taken_on : (ground : Ground) (old new : List Shape) (done : List Pos) (p : Pos) (before : Progress) (walker : Walker) (joined : TermId) (left : Left)
    → Taking ground old new done p before walker joined left → (w : Assignment) → HoldSoFar ground done w
    → StepOn ground.image w new left.walker.registers (ground.address p.thread (suc p.step)) left.walker.link left.stepped (place_in ground p.thread p.step).instr (noted (tells ground) p)
    (seen_at ground done p w) (visit_at ground done p w).outcome
taken_on ground old new done p before walker joined left t w hold =
    let place = place_in ground p.thread p.step in
    let here : IsAt ground p.thread p.step = t.ground_is.at p t.counted in
    let stand : StandsBefore w old walker.registers place.pc walker.link (seen_at ground done p w) =
    subst (λ a. StandsBefore w old walker.registers a walker.link (seen_at ground done p w)) (sym here.at)
    (t.walker_is.stands w p.step (follows_next (tells ground) done p t.follows) hold) in
    let fetched : instr_at ground.image place.pc ≡ Ok place.instr = ap (instr_at ground.image) here.at ∙ here.fetched in
    let goes : goes_to place.pc (transfer_of place.pc place.instr) (noted (tells ground) p) ≡ Some (ground.address p.thread (suc p.step)) =
    ap (λ a. goes_to a (transfer_of a place.instr) (noted (tells ground) p)) here.at ∙ here.goes in
    let on = step_on ground.image (tells ground) w (visited ground done w) p place.pc (ground.address p.thread (suc p.step)) (length before.accesses) place.instr walker.link
    (λ (a : Assignment). value_at a old joined.number)
    (λ width number. OfRegistersOr old walker.registers left.stepped.access width number ⊎ Occurs old width number joined.number)
    old new walker.registers left.walker.registers left.stepped stand fetched goes t.taken (t.joined_value w hold) in
    record {
      met = on.met;
      stands = λ shows. subst (λ l. StandsBefore w new left.walker.registers (ground.address p.thread (suc p.step)) l (went ground.image (seen_at ground done p w) (visit_at ground done p w).outcome)) (sym t.link) (on.stands shows);
      shows = on.shows;
    }

-- the steps hold so far exactly where those before hold and the step shows what is recorded
pub hold_more : (ground : Ground) (done : List Pos) (p : Pos) → (In p done → ⊥) → (w : Assignment)
    → HoldSoFar ground (done ++ p ∷ []) w ↔ (HoldSoFar ground done w × (note_in (visit_at ground done p w).outcome ≡ noted (tells ground) p))
hold_more ground done p new w = holds_more ground.image (tells ground) (given_by w) done p ground.start new
