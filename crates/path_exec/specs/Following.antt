-- What following one step leaves.
use Rattle.std.specs.Prelude.{◌≡◌, ◌⊎◌, ℕ, ◌^◌, ◌<◌, ◌≤◌, true, is_some, List, [], ◌∷◌, ◌++◌, length, All, IfSome, Option, Some, None, replicate, slice_index_or, slice_set, option_to_list}
use Rattle.elf_image.specs.Layout.{Layout}
use Rattle.rv32_decode.specs.declared.instr.Instr.TheVariants as instr
use Rattle.rv32_decode.specs.Valid.{IsValid}
use Rattle.odr_log.specs.declared.log.Call.{Call}
use Rattle.odr_log.specs.declared.log.Call.TheVariants as call
use Rattle.odr_log.specs.declared.log.Pos.{Pos}
use Rattle.rv_model.specs.declared.state.Note.{Note}
use Rattle.rv_model.specs.declared.state.Note.TheVariants as note
use Rattle.rv_model.specs.declared.walk.Place.{Place}
use Rattle.rv_model.specs.Walk.{goes_to, transfer_of}
use Rattle.bv_terms.specs.declared.node.TermId.{TermId}
use Rattle.bv_terms.specs.Shapes.{Shape}
use Rattle.bv_terms.specs.Values.{value_at}
use Rattle.bv_terms.specs.Variables.{Occurs}
use Rattle.guided_walk.specs.Guided.{joins}
use Rattle.rv_model.specs.CallsFit.{IsPossible}
use Rattle.step_terms.specs.Made.{Grows, IsMade, IsTerm}
use Rattle.thread_terms.specs.declared.access.Stepped.{Stepped}
use Rattle.thread_terms.specs.Standing.{AreRegisters, SpawnedAs, term_of}
use Rattle.thread_terms.specs.Steps.{IsStepWith, OfRegistersOr}
use Rattle.path_exec.specs.declared.child.Child.{Child}
use Rattle.path_exec.specs.declared.progress.Left.{Left}
use Rattle.path_exec.specs.declared.progress.Progress.{Progress}
use Rattle.path_exec.specs.declared.walker.Walker.{Walker}
use Rattle.path_exec.specs.Links.{link_after}

-- ---- what a step hears and makes

-- the end that is kept of a thread that is joined
abbrev pub end_of_target : List (Option TermId) → Option ℕ → Option TermId
end_of_target ends None = None
end_of_target ends (Some target) = slice_index_or ends target None

abbrev pub joined_end : List (Option TermId) → Note → Option TermId
joined_end ends shown = end_of_target ends (joins shown)

-- each end that is kept is a word
abbrev pub AreWords : List Shape → List (Option TermId) → Type 0
AreWords nodes ends = All (λ (end : Option TermId). IfSome end (λ (id : TermId). IsTerm nodes 32 id.number)) ends

-- the term of what a join hands on: that end, or 0
abbrev pub IsJoined : List Shape → List Shape → Option TermId → TermId → Type 0
IsJoined old new None id = IsMade old new [] 32 (λ w. 0) id.number
IsJoined old new (Some end) id = id ≡ end

abbrev pub spawned_thread : Note → Option ℕ
spawned_thread (note.Called (call.Spawn entry child)) = child
spawned_thread other = None

-- a spawned thread before its first step
pub record IsSpawned (old new : List Shape) (spawner : Walker) (thread : ℕ) (child : Child) : Type 0 where
  pub is : child.thread ≡ thread
  pub link : child.walker.link ≡ None
  pub registers : SpawnedAs old new thread (term_of spawner.registers 3) (term_of spawner.registers 11) child.walker.registers

abbrev pub IsChildOf : List Shape → List Shape → Walker → Option ℕ → Option Child → Type 0
IsChildOf old new spawner None None = Unit {0}
IsChildOf old new spawner None (Some child) = ⊥
IsChildOf old new spawner (Some thread) None = ⊥
IsChildOf old new spawner (Some thread) (Some child) = IsSpawned old new spawner thread child

abbrev pub IsChild : List Shape → List Shape → Walker → Note → Option Child → Type 0
IsChild old new spawner shown child = IsChildOf old new spawner (spawned_thread shown) child

-- the end that a step leaves: a0 before it, where it ends its thread
abbrev pub end_left : Walker → Note → Option TermId
end_left walker (note.Called call.EndThread) = Some (record { number = term_of walker.registers 10 })
end_left walker other = None

-- a call that can be followed: its record is possible, and it wrote at most 256 bytes
pub record IsPossibleCall (made : Call) : Type 0 where
  pub possible : IsPossible made
  pub few : (want : ℕ) (bytes : List ℕ) → made ≡ call.Read want bytes → length bytes ≤ 256

abbrev pub CanBe : Note → Type 0
CanBe (note.Called made) = IsPossibleCall made
CanBe other = Unit {0}

-- ---- progress

-- a thread that has begun, with a word for each register
pub record HasWalker (nodes : List Shape) (walkers : List (Option Walker)) (thread : ℕ) : Type 0 where
  pub walker : Walker
  pub within : thread < length walkers
  pub is : slice_index_or walkers thread None ≡ Some walker
  pub words : AreRegisters nodes walker.registers

-- before the first step
abbrev pub begun : ℕ → Walker → Progress
begun threads walker = record {
  walkers = slice_set (replicate threads None) 0 (Some walker);
  ends = replicate threads None;
  accesses = [];
  constraints = [];
}

abbrev pub with_child : List (Option Walker) → Option Child → List (Option Walker)
with_child walkers None = walkers
with_child walkers (Some child) = slice_set walkers child.thread (Some child.walker)

abbrev pub with_end : List (Option TermId) → ℕ → Option TermId → List (Option TermId)
with_end ends thread None = ends
with_end ends thread (Some id) = slice_set ends thread (Some id)

-- with what a step of a thread leaves
abbrev pub with_step : Progress → ℕ → Left → Progress
with_step progress thread left = record {
  walkers = with_child (slice_set progress.walkers thread (Some left.walker)) left.child;
  ends = with_end progress.ends thread left.end;
  accesses = progress.accesses ++ option_to_list left.stepped.access;
  constraints = progress.constraints ++ left.stepped.constraint ∷ [];
}

-- ---- one step

-- the step itself, of a thread that stood so before it, where a join hands on the value of a term
abbrev pub IsTaken : Layout → Pos → Place → Note → Walker → List Shape → List Shape → List TermId → TermId → Stepped → Type 0
IsTaken image p place shown walker old new after joined stepped =
    IsStepWith (λ w. value_at w old joined.number)
    (λ width number. OfRegistersOr old walker.registers stepped.access width number ⊎ Occurs old width number joined.number)
    image p place.pc place.instr shown walker.link old new walker.registers after stepped

-- What following a step does: the thread's walker takes it, with what a join hands on, and the thread that it makes begins.
pub record IsFollowed (image : Layout) (p : Pos) (place : Place) (shown : Note) (old new : List Shape) (before after : Progress) : Type 0 where
  pub walker : Walker
  pub stood : slice_index_or before.walkers p.thread None ≡ Some walker
  pub one : List Shape
  pub two : List Shape
  pub grows_one : Grows old one
  pub grows_two : Grows one two
  pub grows_three : Grows two new
  pub joined : TermId
  pub joins : IsJoined old one (joined_end before.ends shown) joined
  pub word : IsTerm one 32 joined.number
  pub left : Left
  pub child : IsChild one two walker shown left.child
  pub taken : IsTaken image p place shown walker two new left.walker.registers joined left.stepped
  pub words : AreRegisters new left.walker.registers
  pub link : left.walker.link ≡ link_after place.instr (length before.accesses) walker.link
  pub end : left.end ≡ end_left walker shown
  pub is : after ≡ with_step before p.thread left

-- ---- what one step asks of the code

abbrev pub at_place : List (List Place) → Pos → Place
at_place places p = slice_index_or (slice_index_or places p.thread []) p.step (record { pc = 0; instr = instr.Ebreak })

abbrev pub at_note : List (List Note) → Pos → Note
at_note notes p = slice_index_or (slice_index_or notes p.thread []) p.step note.Nothing

-- a step that can be followed, by places and notes of all steps
pub record IsReady (places : List (List Place)) (notes : List (List Note)) (p : Pos) (nodes : List Shape) (progress : Progress) : Type 0 where
  pub placed : p.step < length (slice_index_or places p.thread [])
  pub noted_thread : p.thread < length notes
  pub noted_step : p.step < length (slice_index_or notes p.thread [])
  pub thread : p.thread < 8
  pub step : p.step < 2 ^ 18
  pub walker : HasWalker nodes progress.walkers p.thread
  pub end : p.thread < length progress.ends
  pub words : AreWords nodes progress.ends
  pub valid : IsValid (at_place places p).instr
  pub leads : is_some (goes_to (at_place places p).pc (transfer_of (at_place places p).pc (at_place places p).instr) (at_note notes p)) ≡ true
  pub possible : CanBe (at_note notes p)
