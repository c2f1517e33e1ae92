-- Which load-reserved a store-conditional looks back to, and what a thread has reserved along a list of steps.
use Rattle.std.specs.Prelude.{◌≡◌, ◌≢◌, ◌↔◌, ℕ, zero, suc, ◌<◌, Bool, true, false, List, [], ◌∷◌, slice_index_or, Option, option_map, Some, None}
use Rattle.elf_image.specs.Layout.{Layout}
use Rattle.rv32_decode.specs.declared.instr.Instr.{Instr}
use Rattle.rv32_decode.specs.declared.instr.Instr.TheVariants as instr
use Rattle.odr_log.specs.declared.log.Pos.{Pos}
use Rattle.rv_model.specs.declared.walk.Place.{Place}
use Rattle.rv_model.specs.Noted.{writes_in}
use Rattle.rv_model.specs.Thread.{touches}
use Rattle.rv_model.specs.Walk.{Walk, places_of}
use Rattle.guided_walk.specs.Guided.{Visits, access_in, at}
use Rattle.guided_walk.specs.Orders.{Stands}
use Rattle.guided_walk.specs.Schedules.{count}
use Rattle.walk_facts.specs.Steps.{no_place, step_of}

-- ---- looking back

-- What is known of the thread's last load-reserved after an instruction: an LR puts this number in its place, and an SC ends it.
unfoldable pub link_after : Instr → ℕ → Option ℕ → Option ℕ
link_after (instr.LoadReserved rd rs1 aq rl) number link = Some number
link_after (instr.StoreConditional rd rs1 rs2 aq rl) number link = None
link_after (instr.Lui rd imm) number link = link
link_after (instr.Auipc rd imm) number link = link
link_after (instr.Jal rd offset) number link = link
link_after (instr.Jalr rd rs1 offset) number link = link
link_after (instr.Branch op rs1 rs2 offset) number link = link
link_after (instr.Load op rd rs1 offset) number link = link
link_after (instr.Store op rs1 rs2 offset) number link = link
link_after (instr.Imm op rd rs1 imm) number link = link
link_after (instr.Op op rd rs1 rs2) number link = link
link_after (instr.Fence rd rs1 imm) number link = link
link_after instr.Ecall number link = link
link_after instr.Ebreak number link = link
link_after (instr.Amo op rd rs1 rs2 aq rl) number link = link

abbrev pub linked_by : Place → ℕ → Option ℕ → Option ℕ
linked_by place step link = link_after place.instr step link

-- The step of the load-reserved that a thread's step looks back to: the last one before it, where no store-conditional stands
-- between the two.
abbrev pub looks_back : List Place → ℕ → Option ℕ
looks_back places zero = None
looks_back places (suc step) = linked_by (slice_index_or places step no_place) step (looks_back places step)

abbrev pub is_reserving : Instr → Bool
is_reserving (instr.LoadReserved rd rs1 aq rl) = true
is_reserving other = false

-- an LR or an SC
abbrev pub is_linking : Instr → Bool
is_linking (instr.LoadReserved rd rs1 aq rl) = true
is_linking (instr.StoreConditional rd rs1 rs2 aq rl) = true
is_linking other = false

abbrev pub instr_in : List Place → ℕ → Instr
instr_in places step = (slice_index_or places step no_place).instr

-- an LR before a step of its thread, with no LR and no SC between
pub record IsLinkedTo (places : List Place) (step lr : ℕ) : Type 0 where
  pub earlier : lr < step
  pub reserves : is_reserving (instr_in places lr) ≡ true
  pub last : (between : ℕ) → lr < between → between < step → is_linking (instr_in places between) ≡ false

abbrev pub LooksBackLaw : Type 0
LooksBackLaw = (places : List Place) (step lr : ℕ) → (looks_back places step ≡ Some lr) ↔ IsLinkedTo places step lr

-- ---- links and reservations

-- the address of a step's access
abbrev pub access_address : Layout → Visits → Pos → ℕ
access_address image visits p = (access_in image (at visits p).seen).address

-- the step that a thread's step looks back to, by its walk
abbrev pub back_in : Walk → ℕ → ℕ → Option ℕ
back_in walk thread step = looks_back (places_of walk thread) step

-- the address of the load-reserved to which a thread's step looks back
abbrev pub link_address : Layout → Walk → Visits → ℕ → ℕ → Option ℕ
link_address image walk visits thread step = option_map (λ lr. access_address image visits (step_of thread lr)) (back_in walk thread step)

-- each of these steps is the next of its thread; the newest stands first
abbrev pub AreNext : List Pos → Type 0
AreNext [] = Unit {0}
AreNext (p ∷ older) = (p.step ≡ count p.thread older) × AreNext older

-- no other thread has written to the word since a step; of the steps the newest stands first
abbrev pub IsUntouched : Visits → List Pos → Pos → ℕ → Type 0
IsUntouched visits done lr address = (q : Pos) → q.thread ≢ lr.thread → Stands done q lr → touches (writes_in (at visits q).outcome) address ≡ false

-- A thread has an address reserved: its next step looks back to a load-reserved of the address, and no other thread has
-- written to the word since.
pub record HasReserved (image : Layout) (walk : Walk) (visits : Visits) (done : List Pos) (thread address : ℕ) : Type 0 where
  pub lr : ℕ
  pub back : back_in walk thread (count thread done) ≡ Some lr
  pub is : access_address image visits (step_of thread lr) ≡ address
  pub untouched : IsUntouched visits done (step_of thread lr) address
