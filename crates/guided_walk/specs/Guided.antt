-- The guided walk of a log: each step of each thread by the atomic step of the machine, where the bytes that it reads and
-- the outcomes of store-conditionals are given, and its calls are answered as the log has them. It asks neither memory nor
-- other threads, but for what a spawn and a join hand on.
use Rattle.std.specs.Prelude.{◌≡◌, ℕ, zero, suc, Bool, true, false, map, Option, Some, None, Result, slice_index_or, if◌then◌else◌}
use Rattle.std.specs.List.{range_with_len}
use Rattle.elf_image.specs.Layout.{Layout}
use Rattle.elf_image.specs.Memory.{opening_cells, all_readable, all_writable}
use Rattle.rv32_decode.specs.declared.instr.Instr.{Instr}
use Rattle.odr_log.specs.declared.log.Cause.{Cause}
use Rattle.odr_log.specs.declared.log.Call.TheVariants as call
use Rattle.odr_log.specs.declared.log.Pos.{Pos}
use Rattle.rv_model.specs.declared.state.Local.{Local}
use Rattle.rv_model.specs.declared.state.Note.{Note}
use Rattle.rv_model.specs.declared.state.Note.TheVariants as note
use Rattle.rv_model.specs.declared.hearing.Access.{Access}
use Rattle.rv_model.specs.declared.hearing.Reach.{Reach}
use Rattle.rv_model.specs.declared.hearing.Heard.{Heard}
use Rattle.rv_model.specs.declared.hearing.Outcome.{Outcome}
use Rattle.rv_model.specs.declared.hearing.Outcome.TheVariants.{Faults, Goes}
use Rattle.rv_model.specs.Thread.{first_local, no_thread}
use Rattle.rv_model.specs.Calls.{first_argument}
use Rattle.rv_model.specs.Instruction.{act_at, access_at, conditional_at, reserving_at}
use Rattle.rv_model.specs.Step.{instr_at, child_of}
use Rattle.rv_model.specs.Noted.{note_in, reply_noted}
use Rattle.guided_walk.specs.Told.{Told, IsPlace, noted}

-- what is given: for a thread and a step, each byte that it reads, and whether its store-conditional succeeds
pub record Given : Type 0 where
  pub bytes : ℕ → ℕ → ℕ → ℕ
  pub won : ℕ → ℕ → Bool

-- A thread before a step. The link is the address of its last load-reserved, where no store-conditional stands after it.
pub record Seen : Type 0 where
  pub local : Local
  pub link : Option ℕ

-- a step: the thread before it, and what the step does
pub record Visit : Type 0 where
  pub seen : Seen
  pub outcome : Outcome

-- the visit of each thread's each step
abbrev pub Visits : Type 0
Visits = ℕ → ℕ → Visit

abbrev pub at : Visits → Pos → Visit
at visits p = visits p.thread p.step

-- ---- what a visit shows

abbrev pub instr_of : Layout → Seen → Result Instr Cause
instr_of image seen = instr_at image seen.local.pc

abbrev pub access_in : Layout → Seen → Access
access_in image seen = access_at seen.local (instr_of image seen)

-- the address of a store-conditional
abbrev pub conditional_in : Layout → Seen → Option ℕ
conditional_in image seen = conditional_at seen.local (instr_of image seen)

-- the thread that a join was answered for
abbrev pub joins : Note → Option ℕ
joins (note.Called (call.Join target true)) = Some target
joins other = None

-- ---- what a step hears

-- an access with the rights of image and stacks, and with given bytes
abbrev pub met : Layout → (ℕ → ℕ) → Access → Reach
met image bytes access = record {
  bytes = if all_readable (opening_cells image) access.address access.count then Some (map bytes (range_with_len 0 access.count)) else None;
  writable = all_writable (opening_cells image) access.address access.count;
}

-- A store-conditional that looks back to a load-reserved succeeds as it is given; every other fails.
abbrev pub linked : Option ℕ → Option ℕ → Bool → Bool
linked None link won = false
linked (Some address) None won = false
linked (Some address) (Some reserved) won = won

-- the value with which a thread ended: its a0 before the call by which it ended
abbrev pub ended_with : Visits → Option Pos → ℕ
ended_with visits None = 0
ended_with visits (Some p) = first_argument (at visits p).seen.local

abbrev pub joined_from : Told → Visits → Option ℕ → ℕ
joined_from told visits None = 0
joined_from told visits (Some target) = ended_with visits (told.ender target)

abbrev pub hears : Layout → Told → Given → ℕ → ℕ → Seen → ℕ → Heard
hears image told given thread step seen joined = record {
  thread = thread;
  reach = met image (given.bytes thread step) (access_in image seen);
  won = linked (conditional_in image seen) seen.link (given.won thread step);
  reply = reply_noted (told.note thread step);
  joined = joined;
}

-- ---- a thread before a step

-- the thread after a step; after a fault it stays
abbrev pub went : Layout → Seen → Outcome → Seen
went image seen (Faults fault) = seen
went image seen (Goes local writes shown) = record { local = local; link = reserving_at seen.local (instr_of image seen) seen.link }

-- what the spawn at a place hands on
abbrev pub handed : Told → Visits → Option Pos → Local
handed told visits None = no_thread.local
handed told visits (Some p) = (slice_index_or (child_of (at visits p).seen.local (noted told p)) 0 no_thread).local

abbrev pub begins : Layout → Told → Visits → ℕ → Local
begins image told visits zero = first_local image.entry
begins image told visits (suc before) = handed told visits (told.maker (suc before))

abbrev pub seen_before : Layout → Told → Visits → ℕ → ℕ → Seen
seen_before image told visits thread zero = record { local = begins image told visits thread; link = None }
seen_before image told visits thread (suc step) = went image (visits thread step).seen (visits thread step).outcome

-- ---- the walk

-- a step, by the thread before it and the value that its join hands on
abbrev pub visit_from : Layout → Told → Given → ℕ → ℕ → Seen → ℕ → Visit
visit_from image told given thread step seen joined = record {
  seen = seen;
  outcome = act_at seen.local (instr_of image seen) (hears image told given thread step seen joined);
}

-- what a step is by the visits of the steps before it
abbrev pub visit : Layout → Told → Given → Visits → ℕ → ℕ → Visit
visit image told given visits thread step =
    visit_from image told given thread step (seen_before image told visits thread step) (joined_from told visits (joins (told.note thread step)))

-- Each step of the walk is what the steps before it make of it, and shows what is recorded of it.
pub record IsGuided (image : Layout) (told : Told) (given : Given) (visits : Visits) : Type 0 where
  pub solves : (p : Pos) → IsPlace told p → at visits p ≡ visit image told given visits p.thread p.step
  pub shows : (p : Pos) → IsPlace told p → note_in (at visits p).outcome ≡ noted told p

-- the guided walk holds with what is given
abbrev pub Guided : Layout → Told → Given → Type 0
Guided image told given = (visits : Visits) × IsGuided image told given visits
