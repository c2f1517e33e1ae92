-- The bytes that a step wrote, as a run of addresses, and the reservations that they end.
use Rattle.std.specs.Prelude.{◌≡◌, ℕ, zero, suc, ◌/◌, Bool, false, ◌||◌, nat_eq, Option, Some, None, if◌then◌else◌}
use Rattle.elf_image.specs.Memory.{next}
use Rattle.rv_model.specs.declared.state.Thread.{Thread}
use Rattle.rv_model.specs.declared.state.Note as model
use Rattle.rv_model.specs.declared.hearing.Access.{Access}
use Rattle.rv_model.specs.declared.hearing.Outcome.{Outcome}
use Rattle.rv_model.specs.declared.hearing.Outcome.TheVariants.{Faults, Goes}
use Rattle.rv_model.specs.Thread.{touches}
use Rattle.rv_model.specs.Calls.{first_argument}
use Rattle.rv_model.specs.Instruction.{call_writes}
use Rattle.rv_model.specs.declared.state.Local.{Local}
use Rattle.rv_model.specs.declared.state.Note.TheVariants as shown

-- one of this many bytes from an address on is in the aligned word at another one
abbrev pub touches_from : ℕ → ℕ → ℕ → Bool
touches_from address zero reserved = false
touches_from address (suc count) reserved = nat_eq (address / 4) (reserved / 4) || touches_from (next address) count reserved

abbrev pub touches_span : Access → ℕ → Bool
touches_span span reserved = touches_from span.address span.count reserved

abbrev pub kept_by : (ℕ → Bool) → Option ℕ → Option ℕ
kept_by test None = None
kept_by test (Some reserved) = if test reserved then None else Some reserved

-- a thread without a reservation that the test ends
abbrev pub losing_by : (ℕ → Bool) → Thread → Thread
losing_by test thread = record thread { reservation = kept_by test thread.reservation }

-- the span has what the instruction wrote
abbrev pub SpansWrites : Outcome → model.Note → Access → Type 0
SpansWrites (Faults fault) shown span = Unit {0}
SpansWrites (Goes local writes own) shown span = own ≡ shown → (reserved : ℕ) → touches writes reserved ≡ touches_span span reserved

-- the span has what a call of this note wrote
abbrev pub CallSpans : Local → model.Note → Access → ℕ → Type 0
CallSpans local (shown.Called made) span reserved = touches (call_writes (first_argument local) made) reserved ≡ touches_span span reserved
CallSpans local shown.Nothing span reserved = Unit {0}
CallSpans local (shown.Branch taken) span reserved = Unit {0}
CallSpans local (shown.Jump target) span reserved = Unit {0}
CallSpans local (shown.Faulted fault) span reserved = Unit {0}
