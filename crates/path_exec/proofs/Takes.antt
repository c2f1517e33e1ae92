-- A step of any kind, by what its kind promises.
use Rattle.std.proofs.Common.{◌≡◌, ℕ, true, List, refl, sym, ◌∙◌, ap, subst, inl}
use Rattle.std.specs.Prelude.{◌⊎◌, is_some}
use Rattle.std.proofs.lemmas.Bool.{false≢true}
use Rattle.elf_image.specs.Layout.{Layout}
use Rattle.rv32_decode.specs.declared.instr.Instr.{Instr}
use Rattle.rv32_decode.specs.declared.instr.Instr.TheVariants as instr
use Rattle.odr_log.specs.declared.log.Call.{Call}
use Rattle.odr_log.specs.declared.log.Pos.{Pos}
use Rattle.rv_model.specs.declared.state.Note.{Note}
use Rattle.rv_model.specs.declared.state.Note.TheVariants as note
use Rattle.rv_model.specs.declared.walk.Place.{Place}
use Rattle.rv_model.specs.Walk.{goes_to, transfer_of}
use Rattle.bv_terms.specs.declared.node.TermId.{TermId}
use Rattle.bv_terms.specs.Shapes.{Shape}
use Rattle.bv_terms.specs.Values.{Assignment, value_at}
use Rattle.bv_terms.specs.Variables.{Occurs}
use Rattle.thread_terms.specs.declared.access.Stepped.{Stepped}
use Rattle.thread_terms.specs.Steps.{IsStep, IsStepWith, OfRegistersOr}
use Rattle.call_terms.specs.Steps.{IsCallStep}
use Rattle.path_exec.specs.declared.walker.Walker.{Walker}
use Rattle.path_exec.specs.Following.{IsTaken}

-- only an ECALL is recorded as a call
pub ecall_of : (pc : ℕ) (i : Instr) (made : Call) → is_some (goes_to pc (transfer_of pc i) (note.Called made)) ≡ true → i ≡ instr.Ecall
unfolding transfer_of
ecall_of pc instr.Ecall made e = refl
ecall_of pc (instr.Lui rd imm) made e = absurd (false≢true e)
ecall_of pc (instr.Auipc rd imm) made e = absurd (false≢true e)
ecall_of pc (instr.Jal rd offset) made e = absurd (false≢true e)
ecall_of pc (instr.Jalr rd rs1 offset) made e = absurd (false≢true e)
ecall_of pc (instr.Branch op rs1 rs2 offset) made e = absurd (false≢true e)
ecall_of pc (instr.Load op rd rs1 offset) made e = absurd (false≢true e)
ecall_of pc (instr.Store op rs1 rs2 offset) made e = absurd (false≢true e)
ecall_of pc (instr.Imm op rd rs1 imm) made e = absurd (false≢true e)
ecall_of pc (instr.Op op rd rs1 rs2) made e = absurd (false≢true e)
ecall_of pc (instr.Fence rd rs1 imm) made e = absurd (false≢true e)
ecall_of pc instr.Ebreak made e = absurd (false≢true e)
ecall_of pc (instr.LoadReserved rd rs1 aq rl) made e = absurd (false≢true e)
ecall_of pc (instr.StoreConditional rd rs1 rs2 aq rl) made e = absurd (false≢true e)
ecall_of pc (instr.Amo op rd rs1 rs2 aq rl) made e = absurd (false≢true e)

-- an ECALL that leads on is recorded as a call
pub not_ecall : (pc : ℕ) (i : Instr) (shown : Note) → ((made : Call) → shown ≡ note.Called made → ⊥) → is_some (goes_to pc (transfer_of pc i) shown) ≡ true → i ≡ instr.Ecall → ⊥
unfolding transfer_of
not_ecall pc i shown other e same = by_note shown other (ap (λ (x : Instr). is_some (goes_to pc (transfer_of pc x) shown)) (sym same) ∙ e)
  where
    by_note : (n : Note) → ((made : Call) → n ≡ note.Called made → ⊥) → is_some (goes_to pc (transfer_of pc instr.Ecall) n) ≡ true → ⊥
    by_note (note.Called made) no_call h = no_call made refl
    by_note note.Nothing no_call h = false≢true h
    by_note (note.Branch taken) no_call h = false≢true h
    by_note (note.Jump target) no_call h = false≢true h
    by_note (note.Faulted fault) no_call h = false≢true h

pub called_taken : (image : Layout) (p : Pos) (place : Place) (made : Call) (shown : Note) (walker : Walker) (old new : List Shape) (after : List TermId) (joined : TermId) (stepped : Stepped) → shown ≡ note.Called made
    → place.instr ≡ instr.Ecall → IsCallStep image p made joined.number old new walker.registers after stepped → IsTaken image p place shown walker old new after joined stepped
called_taken image p place made shown walker old new after joined stepped shows ecall step =
    subst (λ (n : Note). IsTaken image p place n walker old new after joined stepped) (sym shows)
    (subst (λ (i : Instr). IsStepWith (λ (w : Assignment). value_at w old joined.number)
    (λ width number. OfRegistersOr old walker.registers stepped.access width number ⊎ Occurs old width number joined.number)
    image p place.pc i (note.Called made) walker.link old new walker.registers after stepped) (sym ecall) (step place.pc walker.link))

pub next_taken : (image : Layout) (p : Pos) (place : Place) (shown : Note) (walker : Walker) (old new : List Shape) (after : List TermId) (joined : TermId) (stepped : Stepped)
    → IsStep image p place.pc place.instr shown walker.link old new walker.registers after stepped → IsTaken image p place shown walker old new after joined stepped
next_taken image p place shown walker old new after joined stepped step =
    let s = step (λ (w : Assignment). value_at w old joined.number) in
    record {
      bit = s.bit;
      constraint_from = s.constraint_from;
      meets = s.meets;
      stands = s.stands;
      shows = s.shows;
      accesses = s.accesses;
      own = s.own;
      variables = λ width number there. inl (s.variables width number there);
    }
