-- A spawned thread has a number below eight, so that a log can spell its call.
use Rattle.std.specs.Prelude.{◌≡◌, ℕ, ◌*◌, ◌/◌, ◌%◌, ◌<◌, Bool, true, false, cond, ◌&&◌, List, [], nat_eq, nat_lt, IfSome, Option, Some, None, Result, Ok, Err, refl, if◌then◌else◌}
use Rattle.std.proofs.Common.{arith}
use Rattle.std.proofs.lemmas.Bool.{ltb-true}
use Rattle.elf_image.specs.Memory.{bytes_of}
use Rattle.elf_image.specs.Layout.{Layout}
use Rattle.rv32_decode.specs.declared.instr.Instr.{Instr}
use Rattle.rv32_decode.specs.declared.instr.Instr.TheVariants as instr
use Rattle.odr_log.specs.declared.log.Cause.{Cause}
use Rattle.odr_log.specs.declared.log.Cause.TheVariants as cause
use Rattle.odr_log.specs.declared.log.Call.{Call}
use Rattle.odr_log.specs.declared.log.Call.TheVariants as call
use Rattle.odr_log.specs.Grammar.{IsCall}
use Rattle.rv_model.specs.declared.state.Local.{Local}
use Rattle.rv_model.specs.declared.state.Calls.{Calls}
use Rattle.rv_model.specs.declared.state.Core.{Core}
use Rattle.rv_model.specs.declared.state.State.{State}
use Rattle.rv_model.specs.declared.state.Note.{Note}
use Rattle.rv_model.specs.declared.state.Note.TheVariants as note
use Rattle.rv_model.specs.declared.hearing.Reach.{Reach}
use Rattle.rv_model.specs.declared.hearing.Reply.{Reply}
use Rattle.rv_model.specs.declared.hearing.Heard.{Heard}
use Rattle.rv_model.specs.declared.hearing.Kind.{Kind}
use Rattle.rv_model.specs.declared.hearing.Kind.TheVariants as kind
use Rattle.rv_model.specs.declared.hearing.Asked.{Asked}
use Rattle.rv_model.specs.declared.hearing.Asked.TheVariants as asked
use Rattle.rv_model.specs.declared.hearing.Outcome.{Outcome}
use Rattle.rv_model.specs.declared.hearing.Outcome.TheVariants.{Faults, Goes}
use Rattle.rv_model.specs.Values.{plus_offset, taken_of, extended, amo_of}
use Rattle.rv_model.specs.Thread.{register, with_register, next_pc, gone_to}
use Rattle.rv_model.specs.Calls.{made, kind_at, reply_to, record_of}
use Rattle.rv_model.specs.Instruction.{act, act_at, asked_at, is_aligned, may_amo, word_in, branches, loads, atomically}
use Rattle.rv_model.specs.Step.{memory_of, thread_at, next_instr, reach_at, heard_at, applied, effect, step}
use Rattle.rv_model.specs.Run.{record_in}
use Rattle.guest_calls.specs.Notes.{FitsFields}

abbrev pub IsSmall : Note → Type 0
IsSmall (note.Called (call.Spawn entry child)) = IfSome child (λ number. number < 8)
IsSmall other = Unit {0}

abbrev SmallAfter : Outcome → Type 0
SmallAfter (Faults fault) = Unit {0}
SmallAfter (Goes local writes shown) = IsSmall shown

small-cond : (b : Bool) (x y : Outcome) → SmallAfter x → SmallAfter y → SmallAfter (cond b x y)
small-cond true x y p q = p
small-cond false x y p q = q

small-loads : (local : Local) (rd : ℕ) (extend : ℕ → ℕ) (bytes : Option (List ℕ)) → SmallAfter (loads local rd extend bytes)
small-loads local rd extend None = tt
small-loads local rd extend (Some bytes) = tt

small-branches : (local : Local) (taken : Bool) (target : ℕ) → SmallAfter (branches local taken target)
small-branches local true target = small-cond (is_aligned target) (Goes (gone_to local target) [] (note.Branch true)) (Faults cause.Misaligned) tt tt
small-branches local false target = tt

small-atomically : (local : Local) (rd address : ℕ) (reach : Reach) (value : ℕ) (bytes : List ℕ) → SmallAfter (atomically local rd address reach value bytes)
small-atomically local rd address reach value bytes = small-cond (may_amo address reach) _ (Faults cause.AmoFault) tt tt

small-record : (k : Kind) (reply : Reply) → IfSome reply.child (λ number. number < 8) → IsSmall (note.Called (record_of k reply))
small-record (kind.Exit code) reply small = tt
small-record kind.EndThread reply small = tt
small-record (kind.Spawn entry) reply small = small
small-record (kind.Join target) reply small = tt
small-record (kind.Lock mutex) reply small = tt
small-record (kind.Unlock mutex) reply small = tt
small-record (kind.TryLock mutex) reply small = tt
small-record (kind.Write bytes) reply small = tt
small-record kind.WriteBad reply small = tt
small-record (kind.Read want) reply small = tt
small-record kind.ReadBad reply small = tt
small-record kind.SelfId reply small = tt
small-record kind.Yield reply small = tt
small-record (kind.Unknown number) reply small = tt

small-act : (local : Local) (instruction : Instr) (heard : Heard) → IfSome heard.reply.child (λ number. number < 8) → SmallAfter (act local instruction heard)
unfolding act
small-act local (instr.Lui rd imm) heard small = tt
small-act local (instr.Auipc rd imm) heard small = tt
small-act local (instr.Jal rd offset) heard small =
    small-cond (is_aligned (plus_offset local.pc offset)) (Goes (gone_to (with_register local rd (next_pc local)) (plus_offset local.pc offset)) [] note.Nothing) (Faults cause.Misaligned) tt tt
small-act local (instr.Jalr rd rs1 offset) heard small =
    let target : ℕ = plus_offset (register local rs1) offset / 2 * 2 in
    small-cond (is_aligned target) (Goes (gone_to (with_register local rd (next_pc local)) target) [] (note.Jump target)) (Faults cause.Misaligned) tt tt
small-act local (instr.Branch op rs1 rs2 offset) heard small = small-branches local (taken_of op (register local rs1) (register local rs2)) (plus_offset local.pc offset)
small-act local (instr.Load op rd rs1 offset) heard small = small-loads local rd (extended op) heard.reach.bytes
small-act local (instr.Store op rs1 rs2 offset) heard small = small-cond heard.reach.writable _ (Faults cause.StoreFault) tt tt
small-act local (instr.Imm op rd rs1 imm) heard small = tt
small-act local (instr.Op op rd rs1 rs2) heard small = tt
small-act local (instr.Fence rd rs1 imm) heard small = tt
small-act local instr.Ecall heard small = small-record (kind_at local heard.reach) heard.reply small
small-act local instr.Ebreak heard small = tt
small-act local (instr.LoadReserved rd rs1 aq rl) heard small = small-atomically local rd (register local rs1) heard.reach (word_in heard.reach) []
small-act local (instr.StoreConditional rd rs1 rs2 aq rl) heard small =
    small-cond heard.won _ _ (small-atomically local rd (register local rs1) heard.reach 0 (bytes_of 4 (register local rs2))) (small-atomically local rd (register local rs1) heard.reach 1 [])
small-act local (instr.Amo op rd rs1 rs2 aq rl) heard small =
    small-atomically local rd (register local rs1) heard.reach (word_in heard.reach) (bytes_of 4 (amo_of op (word_in heard.reach) (register local rs2)))

small-act_at : (local : Local) (fetched : Result Instr Cause) (heard : Heard) → IfSome heard.reply.child (λ number. number < 8) → SmallAfter (act_at local fetched heard)
small-act_at local (Err fault) heard small = tt
small-act_at local (Ok instruction) heard small = small-act local instruction heard small

small-given : (aligned : Bool) (n : ℕ) (room : Bool) → nat_lt n 8 ≡ room → IfSome (if aligned && room then Some n else None) (λ number. number < 8)
small-given true n true e = ltb-true n 8 e
small-given true n false e = tt
small-given false n room e = tt

small-reply : (calls : Calls) (t : ℕ) (question : Option Asked) → IfSome (reply_to calls t question).child (λ number. number < 8)
small-reply calls t None = tt
small-reply calls t (Some (asked.Spawn entry)) = small-given (nat_eq (entry % 4) 0) (made calls) (nat_lt (made calls) 8) refl
small-reply calls t (Some (asked.Join target)) = tt
small-reply calls t (Some (asked.Lock mutex)) = tt
small-reply calls t (Some (asked.Unlock mutex)) = tt
small-reply calls t (Some (asked.TryLock mutex)) = tt
small-reply calls t (Some (asked.Read want)) = tt

small-applied : (core : Core) (t : ℕ) (reservation : Option ℕ) (o : Outcome) → SmallAfter o → IsSmall (applied core t reservation o).note
small-applied core t reservation (Faults fault) small = tt
small-applied core t reservation (Goes local writes shown) small = small

pub step_small : (image : Layout) (state : State) (t : ℕ) → IsSmall (step image state t).note
unfolding step effect
step_small image state t =
    small-applied state.core t _ _
    (small-act_at (thread_at state.core t).local (next_instr image state.core t) (heard_at image (memory_of image state) state.core t)
    (small-reply state.core.calls t (asked_at (thread_at state.core t).local (next_instr image state.core t) (reach_at image (memory_of image state) state.core t))))

spell_child : (child : Option ℕ) → IfSome child (λ number. number < 8) → IfSome child (λ number. number < 255)
spell_child None small = tt
spell_child (Some child) small = omega arith

spell_call : (c : Call) → FitsFields c → IsSmall (note.Called c) → IsCall c
spell_call (call.Exit code) fits small = fits
spell_call call.EndThread fits small = tt
spell_call (call.Spawn entry child) fits small = (fits, spell_child child small)
spell_call (call.Join target ok) fits small = fits
spell_call (call.Lock mutex ok) fits small = fits
spell_call (call.Unlock mutex ok) fits small = fits
spell_call (call.TryLock mutex got) fits small = fits
spell_call (call.Write bytes) fits small = fits
spell_call call.WriteBad fits small = tt
spell_call (call.Read want bytes) fits small = fits
spell_call call.ReadBad fits small = tt
spell_call call.SelfId fits small = tt
spell_call call.Yield fits small = tt
spell_call (call.Unknown number) fits small = fits

pub can_spell : (t at : ℕ) (shown : Note) → IfSome (record_in (record { thread = t; at = at; note = shown })) (λ r. FitsFields r.call) → IsSmall shown
    → IfSome (record_in (record { thread = t; at = at; note = shown })) (λ r. IsCall r.call)
can_spell t at note.Nothing fits small = tt
can_spell t at (note.Branch taken) fits small = tt
can_spell t at (note.Jump target) fits small = tt
can_spell t at (note.Faulted fault) fits small = tt
can_spell t at (note.Called c) fits small = spell_call c fits small
