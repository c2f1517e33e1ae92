-- What holds of every instruction: which call it notes, where it leads, and when the bytes of its access matter.
use Rattle.std.specs.Prelude.{◌≡◌, ℕ, ◌*◌, ◌/◌, Bool, true, false, not, ◌&&◌, cond, List, [], nat_eq, Option, Some, None, unwrap_or, is_some, Result, Ok, Err, refl}
use Rattle.std.proofs.Common.{sym, ◌∙◌, ap, subst}
use Rattle.elf_image.specs.Memory.{writes_of, number_of, bytes_of}
use Rattle.elf_image.specs.Layout.{Layout, fetch_of}
use Rattle.rv32_decode.specs.declared.instr.Instr.{Instr}
use Rattle.rv32_decode.specs.declared.instr.Instr.TheVariants as instr
use Rattle.rv32_decode.specs.Table.{decode_of}
use Rattle.odr_log.specs.declared.log.Cause.{Cause}
use Rattle.odr_log.specs.declared.log.Cause.TheVariants as cause
use Rattle.rv_model.specs.declared.state.Local.{Local}
use Rattle.rv_model.specs.declared.state.Calls.{Calls}
use Rattle.rv_model.specs.declared.state.Note.{Note}
use Rattle.rv_model.specs.declared.state.Note.TheVariants as note
use Rattle.rv_model.specs.declared.hearing.Reach.{Reach}
use Rattle.rv_model.specs.declared.hearing.Reply.{Reply}
use Rattle.rv_model.specs.declared.hearing.Asked.{Asked}
use Rattle.rv_model.specs.declared.hearing.Kind.{Kind}
use Rattle.rv_model.specs.declared.hearing.Kind.TheVariants as kind
use Rattle.rv_model.specs.declared.hearing.Heard.{Heard}
use Rattle.rv_model.specs.declared.hearing.Outcome.{Outcome}
use Rattle.rv_model.specs.declared.hearing.Outcome.TheVariants.{Faults, Goes}
use Rattle.rv_model.specs.declared.walk.Transfer.{Transfer}
use Rattle.rv_model.specs.declared.walk.Transfer.TheVariants as transfer
use Rattle.rv_model.specs.Values.{plus_offset, taken_of, extended, amo_of, store_size}
use Rattle.rv_model.specs.Thread.{register, with_register, word_after, next_pc, onward, gone_to}
use Rattle.rv_model.specs.Calls.{fits_buffer, writing, kind_at, asked_of, asked_in, record_of, reply_to, number_of_call, first_argument, second_argument}
use Rattle.rv_model.specs.CallsFit.{reply_in}
use Rattle.rv_model.specs.Instruction.{act, act_at, asked_by, asked_at, is_aligned, may_amo, word_in, computes, branches, loads, atomically, calls_out, reads_by, reads_at}
use Rattle.rv_model.specs.Step.{decoded, fetched, instr_at}
use Rattle.rv_model.specs.Walk.{transfer_of, goes_to, may_fault, may_misalign}
use Rattle.rv_model.specs.Noted.{note_in, asked_noted, reply_noted, CallsBy, LeadsOn, over_bytes, hears_bytes}

-- what holds of two outcomes holds of the one that is chosen
either : (P : Outcome → Type 0) (b : Bool) (x y : Outcome) → P x → P y → P (cond b x y)
either P true x y p q = p
either P false x y p q = q

-- ---- the call that a step notes

abbrev Asks : Option Asked → Heard → Outcome → Type 0
Asks asked heard o = CallsBy asked heard.reply (note_in o)

asks-loads : (local : Local) (rd : ℕ) (extend : ℕ → ℕ) (bytes : Option (List ℕ)) (heard : Heard) → Asks None heard (loads local rd extend bytes)
asks-loads local rd extend None heard = refl
asks-loads local rd extend (Some bytes) heard = refl

asks-branches : (local : Local) (taken : Bool) (target : ℕ) (heard : Heard) → Asks None heard (branches local taken target)
asks-branches local true target heard = either (Asks None heard) (is_aligned target) (Goes (gone_to local target) [] (note.Branch true)) (Faults cause.Misaligned) refl refl
asks-branches local false target heard = refl

asks-atomically : (local : Local) (rd address : ℕ) (reach : Reach) (value : ℕ) (bytes : List ℕ) (heard : Heard) → Asks None heard (atomically local rd address reach value bytes)
asks-atomically local rd address reach value bytes heard =
    either (Asks None heard) (may_amo address reach) (Goes (onward (with_register local rd value)) (writes_of address bytes []) note.Nothing) (Faults cause.AmoFault) refl refl

-- a step notes the record of the call that it asked about, or asked nothing
pub calls_act : (local : Local) (instruction : Instr) (heard : Heard) → CallsBy (asked_by local instruction heard.reach) heard.reply (note_in (act local instruction heard))
unfolding act asked_by
calls_act local (instr.Lui rd imm) heard = refl
calls_act local (instr.Auipc rd imm) heard = refl
calls_act local (instr.Jal rd offset) heard =
    either (Asks None heard) (is_aligned (plus_offset local.pc offset)) (Goes (gone_to (with_register local rd (next_pc local)) (plus_offset local.pc offset)) [] note.Nothing) (Faults cause.Misaligned) refl refl
calls_act local (instr.Jalr rd rs1 offset) heard =
    let target : ℕ = plus_offset (register local rs1) offset / 2 * 2 in
    either (Asks None heard) (is_aligned target) (Goes (gone_to (with_register local rd (next_pc local)) target) [] (note.Jump target)) (Faults cause.Misaligned) refl refl
calls_act local (instr.Branch op rs1 rs2 offset) heard = asks-branches local (taken_of op (register local rs1) (register local rs2)) (plus_offset local.pc offset) heard
calls_act local (instr.Load op rd rs1 offset) heard = asks-loads local rd (extended op) heard.reach.bytes heard
calls_act local (instr.Store op rs1 rs2 offset) heard =
    either (Asks None heard) heard.reach.writable (Goes (onward local) (writes_of (plus_offset (register local rs1) offset) (bytes_of (store_size op) (register local rs2)) []) note.Nothing) (Faults cause.StoreFault) refl refl
calls_act local (instr.Imm op rd rs1 imm) heard = refl
calls_act local (instr.Op op rd rs1 rs2) heard = refl
calls_act local (instr.Fence rd rs1 imm) heard = refl
calls_act local instr.Ecall heard = (kind_at local heard.reach, refl, refl)
calls_act local instr.Ebreak heard = refl
calls_act local (instr.LoadReserved rd rs1 aq rl) heard = asks-atomically local rd (register local rs1) heard.reach (word_in heard.reach) [] heard
calls_act local (instr.StoreConditional rd rs1 rs2 aq rl) heard =
    either (Asks None heard) heard.won (atomically local rd (register local rs1) heard.reach 0 (bytes_of 4 (register local rs2))) (atomically local rd (register local rs1) heard.reach 1 [])
    (asks-atomically local rd (register local rs1) heard.reach 0 (bytes_of 4 (register local rs2)) heard) (asks-atomically local rd (register local rs1) heard.reach 1 [] heard)
calls_act local (instr.Amo op rd rs1 rs2 aq rl) heard =
    asks-atomically local rd (register local rs1) heard.reach (word_in heard.reach) (bytes_of 4 (amo_of op (word_in heard.reach) (register local rs2))) heard

pub calls_act_at : (local : Local) (fetched : Result Instr Cause) (heard : Heard) → CallsBy (asked_at local fetched heard.reach) heard.reply (note_in (act_at local fetched heard))
calls_act_at local (Err fault) heard = refl
calls_act_at local (Ok instruction) heard = calls_act local instruction heard

asked_record : (k : Kind) (reply : Reply) → asked_in (record_of k reply) ≡ asked_of k
asked_record (kind.Exit code) reply = refl
asked_record kind.EndThread reply = refl
asked_record (kind.Spawn entry) reply = refl
asked_record (kind.Join target) reply = refl
asked_record (kind.Lock mutex) reply = refl
asked_record (kind.Unlock mutex) reply = refl
asked_record (kind.TryLock mutex) reply = refl
asked_record (kind.Write bytes) reply = refl
asked_record kind.WriteBad reply = refl
asked_record (kind.Read want) reply = refl
asked_record kind.ReadBad reply = refl
asked_record kind.SelfId reply = refl
asked_record kind.Yield reply = refl
asked_record (kind.Unknown number) reply = refl

replied_record : (calls : Calls) (t : ℕ) (k : Kind) → reply_in (record_of k (reply_to calls t (asked_of k))) ≡ reply_to calls t (asked_of k)
replied_record calls t (kind.Exit code) = refl
replied_record calls t kind.EndThread = refl
replied_record calls t (kind.Spawn entry) = refl
replied_record calls t (kind.Join target) = refl
replied_record calls t (kind.Lock mutex) = refl
replied_record calls t (kind.Unlock mutex) = refl
replied_record calls t (kind.TryLock mutex) = refl
replied_record calls t (kind.Write bytes) = refl
replied_record calls t kind.WriteBad = refl
replied_record calls t (kind.Read want) = refl
replied_record calls t kind.ReadBad = refl
replied_record calls t kind.SelfId = refl
replied_record calls t kind.Yield = refl
replied_record calls t (kind.Unknown number) = refl

asked_told : (question : Option Asked) (reply : Reply) (shown : Note) → CallsBy question reply shown → asked_noted shown ≡ question
asked_told question reply (note.Called made) by = ap asked_in by.1 ∙ asked_record by.0 reply ∙ sym by.2
asked_told question reply note.Nothing by = sym by
asked_told question reply (note.Branch taken) by = sym by
asked_told question reply (note.Jump target) by = sym by
asked_told question reply (note.Faulted fault) by = sym by

reply_told : (calls : Calls) (t : ℕ) (question : Option Asked) (reply : Reply) (shown : Note) → CallsBy question reply shown → reply_to calls t question ≡ reply → reply_noted shown ≡ reply
reply_told calls t question reply (note.Called made) by e =
    ap reply_in by.1 ∙ subst (λ (r : Reply). reply_in (record_of by.0 r) ≡ r) (ap (reply_to calls t) (sym by.2) ∙ e) (replied_record calls t by.0)
reply_told calls t question reply note.Nothing by e = ap (reply_to calls t) (sym by) ∙ e
reply_told calls t question reply (note.Branch taken) by e = ap (reply_to calls t) (sym by) ∙ e
reply_told calls t question reply (note.Jump target) by e = ap (reply_to calls t) (sym by) ∙ e
reply_told calls t question reply (note.Faulted fault) by e = ap (reply_to calls t) (sym by) ∙ e

-- what the note asked is what the step asked, whatever it heard
pub asked_act : (local : Local) (fetched : Result Instr Cause) (heard : Heard) → asked_noted (note_in (act_at local fetched heard)) ≡ asked_at local fetched heard.reach
asked_act local fetched heard = asked_told (asked_at local fetched heard.reach) heard.reply (note_in (act_at local fetched heard)) (calls_act_at local fetched heard)

-- what the note was replied is what the step heard, where the shared state replied
pub told_act : (calls : Calls) (t : ℕ) (local : Local) (fetched : Result Instr Cause) (heard : Heard) → reply_to calls t (asked_at local fetched heard.reach) ≡ heard.reply
    → reply_noted (note_in (act_at local fetched heard)) ≡ heard.reply
told_act calls t local fetched heard e =
    reply_told calls t (asked_at local fetched heard.reach) heard.reply (note_in (act_at local fetched heard)) (calls_act_at local fetched heard) e

-- ---- where a step leads

pc-kept : (b : Bool) (local other : Local) → other.pc ≡ local.pc → (cond b local other).pc ≡ local.pc
pc-kept true local other e = refl
pc-kept false local other e = e

pub pc-with : (local : Local) (rd value : ℕ) → (with_register local rd value).pc ≡ local.pc
pc-with local rd value = pc-kept (nat_eq rd 0) local _ refl

next-with : (local : Local) (rd value : ℕ) → Some (word_after local.pc) ≡ Some (onward (with_register local rd value)).pc
next-with local rd value = ap (λ (pc : ℕ). Some (word_after pc)) (sym (pc-with local rd value))

leads-computes : (local : Local) (i : Instr) (rd value : ℕ) → transfer_of local.pc i ≡ transfer.Next → LeadsOn local.pc (Ok i) (computes local rd value)
leads-computes local i rd value e = (i, refl, ap (λ (t : Transfer). goes_to local.pc t note.Nothing) e ∙ next-with local rd value)

leads-jumps : (local after : Local) (i : Instr) (target : ℕ) (shown : Note) (b : Bool) → after.pc ≡ target
    → goes_to local.pc (transfer_of local.pc i) shown ≡ cond b (Some target) None → (b ≡ false → may_fault cause.Misaligned local.pc (Ok i) ≡ true)
    → LeadsOn local.pc (Ok i) (cond b (Goes after [] shown) (Faults cause.Misaligned))
leads-jumps local after i target shown true e goes faults = (i, refl, goes ∙ ap Some (sym e))
leads-jumps local after i target shown false e goes faults = faults refl

leads-branches : (local : Local) (i : Instr) (taken : Bool) (target : ℕ) → transfer_of local.pc i ≡ transfer.Branch target → LeadsOn local.pc (Ok i) (branches local taken target)
leads-branches local i true target e =
    leads-jumps local (gone_to local target) i target (note.Branch true) (is_aligned target) refl (ap (λ (t : Transfer). goes_to local.pc t (note.Branch true)) e)
    (λ (odd : is_aligned target ≡ false). misaligned (transfer_of local.pc i) e odd)
  where
    misaligned : (t : Transfer) → t ≡ transfer.Branch target → is_aligned target ≡ false → may_misalign t ≡ true
    misaligned t same odd = ap (λ (u : Transfer). may_misalign u) same ∙ ap not odd
leads-branches local i false target e = (i, refl, ap (λ (t : Transfer). goes_to local.pc t (note.Branch false)) e)

leads-loads : (local : Local) (i : Instr) (rd : ℕ) (extend : ℕ → ℕ) (bytes : Option (List ℕ)) → transfer_of local.pc i ≡ transfer.Next → may_fault cause.LoadFault local.pc (Ok i) ≡ true
    → LeadsOn local.pc (Ok i) (loads local rd extend bytes)
leads-loads local i rd extend None e faults = faults
leads-loads local i rd extend (Some bytes) e faults = leads-computes local i rd (extend (number_of bytes)) e

leads-atomically : (local : Local) (i : Instr) (rd address : ℕ) (reach : Reach) (value : ℕ) (bytes : List ℕ) → transfer_of local.pc i ≡ transfer.Next
    → may_fault cause.AmoFault local.pc (Ok i) ≡ true → LeadsOn local.pc (Ok i) (atomically local rd address reach value bytes)
leads-atomically local i rd address reach value bytes e faults =
    either (LeadsOn local.pc (Ok i)) (may_amo address reach) (Goes (onward (with_register local rd value)) (writes_of address bytes []) note.Nothing) (Faults cause.AmoFault)
    (i, refl, ap (λ (t : Transfer). goes_to local.pc t note.Nothing) e ∙ next-with local rd value) faults

-- a step goes on where its note leads
pub walks_on : (local : Local) (instruction : Instr) (heard : Heard) → LeadsOn local.pc (Ok instruction) (act local instruction heard)
unfolding act transfer_of
walks_on local (instr.Lui rd imm) heard = leads-computes local (instr.Lui rd imm) rd imm refl
walks_on local (instr.Auipc rd imm) heard = leads-computes local (instr.Auipc rd imm) rd _ refl
walks_on local (instr.Jal rd offset) heard =
    leads-jumps local (gone_to (with_register local rd (next_pc local)) (plus_offset local.pc offset)) (instr.Jal rd offset) (plus_offset local.pc offset) note.Nothing (is_aligned (plus_offset local.pc offset)) refl
    refl (λ (odd : is_aligned (plus_offset local.pc offset) ≡ false). ap not odd)
walks_on local (instr.Jalr rd rs1 offset) heard =
    let target : ℕ = plus_offset (register local rs1) offset / 2 * 2 in
    leads-jumps local (gone_to (with_register local rd (next_pc local)) target) (instr.Jalr rd rs1 offset) target (note.Jump target) (is_aligned target) refl
    refl (λ (odd : is_aligned target ≡ false). refl)
walks_on local (instr.Branch op rs1 rs2 offset) heard =
    leads-branches local (instr.Branch op rs1 rs2 offset) (taken_of op (register local rs1) (register local rs2)) (plus_offset local.pc offset) refl
walks_on local (instr.Load op rd rs1 offset) heard = leads-loads local (instr.Load op rd rs1 offset) rd (extended op) heard.reach.bytes refl refl
walks_on local (instr.Store op rs1 rs2 offset) heard =
    either (LeadsOn local.pc (Ok (instr.Store op rs1 rs2 offset))) heard.reach.writable
    (Goes (onward local) (writes_of (plus_offset (register local rs1) offset) (bytes_of (store_size op) (register local rs2)) []) note.Nothing) (Faults cause.StoreFault)
    (instr.Store op rs1 rs2 offset, refl, refl) refl
walks_on local (instr.Imm op rd rs1 imm) heard = leads-computes local (instr.Imm op rd rs1 imm) rd _ refl
walks_on local (instr.Op op rd rs1 rs2) heard = leads-computes local (instr.Op op rd rs1 rs2) rd _ refl
walks_on local (instr.Fence rd rs1 imm) heard = (instr.Fence rd rs1 imm, refl, refl)
walks_on local instr.Ecall heard = (instr.Ecall, refl, refl)
walks_on local instr.Ebreak heard = refl
walks_on local (instr.LoadReserved rd rs1 aq rl) heard =
    leads-atomically local (instr.LoadReserved rd rs1 aq rl) rd (register local rs1) heard.reach (word_in heard.reach) [] refl refl
walks_on local (instr.StoreConditional rd rs1 rs2 aq rl) heard =
    either (LeadsOn local.pc (Ok (instr.StoreConditional rd rs1 rs2 aq rl))) heard.won
    (atomically local rd (register local rs1) heard.reach 0 (bytes_of 4 (register local rs2))) (atomically local rd (register local rs1) heard.reach 1 [])
    (leads-atomically local (instr.StoreConditional rd rs1 rs2 aq rl) rd (register local rs1) heard.reach 0 (bytes_of 4 (register local rs2)) refl refl)
    (leads-atomically local (instr.StoreConditional rd rs1 rs2 aq rl) rd (register local rs1) heard.reach 1 [] refl refl)
walks_on local (instr.Amo op rd rs1 rs2 aq rl) heard =
    leads-atomically local (instr.Amo op rd rs1 rs2 aq rl) rd (register local rs1) heard.reach (word_in heard.reach) (bytes_of 4 (amo_of op (word_in heard.reach) (register local rs2))) refl refl

leads-decoded : (local : Local) (heard : Heard) (o : Option Instr) → LeadsOn local.pc (decoded o) (act_at local (decoded o) heard)
leads-decoded local heard None = refl
leads-decoded local heard (Some i) = walks_on local i heard

leads-fetched : (local : Local) (heard : Heard) (o : Option ℕ) → LeadsOn local.pc (fetched o) (act_at local (fetched o) heard)
leads-fetched local heard None = refl
leads-fetched local heard (Some word) = leads-decoded local heard (decode_of word)

pub walks_on_at : (image : Layout) (local : Local) (heard : Heard) → LeadsOn local.pc (instr_at image local.pc) (act_at local (instr_at image local.pc) heard)
unfolding instr_at
walks_on_at image local heard = leads-fetched local heard (fetch_of image local.pc)

-- ---- the bytes of an access

-- a write call's bytes in the chain of numbers
abbrev before_write : ℕ → ℕ → Kind → Kind
before_write number a0 later =
    cond (nat_eq number 1) (kind.Exit a0) (cond (nat_eq number 2) kind.EndThread (cond (nat_eq number 3) (kind.Spawn a0) (cond (nat_eq number 4) (kind.Join a0)
    (cond (nat_eq number 5) (kind.Lock a0) (cond (nat_eq number 6) (kind.Unlock a0) (cond (nat_eq number 7) (kind.TryLock a0) later))))))

write_same : (b fits : Bool) (bytes other : Option (List ℕ)) (later : Kind) → (b && fits ≡ true → other ≡ bytes)
    → cond b (cond fits (writing other) kind.WriteBad) later ≡ cond b (cond fits (writing bytes) kind.WriteBad) later
write_same true true bytes other later same = ap writing (same refl)
write_same true false bytes other later same = refl
write_same false fits bytes other later same = refl

kind_same : (local : Local) (reach : Reach) (other : Option (List ℕ)) → (reads_by local instr.Ecall ≡ true → other ≡ reach.bytes) → kind_at local (over_bytes reach other) ≡ kind_at local reach
unfolding reads_by
kind_same local reach other same =
    ap (before_write (number_of_call local) (first_argument local)) (write_same (nat_eq (number_of_call local) 8) (fits_buffer (second_argument local)) reach.bytes other _ same)

atomic_same : (aligned : Bool) (local : Local) (rd address : ℕ) (writable : Bool) (bytes other : Option (List ℕ)) (value : Option (List ℕ) → ℕ) (stored : Option (List ℕ) → List ℕ) → (aligned ≡ true → other ≡ bytes)
    → cond (aligned && (is_some other && writable)) (Goes (onward (with_register local rd (value other))) (writes_of address (stored other) []) note.Nothing) (Faults cause.AmoFault)
    ≡ cond (aligned && (is_some bytes && writable)) (Goes (onward (with_register local rd (value bytes))) (writes_of address (stored bytes) []) note.Nothing) (Faults cause.AmoFault)
atomic_same true local rd address writable bytes other value stored same =
    ap (λ (b : Option (List ℕ)). cond (is_some b && writable) (Goes (onward (with_register local rd (value b))) (writes_of address (stored b) []) note.Nothing) (Faults cause.AmoFault)) (same refl)
atomic_same false local rd address writable bytes other value stored same = refl

-- the bytes that an access meets matter to what reads them alone
pub bytes_act : (local : Local) (instruction : Instr) (heard : Heard) (other : Option (List ℕ)) → is_some other ≡ is_some heard.reach.bytes
    → (reads_by local instruction ≡ true → other ≡ heard.reach.bytes) → act local instruction (hears_bytes heard other) ≡ act local instruction heard
unfolding act reads_by
bytes_act local (instr.Lui rd imm) heard other some same = refl
bytes_act local (instr.Auipc rd imm) heard other some same = refl
bytes_act local (instr.Jal rd offset) heard other some same = refl
bytes_act local (instr.Jalr rd rs1 offset) heard other some same = refl
bytes_act local (instr.Branch op rs1 rs2 offset) heard other some same = refl
bytes_act local (instr.Load op rd rs1 offset) heard other some same = ap (loads local rd (extended op)) (same refl)
bytes_act local (instr.Store op rs1 rs2 offset) heard other some same = refl
bytes_act local (instr.Imm op rd rs1 imm) heard other some same = refl
bytes_act local (instr.Op op rd rs1 rs2) heard other some same = refl
bytes_act local (instr.Fence rd rs1 imm) heard other some same = refl
bytes_act local instr.Ecall heard other some same =
    ap (λ (k : Kind). calls_out local heard.thread heard.joined (record_of k heard.reply)) (kind_same local heard.reach other same)
bytes_act local instr.Ebreak heard other some same = refl
bytes_act local (instr.LoadReserved rd rs1 aq rl) heard other some same =
    atomic_same (is_aligned (register local rs1)) local rd (register local rs1) heard.reach.writable heard.reach.bytes other (λ (b : Option (List ℕ)). number_of (unwrap_or b [])) (λ (b : Option (List ℕ)). []) same
bytes_act local (instr.StoreConditional rd rs1 rs2 aq rl) heard other some same =
    ap (λ (there : Bool). cond heard.won
    (cond (is_aligned (register local rs1) && (there && heard.reach.writable)) (Goes (onward (with_register local rd 0)) (writes_of (register local rs1) (bytes_of 4 (register local rs2)) []) note.Nothing) (Faults cause.AmoFault))
    (cond (is_aligned (register local rs1) && (there && heard.reach.writable)) (Goes (onward (with_register local rd 1)) (writes_of (register local rs1) [] []) note.Nothing) (Faults cause.AmoFault))) some
bytes_act local (instr.Amo op rd rs1 rs2 aq rl) heard other some same =
    atomic_same (is_aligned (register local rs1)) local rd (register local rs1) heard.reach.writable heard.reach.bytes other (λ (b : Option (List ℕ)). number_of (unwrap_or b []))
    (λ (b : Option (List ℕ)). bytes_of 4 (amo_of op (number_of (unwrap_or b [])) (register local rs2))) same

pub bytes_act_at : (local : Local) (fetched : Result Instr Cause) (heard : Heard) (other : Option (List ℕ)) → is_some other ≡ is_some heard.reach.bytes
    → (reads_at local fetched ≡ true → other ≡ heard.reach.bytes) → act_at local fetched (hears_bytes heard other) ≡ act_at local fetched heard
bytes_act_at local (Err fault) heard other some same = refl
bytes_act_at local (Ok instruction) heard other some same = bytes_act local instruction heard other some same

-- and to no question at all

asked-cond : (b : Bool) (x y u v : Kind) → asked_of x ≡ asked_of u → asked_of y ≡ asked_of v → asked_of (cond b x y) ≡ asked_of (cond b u v)
asked-cond true x y u v p q = p
asked-cond false x y u v p q = q

asked-writing : (fits : Bool) (bytes : Option (List ℕ)) → asked_of (cond fits (writing bytes) kind.WriteBad) ≡ None
asked-writing true None = refl
asked-writing true (Some bytes) = refl
asked-writing false bytes = refl

asked-before : (number a0 : ℕ) (x y : Kind) → asked_of x ≡ asked_of y → asked_of (before_write number a0 x) ≡ asked_of (before_write number a0 y)
asked-before number a0 x y e =
    asked-cond (nat_eq number 1) (kind.Exit a0) _ (kind.Exit a0) _ refl (asked-cond (nat_eq number 2) kind.EndThread _ kind.EndThread _ refl
    (asked-cond (nat_eq number 3) (kind.Spawn a0) _ (kind.Spawn a0) _ refl (asked-cond (nat_eq number 4) (kind.Join a0) _ (kind.Join a0) _ refl
    (asked-cond (nat_eq number 5) (kind.Lock a0) _ (kind.Lock a0) _ refl (asked-cond (nat_eq number 6) (kind.Unlock a0) _ (kind.Unlock a0) _ refl
    (asked-cond (nat_eq number 7) (kind.TryLock a0) x (kind.TryLock a0) y refl e))))))

asks_same : (local : Local) (instruction : Instr) (reach : Reach) (other : Option (List ℕ)) → asked_by local instruction (over_bytes reach other) ≡ asked_by local instruction reach
unfolding asked_by
asks_same local instr.Ecall reach other =
    asked-before (number_of_call local) (first_argument local) _ _
    (asked-cond (nat_eq (number_of_call local) 8) _ _ _ _
    (asked-writing (fits_buffer (second_argument local)) other ∙ sym (asked-writing (fits_buffer (second_argument local)) reach.bytes)) refl)
asks_same local (instr.Lui rd imm) reach other = refl
asks_same local (instr.Auipc rd imm) reach other = refl
asks_same local (instr.Jal rd offset) reach other = refl
asks_same local (instr.Jalr rd rs1 offset) reach other = refl
asks_same local (instr.Branch op rs1 rs2 offset) reach other = refl
asks_same local (instr.Load op rd rs1 offset) reach other = refl
asks_same local (instr.Store op rs1 rs2 offset) reach other = refl
asks_same local (instr.Imm op rd rs1 imm) reach other = refl
asks_same local (instr.Op op rd rs1 rs2) reach other = refl
asks_same local (instr.Fence rd rs1 imm) reach other = refl
asks_same local instr.Ebreak reach other = refl
asks_same local (instr.LoadReserved rd rs1 aq rl) reach other = refl
asks_same local (instr.StoreConditional rd rs1 rs2 aq rl) reach other = refl
asks_same local (instr.Amo op rd rs1 rs2 aq rl) reach other = refl

pub bytes_asked : (local : Local) (fetched : Result Instr Cause) (reach : Reach) (other : Option (List ℕ)) → asked_at local fetched (over_bytes reach other) ≡ asked_at local fetched reach
bytes_asked local (Err fault) reach other = refl
bytes_asked local (Ok instruction) reach other = asks_same local instruction reach other
