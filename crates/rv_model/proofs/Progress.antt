-- What a step keeps: threads stay, and none has retired less than before. Only a fault is noted as a fault.
use Rattle.std.specs.Prelude.{◌≡◌, ◌≢◌, ℕ, ◌+◌, ◌*◌, ◌/◌, ◌<◌, ◌≤◌, ◌&&◌, Bool, true, false, not, cond, nat_lt, List, [], ◌++◌, length, map, Option, Some, None, is_none, Result, Ok, Err, refl}
use Rattle.std.proofs.Common.{sym, ◌∙◌, ap, arith, get_or, set, eqb, eq-eqb}
use Rattle.std.proofs.lemmas.Bool.{eqb-true, false≢true}
use Rattle.std.proofs.lemmas.List.{get_or-set_same, get_or-set_other, length-set, length-map, get_or-map, length-append, get_or_append_left}
use Rattle.elf_image.specs.declared.write.Write.{Write}
use Rattle.elf_image.specs.Layout.{Layout}
use Rattle.elf_image.specs.Memory.{writes_of, bytes_of}
use Rattle.rv32_decode.specs.declared.instr.Instr.{Instr}
use Rattle.rv32_decode.specs.declared.instr.Instr.TheVariants as instr
use Rattle.odr_log.specs.declared.log.Cause.{Cause}
use Rattle.odr_log.specs.declared.log.Cause.TheVariants as cause
use Rattle.rv_model.specs.declared.state.Local.{Local}
use Rattle.rv_model.specs.declared.state.Thread.{Thread}
use Rattle.rv_model.specs.declared.state.Core.{Core}
use Rattle.rv_model.specs.declared.state.State.{State}
use Rattle.rv_model.specs.declared.state.Stepped.{Stepped}
use Rattle.rv_model.specs.declared.state.Note.{Note}
use Rattle.rv_model.specs.declared.state.Note.TheVariants as note
use Rattle.rv_model.specs.Thread.{losing, no_thread, register, onward, gone_to, with_register, next_pc}
use Rattle.rv_model.specs.declared.hearing.Reach.{Reach}
use Rattle.rv_model.specs.declared.hearing.Heard.{Heard}
use Rattle.rv_model.specs.declared.hearing.Outcome.{Outcome}
use Rattle.rv_model.specs.declared.hearing.Outcome.TheVariants.{Faults, Goes}
use Rattle.rv_model.specs.Values.{taken_of, plus_offset, extended, amo_of}
use Rattle.rv_model.specs.Instruction.{act, act_at, asked_at, reserving_at, branches, loads, atomically, is_aligned, may_amo, word_in}
use Rattle.rv_model.specs.Calls.{end_value, waits}
use Rattle.rv_model.specs.Step.{thread_at, gone, child_of, applied, effect, after_effect, step, enabled, is_enabled, memory_of, instr_at, next_instr, reach_at, heard_at}

pub record Grows (old new : Core) : Type 0 where
  pub count : length old.threads ≤ length new.threads
  pub retired : (u : ℕ) → u < length old.threads → (thread_at old u).retired ≤ (thread_at new u).retired

-- the threads after a step: one replaced, the others perhaps without their reservation, perhaps a new one
abbrev pub threads_then : ℕ → List Write → List Thread → List Thread → Thread → List Thread
threads_then t writes threads child after = set (map (losing writes) threads) t after ++ child

within_then : (t u : ℕ) (writes : List Write) (threads child : List Thread) (after : Thread) → u < length threads
    → get_or (threads_then t writes threads child after) u no_thread ≡ get_or (set (map (losing writes) threads) t after) u no_thread
within_then t u writes threads child after within =
    get_or_append_left (set (map (losing writes) threads) t after) child no_thread u
    (omega (arith, length-set (map (losing writes) threads) t after, length-map threads (losing writes)))

pub own_then : (t : ℕ) (writes : List Write) (threads child : List Thread) (after : Thread) → t < length threads
    → get_or (threads_then t writes threads child after) t no_thread ≡ after
own_then t writes threads child after within =
    within_then t t writes threads child after within
    ∙ get_or-set_same (map (losing writes) threads) t after no_thread (omega (arith, length-map threads (losing writes)))

pub other_then : (t u : ℕ) (writes : List Write) (threads child : List Thread) (after : Thread) → u < length threads → u ≢ t
    → get_or (threads_then t writes threads child after) u no_thread ≡ losing writes (get_or threads u no_thread)
other_then t u writes threads child after within ne =
    within_then t u writes threads child after within
    ∙ (get_or-set_other (map (losing writes) threads) t u after no_thread ne
    ∙ get_or-map (losing writes) threads u no_thread no_thread within)

retired_then : (t u : ℕ) (writes : List Write) (threads child : List Thread) (after : Thread) → t < length threads → u < length threads
    → (get_or threads t no_thread).retired ≤ after.retired
    → (b : Bool) → eqb u t ≡ b
    → (get_or threads u no_thread).retired ≤ (get_or (threads_then t writes threads child after) u no_thread).retired
retired_then t u writes threads child after within-t within-u more true e =
    let same : u ≡ t = eqb-true u t e in
    let own : (get_or (threads_then t writes threads child after) u no_thread) ≡ after =
    ap (λ (k : ℕ). get_or (threads_then t writes threads child after) k no_thread) same ∙ own_then t writes threads child after within-t in
    let mine : (get_or threads u no_thread).retired ≡ (get_or threads t no_thread).retired = ap (λ (k : ℕ). (get_or threads k no_thread).retired) same in
    omega (arith, ap (λ (x : Thread). x.retired) own, mine)
retired_then t u writes threads child after within-t within-u more false e =
    let ne : u ≢ t = λ (same : u ≡ t). false≢true (sym e ∙ eq-eqb u t same) in
    omega (arith, ap (λ (x : Thread). x.retired) (other_then t u writes threads child after within-u ne))

pub gone_grows : (core : Core) (t : ℕ) (reservation : Option ℕ) (local : Local) (writes : List Write) (shown : Note) → t < length core.threads
    → Grows core (gone core t reservation local writes shown).core
gone_grows core t reservation local writes shown within = record {
  count = omega (
    arith,
    length-append (set (map (losing writes) core.threads) t (record { local = local; reservation = reservation; retired = (thread_at core t).retired + 1 })) (child_of (thread_at core t).local shown),
    length-set (map (losing writes) core.threads) t (record { local = local; reservation = reservation; retired = (thread_at core t).retired + 1 }),
    length-map core.threads (losing writes),
  );
  retired = λ (u : ℕ) (w : u < length core.threads).
      retired_then t u writes core.threads (child_of (thread_at core t).local shown)
      (record { local = local; reservation = reservation; retired = (thread_at core t).retired + 1 }) within w (omega arith) (eqb u t) refl;
}

pub gone_retires : (core : Core) (t : ℕ) (reservation : Option ℕ) (local : Local) (writes : List Write) (shown : Note) → t < length core.threads
    → (thread_at (gone core t reservation local writes shown).core t).retired ≡ (thread_at core t).retired + 1
gone_retires core t reservation local writes shown within =
    ap (λ (x : Thread). x.retired) (own_then t writes core.threads (child_of (thread_at core t).local shown)
    (record { local = local; reservation = reservation; retired = (thread_at core t).retired + 1 }) within)

-- what an instruction shows that goes on is no fault
abbrev pub IsQuiet : Outcome → Type 0
IsQuiet (Faults fault) = Unit {0}
IsQuiet (Goes local writes (note.Faulted fault)) = ⊥
IsQuiet (Goes local writes note.Nothing) = Unit {0}
IsQuiet (Goes local writes (note.Branch taken)) = Unit {0}
IsQuiet (Goes local writes (note.Jump target)) = Unit {0}
IsQuiet (Goes local writes (note.Called call)) = Unit {0}

quiet-cond : (b : Bool) (x y : Outcome) → IsQuiet x → IsQuiet y → IsQuiet (cond b x y)
quiet-cond true x y p q = p
quiet-cond false x y p q = q

quiet-loads : (local : Local) (rd : ℕ) (extend : ℕ → ℕ) (bytes : Option (List ℕ)) → IsQuiet (loads local rd extend bytes)
quiet-loads local rd extend None = tt
quiet-loads local rd extend (Some bytes) = tt

quiet-branches : (local : Local) (taken : Bool) (target : ℕ) → IsQuiet (branches local taken target)
quiet-branches local true target = quiet-cond (is_aligned target) (Goes (gone_to local target) [] (note.Branch true)) (Faults cause.Misaligned) tt tt
quiet-branches local false target = tt

quiet-atomically : (local : Local) (rd address : ℕ) (reach : Reach) (value : ℕ) (bytes : List ℕ) → IsQuiet (atomically local rd address reach value bytes)
quiet-atomically local rd address reach value bytes =
    quiet-cond (may_amo address reach) (Goes (onward (with_register local rd value)) (writes_of address bytes []) note.Nothing) (Faults cause.AmoFault) tt tt

pub quiet-act : (local : Local) (instruction : Instr) (heard : Heard) → IsQuiet (act local instruction heard)
unfolding act
quiet-act local (instr.Lui rd imm) heard = tt
quiet-act local (instr.Auipc rd imm) heard = tt
quiet-act local (instr.Jal rd offset) heard =
    quiet-cond (is_aligned (plus_offset local.pc offset)) (Goes (gone_to (with_register local rd (next_pc local)) (plus_offset local.pc offset)) [] note.Nothing) (Faults cause.Misaligned) tt tt
quiet-act local (instr.Jalr rd rs1 offset) heard =
    let target : ℕ = plus_offset (register local rs1) offset / 2 * 2 in
    quiet-cond (is_aligned target) (Goes (gone_to (with_register local rd (next_pc local)) target) [] (note.Jump target)) (Faults cause.Misaligned) tt tt
quiet-act local (instr.Branch op rs1 rs2 offset) heard = quiet-branches local (taken_of op (register local rs1) (register local rs2)) (plus_offset local.pc offset)
quiet-act local (instr.Load op rd rs1 offset) heard = quiet-loads local rd (extended op) heard.reach.bytes
quiet-act local (instr.Store op rs1 rs2 offset) heard = quiet-cond heard.reach.writable _ (Faults cause.StoreFault) tt tt
quiet-act local (instr.Imm op rd rs1 imm) heard = tt
quiet-act local (instr.Op op rd rs1 rs2) heard = tt
quiet-act local (instr.Fence rd rs1 imm) heard = tt
quiet-act local instr.Ecall heard = tt
quiet-act local instr.Ebreak heard = tt
quiet-act local (instr.LoadReserved rd rs1 aq rl) heard = quiet-atomically local rd (register local rs1) heard.reach (word_in heard.reach) []
quiet-act local (instr.StoreConditional rd rs1 rs2 aq rl) heard =
    quiet-cond heard.won _ _ (quiet-atomically local rd (register local rs1) heard.reach 0 (bytes_of 4 (register local rs2))) (quiet-atomically local rd (register local rs1) heard.reach 1 [])
quiet-act local (instr.Amo op rd rs1 rs2 aq rl) heard =
    quiet-atomically local rd (register local rs1) heard.reach (word_in heard.reach) (bytes_of 4 (amo_of op (word_in heard.reach) (register local rs2)))

pub quiet-act_at : (local : Local) (fetched : Result Instr Cause) (heard : Heard) → IsQuiet (act_at local fetched heard)
quiet-act_at local (Err fault) heard = tt
quiet-act_at local (Ok instruction) heard = quiet-act local instruction heard

-- ---- a step, spelled out

abbrev step_by : State → ℕ → Local → Option ℕ → Result Instr Cause → Heard → Stepped
step_by state t local reservation fetched heard = after_effect state (applied state.core t (reserving_at local fetched reservation) (act_at local fetched heard))

pub raw_step : (image : Layout) (state : State) (t : ℕ)
    → step image state t
    ≡ after_effect state (
    applied state.core t (reserving_at (thread_at state.core t).local (next_instr image state.core t) (thread_at state.core t).reservation)
    (act_at (thread_at state.core t).local (next_instr image state.core t) (heard_at image (memory_of image state) state.core t))
    )
unfolding step effect
raw_step image state t = refl

-- the same by the parts of the thread
pub step_is : (image : Layout) (state : State) (t : ℕ) (local : Local) (reservation : Option ℕ) (heard : Heard)
    → (thread_at state.core t).local ≡ local → (thread_at state.core t).reservation ≡ reservation → heard_at image (memory_of image state) state.core t ≡ heard
    → step image state t
    ≡ after_effect state (applied state.core t (reserving_at local (instr_at image local.pc) reservation) (act_at local (instr_at image local.pc) heard))
step_is image state t local reservation heard local_is reservation_is heard_is =
    raw_step image state t
    ∙ ap (λ (l : Local). step_by state t l (thread_at state.core t).reservation (instr_at image l.pc) (heard_at image (memory_of image state) state.core t)) local_is
    ∙ ap (λ (r : Option ℕ). step_by state t local r (instr_at image local.pc) (heard_at image (memory_of image state) state.core t)) reservation_is
    ∙ ap (step_by state t local reservation (instr_at image local.pc)) heard_is

pub raw_enabled : (image : Layout) (state : State) (t : ℕ)
    → is_enabled image state t
    ≡ (
    nat_lt t (length state.core.threads) && is_none (end_value state.core.calls t) && is_none state.core.halt
    && not (waits state.core.calls t (asked_at (thread_at state.core t).local (next_instr image state.core t) (reach_at image (memory_of image state) state.core t)))
    )
unfolding is_enabled enabled
raw_enabled image state t = refl
