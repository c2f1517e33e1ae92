-- The log of a run over any tape is also the log of the same schedule over the bytes that its reads got: along both
-- runs all but the rest of the tape is equal. Where a read got its whole length, the same bytes stand at the front of
-- what is left; where it got less, the tape was at its end, and all later reads get nothing.
use Rattle.std.specs.Prelude.{◌≡◌, ℕ, zero, suc, ◌*◌, ◌/◌, Bool, true, false, cond, List, [], ◌∷◌, ◌++◌, length, take, drop, Option, Some, None, Result, Ok, Err, refl}
use Rattle.std.specs.List.{flat_map}
use Rattle.std.proofs.Common.{sym, ◌∙◌, ap, subst}
use Rattle.std.proofs.lemmas.List.{append_assoc}
use Rattle.elf_image.specs.declared.write.Write.{Write}
use Rattle.elf_image.specs.Memory.{bytes_of}
use Rattle.elf_image.specs.Layout.{Layout}
use Rattle.rv32_decode.specs.declared.instr.Instr.{Instr}
use Rattle.rv32_decode.specs.declared.instr.Instr.TheVariants as instr
use Rattle.odr_log.specs.declared.log.Cause.{Cause}
use Rattle.odr_log.specs.declared.log.Cause.TheVariants as cause
use Rattle.odr_log.specs.declared.log.Call.{Call}
use Rattle.odr_log.specs.declared.log.Call.TheVariants as call
use Rattle.odr_log.specs.declared.log.CallRec.{CallRec}
use Rattle.odr_log.specs.Tape.{tape_of, read_by}
use Rattle.rv_model.specs.declared.state.Local.{Local}
use Rattle.rv_model.specs.declared.state.Calls.{Calls}
use Rattle.rv_model.specs.declared.state.Core.{Core}
use Rattle.rv_model.specs.declared.state.State.{State}
use Rattle.rv_model.specs.declared.state.Note.{Note}
use Rattle.rv_model.specs.declared.state.Note.TheVariants as note
use Rattle.rv_model.specs.declared.state.Event.{Event}
use Rattle.rv_model.specs.declared.hearing.Reach.{Reach}
use Rattle.rv_model.specs.declared.hearing.Reply.{Reply}
use Rattle.rv_model.specs.declared.hearing.Heard.{Heard}
use Rattle.rv_model.specs.declared.hearing.Kind.{Kind}
use Rattle.rv_model.specs.declared.hearing.Kind.TheVariants as kind
use Rattle.rv_model.specs.declared.hearing.Asked.{Asked}
use Rattle.rv_model.specs.declared.hearing.Asked.TheVariants as asked
use Rattle.rv_model.specs.declared.hearing.Outcome.{Outcome}
use Rattle.rv_model.specs.declared.hearing.Outcome.TheVariants.{Faults, Goes}
use Rattle.rv_model.specs.Values.{plus_offset, taken_of, extended, amo_of}
use Rattle.rv_model.specs.Thread.{register, with_register, next_pc, gone_to}
use Rattle.rv_model.specs.Calls.{kind_at, asked_of, waits, reply_to, join_value, record_of, calls_after}
use Rattle.rv_model.specs.Instruction.{act, act_at, asked_by, asked_at, reserving_at, is_aligned, may_amo, word_in, branches, loads, atomically}
use Rattle.rv_model.specs.Step.{opening, memory_of, thread_at, next_instr, reach_at, heard_at, applied, Effect, effect, step, enabled, is_enabled}
use Rattle.rv_model.specs.Run.{event_of, Runs, final, events, cons_some, record_in, records_of, log_of, HasLog}

-- what is left of the tape after a read, put behind what the read got

again : (n : ℕ) (tape rest beyond : List ℕ) → drop (length (take n tape)) tape ≡ rest ++ beyond → take n (take n tape ++ rest) ≡ take n tape
again zero tape rest beyond e = refl
again (suc n) [] [] beyond e = refl
again (suc n) [] (x ∷ rest) beyond e = cc
again (suc n) (x ∷ tape) rest beyond e = ap (λ (xs : List ℕ). x ∷ xs) (again n tape rest beyond e)

drop-front : (front rest : List ℕ) → drop (length front) (front ++ rest) ≡ rest
drop-front [] rest = refl
drop-front (x ∷ front) rest = drop-front front rest

front-drop : (n : ℕ) (tape : List ℕ) → take n tape ++ drop (length (take n tape)) tape ≡ tape
front-drop zero tape = refl
front-drop (suc n) [] = refl
front-drop (suc n) (x ∷ tape) = ap (λ (xs : List ℕ). x ∷ xs) (front-drop n tape)

-- the same with another rest of the tape

abbrev calls_over : Calls → List ℕ → Calls
calls_over calls tape = record { ended = calls.ended; owners = calls.owners; tape = tape }

abbrev core_over : Core → List ℕ → Core
core_over core tape = record { threads = core.threads; calls = calls_over core.calls tape; halt = core.halt }

abbrev state_over : State → List ℕ → State
state_over state tape = record { core = core_over state.core tape; writes = state.writes }

-- the bytes that a step took from the tape

abbrev taken_by : Note → List ℕ
taken_by (note.Called made) = read_by made
taken_by note.Nothing = []
taken_by (note.Branch taken) = []
taken_by (note.Jump target) = []
taken_by (note.Faulted fault) = []

abbrev taken_in : Outcome → List ℕ
taken_in (Faults fault) = []
taken_in (Goes local writes shown) = taken_by shown

abbrev got : Option Asked → Reply → List ℕ
got None reply = []
got (Some (asked.Read want)) reply = reply.bytes
got (Some (asked.Spawn entry)) reply = []
got (Some (asked.Join target)) reply = []
got (Some (asked.Lock mutex)) reply = []
got (Some (asked.Unlock mutex)) reply = []
got (Some (asked.TryLock mutex)) reply = []

-- an instruction takes what a read call was answered

taken-cond : (b : Bool) (x y : Outcome) → taken_in x ≡ [] → taken_in y ≡ [] → taken_in (cond b x y) ≡ []
taken-cond true x y p q = p
taken-cond false x y p q = q

taken-loads : (local : Local) (rd : ℕ) (extend : ℕ → ℕ) (bytes : Option (List ℕ)) → taken_in (loads local rd extend bytes) ≡ []
taken-loads local rd extend None = refl
taken-loads local rd extend (Some bytes) = refl

taken-branches : (local : Local) (taken : Bool) (target : ℕ) → taken_in (branches local taken target) ≡ []
taken-branches local true target = taken-cond (is_aligned target) (Goes (gone_to local target) [] (note.Branch true)) (Faults cause.Misaligned) refl refl
taken-branches local false target = refl

taken-atomically : (local : Local) (rd address : ℕ) (reach : Reach) (value : ℕ) (bytes : List ℕ) → taken_in (atomically local rd address reach value bytes) ≡ []
taken-atomically local rd address reach value bytes = taken-cond (may_amo address reach) _ (Faults cause.AmoFault) refl refl

taken-record : (k : Kind) (reply : Reply) → read_by (record_of k reply) ≡ got (asked_of k) reply
taken-record (kind.Exit code) reply = refl
taken-record kind.EndThread reply = refl
taken-record (kind.Spawn entry) reply = refl
taken-record (kind.Join target) reply = refl
taken-record (kind.Lock mutex) reply = refl
taken-record (kind.Unlock mutex) reply = refl
taken-record (kind.TryLock mutex) reply = refl
taken-record (kind.Write bytes) reply = refl
taken-record kind.WriteBad reply = refl
taken-record (kind.Read want) reply = refl
taken-record kind.ReadBad reply = refl
taken-record kind.SelfId reply = refl
taken-record kind.Yield reply = refl
taken-record (kind.Unknown number) reply = refl

taken-act : (local : Local) (instruction : Instr) (heard : Heard) → taken_in (act local instruction heard) ≡ got (asked_by local instruction heard.reach) heard.reply
unfolding act asked_by
taken-act local (instr.Lui rd imm) heard = refl
taken-act local (instr.Auipc rd imm) heard = refl
taken-act local (instr.Jal rd offset) heard =
    taken-cond (is_aligned (plus_offset local.pc offset)) (Goes (gone_to (with_register local rd (next_pc local)) (plus_offset local.pc offset)) [] note.Nothing) (Faults cause.Misaligned) refl refl
taken-act local (instr.Jalr rd rs1 offset) heard =
    let target : ℕ = plus_offset (register local rs1) offset / 2 * 2 in
    taken-cond (is_aligned target) (Goes (gone_to (with_register local rd (next_pc local)) target) [] (note.Jump target)) (Faults cause.Misaligned) refl refl
taken-act local (instr.Branch op rs1 rs2 offset) heard = taken-branches local (taken_of op (register local rs1) (register local rs2)) (plus_offset local.pc offset)
taken-act local (instr.Load op rd rs1 offset) heard = taken-loads local rd (extended op) heard.reach.bytes
taken-act local (instr.Store op rs1 rs2 offset) heard = taken-cond heard.reach.writable _ (Faults cause.StoreFault) refl refl
taken-act local (instr.Imm op rd rs1 imm) heard = refl
taken-act local (instr.Op op rd rs1 rs2) heard = refl
taken-act local (instr.Fence rd rs1 imm) heard = refl
taken-act local instr.Ecall heard = taken-record (kind_at local heard.reach) heard.reply
taken-act local instr.Ebreak heard = refl
taken-act local (instr.LoadReserved rd rs1 aq rl) heard = taken-atomically local rd (register local rs1) heard.reach (word_in heard.reach) []
taken-act local (instr.StoreConditional rd rs1 rs2 aq rl) heard =
    taken-cond heard.won _ _ (taken-atomically local rd (register local rs1) heard.reach 0 (bytes_of 4 (register local rs2))) (taken-atomically local rd (register local rs1) heard.reach 1 [])
taken-act local (instr.Amo op rd rs1 rs2 aq rl) heard =
    taken-atomically local rd (register local rs1) heard.reach (word_in heard.reach) (bytes_of 4 (amo_of op (word_in heard.reach) (register local rs2)))

taken-act_at : (local : Local) (fetched : Result Instr Cause) (heard : Heard) → taken_in (act_at local fetched heard) ≡ got (asked_at local fetched heard.reach) heard.reply
taken-act_at local (Err fault) heard = refl
taken-act_at local (Ok instruction) heard = taken-act local instruction heard

-- what the shared state answers, over another rest of the tape

waits-over : (calls : Calls) (tape : List ℕ) (t : ℕ) (question : Option Asked) → waits (calls_over calls tape) t question ≡ waits calls t question
waits-over calls tape t None = refl
waits-over calls tape t (Some (asked.Spawn entry)) = refl
waits-over calls tape t (Some (asked.Join target)) = refl
waits-over calls tape t (Some (asked.Lock mutex)) = refl
waits-over calls tape t (Some (asked.Unlock mutex)) = refl
waits-over calls tape t (Some (asked.TryLock mutex)) = refl
waits-over calls tape t (Some (asked.Read want)) = refl

joined-over : (calls : Calls) (tape : List ℕ) (question : Option Asked) → join_value (calls_over calls tape) question ≡ join_value calls question
joined-over calls tape None = refl
joined-over calls tape (Some (asked.Spawn entry)) = refl
joined-over calls tape (Some (asked.Join target)) = refl
joined-over calls tape (Some (asked.Lock mutex)) = refl
joined-over calls tape (Some (asked.Unlock mutex)) = refl
joined-over calls tape (Some (asked.TryLock mutex)) = refl
joined-over calls tape (Some (asked.Read want)) = refl

-- over what a call gets, with a front of the rest behind it, the call is answered the same
reply-over : (calls : Calls) (rest beyond : List ℕ) (t : ℕ) (question : Option Asked)
    → drop (length (got question (reply_to calls t question))) calls.tape ≡ rest ++ beyond
    → reply_to (calls_over calls (got question (reply_to calls t question) ++ rest)) t question ≡ reply_to calls t question
reply-over calls rest beyond t None e = refl
reply-over calls rest beyond t (Some (asked.Spawn entry)) e = refl
reply-over calls rest beyond t (Some (asked.Join target)) e = refl
reply-over calls rest beyond t (Some (asked.Lock mutex)) e = refl
reply-over calls rest beyond t (Some (asked.Unlock mutex)) e = refl
reply-over calls rest beyond t (Some (asked.TryLock mutex)) e = refl
reply-over calls rest beyond t (Some (asked.Read want)) e =
    ap (λ (bytes : List ℕ). let reply : Reply = record { ok = false; child = None; bytes = bytes } in reply) (again want calls.tape rest beyond e)

got-front : (calls : Calls) (t : ℕ) (question : Option Asked)
    → got question (reply_to calls t question) ++ drop (length (got question (reply_to calls t question))) calls.tape ≡ calls.tape
got-front calls t None = refl
got-front calls t (Some (asked.Spawn entry)) = refl
got-front calls t (Some (asked.Join target)) = refl
got-front calls t (Some (asked.Lock mutex)) = refl
got-front calls t (Some (asked.Unlock mutex)) = refl
got-front calls t (Some (asked.TryLock mutex)) = refl
got-front calls t (Some (asked.Read want)) = front-drop want calls.tape

-- the shared state after a call, over another rest of the tape

after-over : (calls : Calls) (tape : List ℕ) (t a0 : ℕ) (made : Call)
    → calls_after (calls_over calls tape) t a0 made ≡ calls_over (calls_after calls t a0 made) (drop (length (read_by made)) tape)
after-over calls tape t a0 (call.Exit code) = refl
after-over calls tape t a0 call.EndThread = refl
after-over calls tape t a0 (call.Spawn entry (Some child)) = refl
after-over calls tape t a0 (call.Spawn entry None) = refl
after-over calls tape t a0 (call.Join target ok) = refl
after-over calls tape t a0 (call.Lock mutex true) = refl
after-over calls tape t a0 (call.Lock mutex false) = refl
after-over calls tape t a0 (call.Unlock mutex true) = refl
after-over calls tape t a0 (call.Unlock mutex false) = refl
after-over calls tape t a0 (call.TryLock mutex true) = refl
after-over calls tape t a0 (call.TryLock mutex false) = refl
after-over calls tape t a0 (call.Write bytes) = refl
after-over calls tape t a0 call.WriteBad = refl
after-over calls tape t a0 (call.Read want bytes) = refl
after-over calls tape t a0 call.ReadBad = refl
after-over calls tape t a0 call.SelfId = refl
after-over calls tape t a0 call.Yield = refl
after-over calls tape t a0 (call.Unknown number) = refl

after-tape : (calls : Calls) (t a0 : ℕ) (made : Call) → (calls_after calls t a0 made).tape ≡ drop (length (read_by made)) calls.tape
after-tape calls t a0 (call.Exit code) = refl
after-tape calls t a0 call.EndThread = refl
after-tape calls t a0 (call.Spawn entry (Some child)) = refl
after-tape calls t a0 (call.Spawn entry None) = refl
after-tape calls t a0 (call.Join target ok) = refl
after-tape calls t a0 (call.Lock mutex true) = refl
after-tape calls t a0 (call.Lock mutex false) = refl
after-tape calls t a0 (call.Unlock mutex true) = refl
after-tape calls t a0 (call.Unlock mutex false) = refl
after-tape calls t a0 (call.TryLock mutex true) = refl
after-tape calls t a0 (call.TryLock mutex false) = refl
after-tape calls t a0 (call.Write bytes) = refl
after-tape calls t a0 call.WriteBad = refl
after-tape calls t a0 (call.Read want bytes) = refl
after-tape calls t a0 call.ReadBad = refl
after-tape calls t a0 call.SelfId = refl
after-tape calls t a0 call.Yield = refl
after-tape calls t a0 (call.Unknown number) = refl

-- what a step leaves, over another rest of the tape

abbrev effect_over : Effect → List ℕ → Effect
effect_over done tape = record { core = core_over done.core tape; writes = done.writes; note = done.note }

abbrev gone_with : Core → ℕ → Option ℕ → Local → List Write → Note → Calls → Effect
gone_with core t reservation local writes shown calls =
    let done : Effect = applied core t reservation (Goes local writes shown) in
    record { core = record { threads = done.core.threads; calls = calls; halt = done.core.halt }; writes = writes; note = shown }

applied-over : (core : Core) (tape : List ℕ) (t : ℕ) (reservation : Option ℕ) (o : Outcome)
    → applied (core_over core tape) t reservation o ≡ effect_over (applied core t reservation o) (drop (length (taken_in o)) tape)
applied-over core tape t reservation (Faults fault) = refl
applied-over core tape t reservation (Goes local writes note.Nothing) = refl
applied-over core tape t reservation (Goes local writes (note.Branch taken)) = refl
applied-over core tape t reservation (Goes local writes (note.Jump target)) = refl
applied-over core tape t reservation (Goes local writes (note.Faulted fault)) = refl
applied-over core tape t reservation (Goes local writes (note.Called made)) =
    ap (gone_with core t reservation local writes (note.Called made)) (after-over core.calls tape t (register (thread_at core t).local 10) made)

applied-tape : (core : Core) (t : ℕ) (reservation : Option ℕ) (o : Outcome)
    → (applied core t reservation o).core.calls.tape ≡ drop (length (taken_in o)) core.calls.tape
applied-tape core t reservation (Faults fault) = refl
applied-tape core t reservation (Goes local writes note.Nothing) = refl
applied-tape core t reservation (Goes local writes (note.Branch taken)) = refl
applied-tape core t reservation (Goes local writes (note.Jump target)) = refl
applied-tape core t reservation (Goes local writes (note.Faulted fault)) = refl
applied-tape core t reservation (Goes local writes (note.Called made)) = after-tape core.calls t (register (thread_at core t).local 10) made

applied-note : (core : Core) (t : ℕ) (reservation : Option ℕ) (o : Outcome) → taken_by (applied core t reservation o).note ≡ taken_in o
applied-note core t reservation (Faults fault) = refl
applied-note core t reservation (Goes local writes shown) = refl

-- one step

abbrev question : Layout → State → ℕ → Option Asked
question image state t = asked_at (thread_at state.core t).local (next_instr image state.core t) (reach_at image (memory_of image state) state.core t)

abbrev outcome : Layout → State → ℕ → Outcome
outcome image state t = act_at (thread_at state.core t).local (next_instr image state.core t) (heard_at image (memory_of image state) state.core t)

-- the effect of a step, by the answer to its call and the value that a join hands on
abbrev effect_by : Layout → State → List ℕ → ℕ → Reply → ℕ → Effect
effect_by image state tape t reply joined =
    let heard : Heard = heard_at image (memory_of image state) state.core t in
    applied (core_over state.core tape) t (reserving_at (thread_at state.core t).local (next_instr image state.core t) (thread_at state.core t).reservation)
    (act_at (thread_at state.core t).local (next_instr image state.core t) (record { thread = heard.thread; reach = heard.reach; won = heard.won; reply = reply; joined = joined }))

-- the bytes that the step of a thread takes
abbrev takes : Layout → State → ℕ → List ℕ
takes image state t = taken_by (step image state t).note

pub record Steps (image : Layout) (state : State) (t : ℕ) (rest : List ℕ) : Type 0 where
  pub shows : (step image (state_over state (takes image state t ++ rest)) t).note ≡ (step image state t).note
  pub leads : (step image (state_over state (takes image state t ++ rest)) t).state ≡ state_over (step image state t).state rest

step_takes : (image : Layout) (state : State) (t : ℕ) → takes image state t ≡ got (question image state t) (reply_to state.core.calls t (question image state t))
unfolding step effect
step_takes image state t =
    applied-note state.core t _ (outcome image state t)
    ∙ taken-act_at (thread_at state.core t).local (next_instr image state.core t) (heard_at image (memory_of image state) state.core t)

step_tape : (image : Layout) (state : State) (t : ℕ) → (step image state t).state.core.calls.tape ≡ drop (length (takes image state t)) state.core.calls.tape
unfolding step effect
step_tape image state t =
    applied-tape state.core t _ (outcome image state t)
    ∙ ap (λ (bytes : List ℕ). drop (length bytes) state.core.calls.tape) (sym (applied-note state.core t _ (outcome image state t)))

step_splits : (image : Layout) (state : State) (t : ℕ) → takes image state t ++ (step image state t).state.core.calls.tape ≡ state.core.calls.tape
step_splits image state t =
    ap (λ (tape : List ℕ). takes image state t ++ tape) (step_tape image state t)
    ∙ (ap (λ (bytes : List ℕ). bytes ++ drop (length bytes) state.core.calls.tape) (step_takes image state t)
    ∙ got-front state.core.calls t (question image state t))

-- the effect over the step's own bytes and a front of the rest
effect_same : (image : Layout) (state : State) (t : ℕ) (rest beyond : List ℕ) → (step image state t).state.core.calls.tape ≡ rest ++ beyond
    → effect image (memory_of image state) (core_over state.core (takes image state t ++ rest)) t
    ≡ effect_over (effect image (memory_of image state) state.core t) rest
unfolding effect
effect_same image state t rest beyond e =
    let bytes : List ℕ = got (question image state t) (reply_to state.core.calls t (question image state t)) in
    let own : takes image state t ≡ bytes = step_takes image state t in
    let left : drop (length bytes) state.core.calls.tape ≡ rest ++ beyond =
    ap (λ (b : List ℕ). drop (length b) state.core.calls.tape) (sym own) ∙ (sym (step_tape image state t) ∙ e) in
    let taken : taken_in (outcome image state t) ≡ bytes =
    taken-act_at (thread_at state.core t).local (next_instr image state.core t) (heard_at image (memory_of image state) state.core t) in
    ap (λ (b : List ℕ). effect_by image state (b ++ rest) t (reply_to (calls_over state.core.calls (b ++ rest)) t (question image state t)) (join_value (calls_over state.core.calls (b ++ rest)) (question image state t))) own
    ∙ (ap (λ (reply : Reply). effect_by image state (bytes ++ rest) t reply (join_value (calls_over state.core.calls (bytes ++ rest)) (question image state t)))
    (reply-over state.core.calls rest beyond t (question image state t) left)
    ∙ (ap (λ (joined : ℕ). effect_by image state (bytes ++ rest) t (reply_to state.core.calls t (question image state t)) joined) (joined-over state.core.calls (bytes ++ rest) (question image state t))
    ∙ (applied-over state.core (bytes ++ rest) t _ (outcome image state t)
    ∙ ap (effect_over (applied state.core t (reserving_at (thread_at state.core t).local (next_instr image state.core t) (thread_at state.core t).reservation) (outcome image state t)))
    (ap (λ (b : List ℕ). drop (length b) (bytes ++ rest)) taken ∙ drop-front bytes rest))))

step_same : (image : Layout) (state : State) (t : ℕ) (rest beyond : List ℕ) → (step image state t).state.core.calls.tape ≡ rest ++ beyond → Steps image state t rest
unfolding step
step_same image state t rest beyond e =
    let same : effect image (memory_of image state) (core_over state.core (takes image state t ++ rest)) t
    ≡ effect_over (effect image (memory_of image state) state.core t) rest = effect_same image state t rest beyond e in
    record {
      shows = ap (λ (done : Effect). done.note) same;
      leads = ap (λ (done : Effect). let after : State = record { core = done.core; writes = done.writes ++ state.writes } in after) same;
    }

enabled-over : (image : Layout) (state : State) (tape : List ℕ) (t : ℕ) → is_enabled image state t ≡ true → is_enabled image (state_over state tape) t ≡ true
unfolding is_enabled enabled
enabled-over image state tape t e = rw (waits-over state.core.calls tape t (question image state t)) e

-- along a run

abbrev taken_along : List Event → List ℕ
taken_along [] = []
taken_along (event ∷ later) = taken_by event.note ++ taken_along later

record Same (image : Layout) (state : State) (schedule : List ℕ) : Type 0 where
  pub splits : taken_along (events image state schedule) ++ (final image state schedule).core.calls.tape ≡ state.core.calls.tape
  pub runs : Runs image (state_over state (taken_along (events image state schedule))) schedule
  pub last : final image (state_over state (taken_along (events image state schedule))) schedule ≡ state_over (final image state schedule) []
  pub happens : events image (state_over state (taken_along (events image state schedule))) schedule ≡ events image state schedule

same_run : (image : Layout) (state : State) (schedule : List ℕ) → Runs image state schedule → Same image state schedule
same_run image state [] runs = record { splits = refl; runs = tt; last = refl; happens = refl }
same_run image state (t ∷ schedule) runs =
    let next : State = (step image state t).state in
    let rest : List ℕ = taken_along (events image next schedule) in
    let later : Same image next schedule = same_run image next schedule runs.1 in
    let stepped : Steps image state t rest = step_same image state t rest (final image next schedule).core.calls.tape (sym later.splits) in
    record {
      splits =
          append_assoc (takes image state t) rest (final image next schedule).core.calls.tape
          ∙ (ap (λ (tape : List ℕ). takes image state t ++ tape) later.splits ∙ step_splits image state t);
      runs = (
        enabled-over image state (takes image state t ++ rest) t runs.0,
        subst (λ (s : State). Runs image s schedule) (sym stepped.leads) later.runs,
      );
      last = ap (λ (s : State). final image s schedule) stepped.leads ∙ later.last;
      happens =
          ap (λ (shown : Note). (let event : Event = record { thread = t; at = (thread_at state.core t).retired; note = shown } in event) ∷ events image (step image (state_over state (takes image state t ++ rest)) t).state schedule) stepped.shows
          ∙ ap (λ (es : List Event). event_of image state t ∷ es) (ap (λ (s : State). events image s schedule) stepped.leads ∙ later.happens);
    }

-- the log's tape is what its run took

record_taken : (e : Event) (later : List CallRec) → flat_map (λ r. read_by r.call) (cons_some (record_in e) later) ≡ taken_by e.note ++ flat_map (λ r. read_by r.call) later
record_taken e later = note_taken e.thread e.at e.note later where
  note_taken : (t at : ℕ) (shown : Note) (later : List CallRec)
      → flat_map (λ r. read_by r.call) (cons_some (record_in (record { thread = t; at = at; note = shown })) later) ≡ taken_by shown ++ flat_map (λ r. read_by r.call) later
  note_taken t at (note.Called made) later = refl
  note_taken t at note.Nothing later = refl
  note_taken t at (note.Branch taken) later = refl
  note_taken t at (note.Jump target) later = refl
  note_taken t at (note.Faulted fault) later = refl

tape_taken : (happened : List Event) → flat_map (λ r. read_by r.call) (records_of happened) ≡ taken_along happened
tape_taken [] = refl
tape_taken (e ∷ later) = record_taken e (records_of later) ∙ ap (λ (tape : List ℕ). taken_by e.note ++ tape) (tape_taken later)

tape_is : (state : State) (happened : List Event) → tape_of (log_of state happened) ≡ taken_along happened
unfolding log_of
tape_is state happened = tape_taken happened

log-over : (state : State) (tape : List ℕ) (happened : List Event) → log_of (state_over state tape) happened ≡ log_of state happened
unfolding log_of
log-over state tape happened = refl

pub recorded : (image : Layout) (tape : List ℕ) (schedule : List ℕ) → Runs image (opening image tape) schedule
    → HasLog image (log_of (final image (opening image tape) schedule) (events image (opening image tape) schedule)) schedule
recorded image tape schedule runs =
    let start : State = opening image tape in
    let happened : List Event = events image start schedule in
    let end : State = final image start schedule in
    let same : Same image start schedule = same_run image start schedule runs in
    let took : tape_of (log_of end happened) ≡ taken_along happened = tape_is end happened in
    record {
      runs = subst (λ (bytes : List ℕ). Runs image (opening image bytes) schedule) (sym took) same.runs;
      log_is =
          ap (λ (bytes : List ℕ). log_of (final image (opening image bytes) schedule) (events image (opening image bytes) schedule)) took
          ∙ (ap (λ (s : State). log_of s (events image (opening image (taken_along happened)) schedule)) same.last
          ∙ (ap (λ (es : List Event). log_of (state_over end []) es) same.happens
          ∙ log-over end [] happened));
    }
