-- What an instruction does depends on what it hears as its outcome shows: on the bytes of its access where it read them, on
-- a store-conditional's success where it took place, on a join's value where it joined.
use Rattle.std.specs.Prelude.{◌≡◌, ℕ, ◌⊎◌, Bool, true, false, cond, List, [], nat_eq, Option, Some, None, is_some, Result, Ok, Err, refl}
use Rattle.std.proofs.Common.{sym, ◌∙◌, ap, inl, inr}
use Rattle.std.proofs.lemmas.Bool.{false≢true}
use Rattle.elf_image.specs.declared.write.Write.{Write}
use Rattle.elf_image.specs.Memory.{bytes_of, number_of, writes_of}
use Rattle.rv32_decode.specs.declared.instr.Instr.{Instr}
use Rattle.rv32_decode.specs.declared.instr.Instr.TheVariants as instr
use Rattle.odr_log.specs.declared.log.Cause.{Cause}
use Rattle.odr_log.specs.declared.log.Cause.TheVariants as cause
use Rattle.odr_log.specs.declared.log.Call.{Call}
use Rattle.odr_log.specs.declared.log.Call.TheVariants as call
use Rattle.rv_model.specs.declared.state.Local.{Local}
use Rattle.rv_model.specs.declared.state.Note.TheVariants as note
use Rattle.rv_model.specs.declared.hearing.Reply.{Reply}
use Rattle.rv_model.specs.declared.hearing.Heard.{Heard}
use Rattle.rv_model.specs.declared.hearing.Kind.{Kind}
use Rattle.rv_model.specs.declared.hearing.Kind.TheVariants as kind
use Rattle.rv_model.specs.declared.hearing.Outcome.{Outcome}
use Rattle.rv_model.specs.declared.hearing.Outcome.TheVariants.{Faults, Goes}
use Rattle.rv_model.specs.Values.{extended, amo_of}
use Rattle.rv_model.specs.Thread.{register, with_register, onward}
use Rattle.rv_model.specs.Calls.{kind_by, kind_at, fits_buffer, number_of_call, first_argument, second_argument, record_of}
use Rattle.rv_model.specs.Instruction.{act, act_at, conditional_of, conditional_at, may_amo, loads, calls_out}
use Rattle.rv_model.specs.Noted.{note_in}
use Rattle.guided_walk.specs.Guided.{joins}
use Rattle.guided_walk.specs.Fits.{reads_in, conditional_by}

-- ---- the same hearing with one part changed

abbrev pub with_bytes : Heard → Option (List ℕ) → Heard
with_bytes heard bytes = record heard { reach = record { bytes = bytes; writable = heard.reach.writable } }

abbrev pub with_won : Heard → Bool → Heard
with_won heard won = record heard { won = won }

abbrev pub with_joined : Heard → ℕ → Heard
with_joined heard joined = record heard { joined = joined }

-- ---- bytes

-- What is read is the same, where something is read.
abbrev pub SameRead : Bool → List ℕ → List ℕ → Type 0
SameRead reads xs ys = reads ≡ true → xs ≡ ys

loads_same : (l : Local) (rd : ℕ) (extend : ℕ → ℕ) (xs ys : List ℕ) → xs ≡ ys → loads l rd extend (Some xs) ≡ loads l rd extend (Some ys)
loads_same l rd extend xs ys same = ap (λ (bytes : List ℕ). loads l rd extend (Some bytes)) same

-- an atomic instruction that reads its word, where the word may be used and where not
word_same : (f : List ℕ → Outcome) (may : Bool) (fetched : Result Instr Cause) (xs ys : List ℕ) → (reads_in fetched (f ys) ≡ true)
    → SameRead (reads_in fetched (cond may (f ys) (Faults cause.AmoFault))) xs ys
    → cond may (f xs) (Faults cause.AmoFault) ≡ cond may (f ys) (Faults cause.AmoFault)
word_same f true fetched xs ys reads same = ap f (same reads)
word_same f false fetched xs ys reads same = refl

-- A call is the same whatever bytes its buffer has, or it writes them out.
abbrev SameKind : List ℕ → List ℕ → Kind → Kind → Type 0
SameKind xs ys one other = (one ≡ other) ⊎ ((one ≡ kind.Write xs) × (other ≡ kind.Write ys))

kind_cond : (xs ys : List ℕ) (b : Bool) (k k' m m' : Kind) → SameKind xs ys k k' → SameKind xs ys m m' → SameKind xs ys (cond b k m) (cond b k' m')
kind_cond xs ys true k k' m m' one other = one
kind_cond xs ys false k k' m m' one other = other

kind_same : (number a0 a1 : ℕ) (xs ys : List ℕ) (writable : Bool)
    → SameKind xs ys (kind_by number a0 a1 (record { bytes = Some xs; writable = writable })) (kind_by number a0 a1 (record { bytes = Some ys; writable = writable }))
kind_same number a0 a1 xs ys writable =
    kind_cond xs ys (nat_eq number 1) _ _ _ _ (inl refl)
    (kind_cond xs ys (nat_eq number 2) _ _ _ _ (inl refl)
    (kind_cond xs ys (nat_eq number 3) _ _ _ _ (inl refl)
    (kind_cond xs ys (nat_eq number 4) _ _ _ _ (inl refl)
    (kind_cond xs ys (nat_eq number 5) _ _ _ _ (inl refl)
    (kind_cond xs ys (nat_eq number 6) _ _ _ _ (inl refl)
    (kind_cond xs ys (nat_eq number 7) _ _ _ _ (inl refl)
    (kind_cond xs ys (nat_eq number 8) _ _ _ _ (kind_cond xs ys (fits_buffer a1) _ _ _ _ (inr (refl, refl)) (inl refl))
    (inl refl))))))))

calls_same : (l : Local) (thread joined : ℕ) (reply : Reply) (k m : Kind) (xs ys : List ℕ) → SameKind xs ys k m
    → SameRead (reads_in (Ok instr.Ecall) (calls_out l thread joined (record_of m reply))) xs ys
    → calls_out l thread joined (record_of k reply) ≡ calls_out l thread joined (record_of m reply)
calls_same l thread joined reply k m xs ys (inl e) same = ap (λ (x : Kind). calls_out l thread joined (record_of x reply)) e
calls_same l thread joined reply k m xs ys (inr both) same =
    let reads : reads_in (Ok instr.Ecall) (calls_out l thread joined (record_of m reply)) ≡ true =
    ap (λ (x : Kind). reads_in (Ok instr.Ecall) (calls_out l thread joined (record_of x reply))) both.1 in
    ap (λ (x : Kind). calls_out l thread joined (record_of x reply)) (both.0 ∙ ap (λ (bytes : List ℕ). kind.Write bytes) (same reads) ∙ sym both.1)

bytes_some : (l : Local) (i : Instr) (heard : Heard) (xs ys : List ℕ) → SameRead (reads_in (Ok i) (act l i (with_bytes heard (Some ys)))) xs ys
    → act l i (with_bytes heard (Some xs)) ≡ act l i (with_bytes heard (Some ys))
unfolding act
bytes_some l (instr.Load op rd rs1 offset) heard xs ys same = loads_same l rd (extended op) xs ys (same refl)
bytes_some l (instr.LoadReserved rd rs1 aq rl) heard xs ys same =
    word_same (λ (bytes : List ℕ). Goes (onward (with_register l rd (number_of bytes))) [] note.Nothing) (may_amo (register l rs1) (record { bytes = Some ys; writable = heard.reach.writable }))
    (Ok (instr.LoadReserved rd rs1 aq rl)) xs ys refl same
bytes_some l (instr.Amo op rd rs1 rs2 aq rl) heard xs ys same =
    word_same (λ (bytes : List ℕ). Goes (onward (with_register l rd (number_of bytes)))
    (writes_of (register l rs1) (bytes_of 4 (amo_of op (number_of bytes) (register l rs2))) []) note.Nothing)
    (may_amo (register l rs1) (record { bytes = Some ys; writable = heard.reach.writable })) (Ok (instr.Amo op rd rs1 rs2 aq rl)) xs ys refl same
bytes_some l instr.Ecall heard xs ys same =
    calls_same l heard.thread heard.joined heard.reply _ _ xs ys
    (kind_same (number_of_call l) (first_argument l) (second_argument l) xs ys heard.reach.writable) same
bytes_some l (instr.Lui rd imm) heard xs ys same = refl
bytes_some l (instr.Auipc rd imm) heard xs ys same = refl
bytes_some l (instr.Jal rd offset) heard xs ys same = refl
bytes_some l (instr.Jalr rd rs1 offset) heard xs ys same = refl
bytes_some l (instr.Branch op rs1 rs2 offset) heard xs ys same = refl
bytes_some l (instr.Store op rs1 rs2 offset) heard xs ys same = refl
bytes_some l (instr.Imm op rd rs1 imm) heard xs ys same = refl
bytes_some l (instr.Op op rd rs1 rs2) heard xs ys same = refl
bytes_some l (instr.Fence rd rs1 imm) heard xs ys same = refl
bytes_some l instr.Ebreak heard xs ys same = refl
bytes_some l (instr.StoreConditional rd rs1 rs2 aq rl) heard xs ys same = refl

bytes_at : (l : Local) (fetched : Result Instr Cause) (heard : Heard) (xs ys : List ℕ)
    → SameRead (reads_in fetched (act_at l fetched (with_bytes heard (Some ys)))) xs ys
    → act_at l fetched (with_bytes heard (Some xs)) ≡ act_at l fetched (with_bytes heard (Some ys))
bytes_at l (Err fault) heard xs ys same = refl
bytes_at l (Ok i) heard xs ys same = bytes_some l i heard xs ys same

-- ---- the success of a store-conditional

won_cond : (may won new : Bool) (one other : Local) (writes more : List Write) (address : ℕ)
    → ((a : ℕ) → conditional_by (Some address) (cond won (cond may (Goes one writes note.Nothing) (Faults cause.AmoFault)) (cond may (Goes other more note.Nothing) (Faults cause.AmoFault))) ≡ Some a → new ≡ won)
    → cond new (cond may (Goes one writes note.Nothing) (Faults cause.AmoFault)) (cond may (Goes other more note.Nothing) (Faults cause.AmoFault))
    ≡ cond won (cond may (Goes one writes note.Nothing) (Faults cause.AmoFault)) (cond may (Goes other more note.Nothing) (Faults cause.AmoFault))
won_cond false true true one other writes more address same = refl
won_cond false true false one other writes more address same = refl
won_cond false false true one other writes more address same = refl
won_cond false false false one other writes more address same = refl
won_cond true true new one other writes more address same = ap (λ (b : Bool). cond b (Goes one writes note.Nothing) (Goes other more note.Nothing)) (same address refl)
won_cond true false new one other writes more address same = ap (λ (b : Bool). cond b (Goes one writes note.Nothing) (Goes other more note.Nothing)) (same address refl)

won_act : (l : Local) (i : Instr) (heard : Heard) (won : Bool)
    → ((a : ℕ) → conditional_by (conditional_of l i) (act l i heard) ≡ Some a → won ≡ heard.won) → act l i (with_won heard won) ≡ act l i heard
unfolding act conditional_of
won_act l (instr.StoreConditional rd rs1 rs2 aq rl) heard won same =
    won_cond (may_amo (register l rs1) heard.reach) heard.won won (onward (with_register l rd 0)) (onward (with_register l rd 1))
    (writes_of (register l rs1) (bytes_of 4 (register l rs2)) []) [] (register l rs1) same
won_act l (instr.Load op rd rs1 offset) heard won same = refl
won_act l (instr.LoadReserved rd rs1 aq rl) heard won same = refl
won_act l (instr.Amo op rd rs1 rs2 aq rl) heard won same = refl
won_act l instr.Ecall heard won same = refl
won_act l (instr.Lui rd imm) heard won same = refl
won_act l (instr.Auipc rd imm) heard won same = refl
won_act l (instr.Jal rd offset) heard won same = refl
won_act l (instr.Jalr rd rs1 offset) heard won same = refl
won_act l (instr.Branch op rs1 rs2 offset) heard won same = refl
won_act l (instr.Store op rs1 rs2 offset) heard won same = refl
won_act l (instr.Imm op rd rs1 imm) heard won same = refl
won_act l (instr.Op op rd rs1 rs2) heard won same = refl
won_act l (instr.Fence rd rs1 imm) heard won same = refl
won_act l instr.Ebreak heard won same = refl

won_at : (l : Local) (fetched : Result Instr Cause) (heard : Heard) (won : Bool)
    → ((a : ℕ) → conditional_by (conditional_at l fetched) (act_at l fetched heard) ≡ Some a → won ≡ heard.won)
    → act_at l fetched (with_won heard won) ≡ act_at l fetched heard
won_at l (Err fault) heard won same = refl
won_at l (Ok i) heard won same = won_act l i heard won same

-- ---- the value of a join

joined_call : (l : Local) (thread joined new : ℕ) (made : Call) → ((target : ℕ) → joins (note.Called made) ≡ Some target → new ≡ joined)
    → calls_out l thread new made ≡ calls_out l thread joined made
joined_call l thread joined new (call.Join target true) same = ap (λ (value : ℕ). calls_out l thread value (call.Join target true)) (same target refl)
joined_call l thread joined new (call.Join target false) same = refl
joined_call l thread joined new (call.Exit code) same = refl
joined_call l thread joined new call.EndThread same = refl
joined_call l thread joined new (call.Spawn entry child) same = refl
joined_call l thread joined new (call.Lock mutex ok) same = refl
joined_call l thread joined new (call.Unlock mutex ok) same = refl
joined_call l thread joined new (call.TryLock mutex got) same = refl
joined_call l thread joined new (call.Write bytes) same = refl
joined_call l thread joined new call.WriteBad same = refl
joined_call l thread joined new (call.Read want bytes) same = refl
joined_call l thread joined new call.ReadBad same = refl
joined_call l thread joined new call.SelfId same = refl
joined_call l thread joined new call.Yield same = refl
joined_call l thread joined new (call.Unknown number) same = refl

joined_act : (l : Local) (i : Instr) (heard : Heard) (joined : ℕ) → ((target : ℕ) → joins (note_in (act l i heard)) ≡ Some target → joined ≡ heard.joined)
    → act l i (with_joined heard joined) ≡ act l i heard
unfolding act
joined_act l instr.Ecall heard joined same = joined_call l heard.thread heard.joined joined (record_of (kind_at l heard.reach) heard.reply) same
joined_act l (instr.Load op rd rs1 offset) heard joined same = refl
joined_act l (instr.LoadReserved rd rs1 aq rl) heard joined same = refl
joined_act l (instr.Amo op rd rs1 rs2 aq rl) heard joined same = refl
joined_act l (instr.StoreConditional rd rs1 rs2 aq rl) heard joined same = refl
joined_act l (instr.Lui rd imm) heard joined same = refl
joined_act l (instr.Auipc rd imm) heard joined same = refl
joined_act l (instr.Jal rd offset) heard joined same = refl
joined_act l (instr.Jalr rd rs1 offset) heard joined same = refl
joined_act l (instr.Branch op rs1 rs2 offset) heard joined same = refl
joined_act l (instr.Store op rs1 rs2 offset) heard joined same = refl
joined_act l (instr.Imm op rd rs1 imm) heard joined same = refl
joined_act l (instr.Op op rd rs1 rs2) heard joined same = refl
joined_act l (instr.Fence rd rs1 imm) heard joined same = refl
joined_act l instr.Ebreak heard joined same = refl

joined_at : (l : Local) (fetched : Result Instr Cause) (heard : Heard) (joined : ℕ)
    → ((target : ℕ) → joins (note_in (act_at l fetched heard)) ≡ Some target → joined ≡ heard.joined) → act_at l fetched (with_joined heard joined) ≡ act_at l fetched heard
joined_at l (Err fault) heard joined same = refl
joined_at l (Ok i) heard joined same = joined_act l i heard joined same

-- ---- two hearings that an outcome can't tell apart

-- Two hearings of one step: the thread, rights and reply are the same; bytes, a store-conditional's success and a join's
-- value are, where the outcome of the second shows that they were asked.
pub record SameHeard (fetched : Result Instr Cause) (address : Option ℕ) (outcome : Outcome) (one other : Heard) : Type 0 where
  pub thread : one.thread ≡ other.thread
  pub writable : one.reach.writable ≡ other.reach.writable
  pub readable : is_some one.reach.bytes ≡ is_some other.reach.bytes
  pub bytes : (xs ys : List ℕ) → one.reach.bytes ≡ Some xs → other.reach.bytes ≡ Some ys → SameRead (reads_in fetched outcome) xs ys
  pub won : (a : ℕ) → conditional_by address outcome ≡ Some a → one.won ≡ other.won
  pub reply : one.reply ≡ other.reply
  pub joined : (target : ℕ) → joins (note_in outcome) ≡ Some target → one.joined ≡ other.joined

-- bytes that are there or not in both
bytes_either : (l : Local) (fetched : Result Instr Cause) (heard : Heard) (one other : Option (List ℕ)) → is_some one ≡ is_some other
    → ((xs ys : List ℕ) → one ≡ Some xs → other ≡ Some ys → SameRead (reads_in fetched (act_at l fetched (with_bytes heard other))) xs ys)
    → act_at l fetched (with_bytes heard one) ≡ act_at l fetched (with_bytes heard other)
bytes_either l fetched heard None None there same = refl
bytes_either l fetched heard (Some xs) (Some ys) there same = bytes_at l fetched heard xs ys (same xs ys refl refl)
bytes_either l fetched heard None (Some ys) there same = absurd (false≢true there)
bytes_either l fetched heard (Some xs) None there same = absurd (false≢true (sym there))

pub same_act : (l : Local) (fetched : Result Instr Cause) (one other : Heard) → SameHeard fetched (conditional_at l fetched) (act_at l fetched other) one other
    → act_at l fetched one ≡ act_at l fetched other
same_act l fetched one other same =
    let step : Heard = record { thread = other.thread; reach = one.reach; won = one.won; reply = other.reply; joined = one.joined } in
    let first : act_at l fetched one ≡ act_at l fetched step =
    ap (λ (t : ℕ). let h : Heard = record { thread = t; reach = one.reach; won = one.won; reply = one.reply; joined = one.joined } in act_at l fetched h) same.thread
    ∙ ap (λ (r : Reply). let h : Heard = record { thread = other.thread; reach = one.reach; won = one.won; reply = r; joined = one.joined } in act_at l fetched h) same.reply in
    let rights : Heard = record { thread = other.thread; reach = record { bytes = one.reach.bytes; writable = other.reach.writable }; won = one.won; reply = other.reply; joined = one.joined } in
    let second : act_at l fetched step ≡ act_at l fetched rights =
    ap (λ (w : Bool). let h : Heard = record { thread = other.thread; reach = record { bytes = one.reach.bytes; writable = w }; won = one.won; reply = other.reply; joined = one.joined } in act_at l fetched h) same.writable in
    let j : Heard = with_joined other one.joined in
    let w : Heard = with_won j one.won in
    let joined : act_at l fetched j ≡ act_at l fetched other = joined_at l fetched other one.joined same.joined in
    let won : act_at l fetched w ≡ act_at l fetched j =
    won_at l fetched j one.won (λ (a : ℕ) (e : conditional_by (conditional_at l fetched) (act_at l fetched j) ≡ Some a).
    same.won a (ap (conditional_by (conditional_at l fetched)) (sym joined) ∙ e)) in
    let bytes : act_at l fetched (with_bytes w one.reach.bytes) ≡ act_at l fetched (with_bytes w other.reach.bytes) =
    bytes_either l fetched w one.reach.bytes other.reach.bytes same.readable
    (λ (xs ys : List ℕ) (p : one.reach.bytes ≡ Some xs) (q : other.reach.bytes ≡ Some ys) (reads : reads_in fetched (act_at l fetched (with_bytes w other.reach.bytes)) ≡ true).
    same.bytes xs ys p q (ap (reads_in fetched) (sym (won ∙ joined)) ∙ reads)) in
    first ∙ second ∙ bytes ∙ won ∙ joined
