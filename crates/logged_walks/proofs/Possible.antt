-- The call that a step notes is a possible one: its buffer has at most 256 bytes, and a number that is not known is none of 1
-- to 11.
use Rattle.std.specs.Prelude.{◌≡◌, ℕ, zero, suc, ◌+◌, ◌<◌, ◌≤◌, ◌⊎◌, Bool, true, false, cond, ◌&&◌, ◌||◌, List, length, nat_eq, Option, Some, None, Result, Ok, refl}
use Rattle.std.proofs.Common.{sym, ◌∙◌, ap, subst, arith, inl, inr, eq-eqb}
use Rattle.std.proofs.lemmas.Bool.{cases_lt, leb-true, and_parts, false≢true}
use Rattle.std.proofs.lemmas.Option.{none-some, same_Some}
use Rattle.elf_image.specs.Layout.{Layout}
use Rattle.elf_image.specs.Memory.{Cells, next, all_readable, bytes_from, load_bytes}
use Rattle.rv32_decode.specs.declared.instr.Instr.{Instr}
use Rattle.rv32_decode.specs.declared.instr.Instr.TheVariants as instr
use Rattle.odr_log.specs.declared.log.Call.{Call}
use Rattle.odr_log.specs.declared.log.Cause.{Cause}
use Rattle.rv_model.specs.declared.state.Local.{Local}
use Rattle.rv_model.specs.declared.state.Thread.{Thread}
use Rattle.rv_model.specs.declared.state.Calls.{Calls}
use Rattle.rv_model.specs.declared.state.Note.TheVariants as note
use Rattle.rv_model.specs.declared.hearing.Access.{Access}
use Rattle.rv_model.specs.declared.hearing.Heard.{Heard}
use Rattle.rv_model.specs.declared.hearing.Kind.{Kind}
use Rattle.rv_model.specs.declared.hearing.Kind.TheVariants as kind
use Rattle.rv_model.specs.declared.hearing.Reach.{Reach}
use Rattle.rv_model.specs.declared.hearing.Reply.{Reply}
use Rattle.rv_model.specs.Calls.{number_of_call, first_argument, second_argument, fits_buffer, writing, kind_by, kind_at, record_of}
use Rattle.rv_model.specs.CallsFit.{IsPossible}
use Rattle.rv_model.specs.Instruction.{act, act_at, access_of, access_at, buffer_of, no_access}
use Rattle.rv_model.specs.Noted.{note_in}
use Rattle.rv_model.specs.Step.{instr_at, reach_of}
use Rattle.rv_model.specs.Walk.{transfer_of, goes_to}
use Rattle.guided_walk.proofs.Along.{heard_by, outcome_by}

-- ---- the bytes of a buffer

length-bytes : (cells : Cells) (address count : ℕ) → length (bytes_from cells address count) ≡ count
length-bytes cells address zero = refl
length-bytes cells address (suc count) = ap suc (length-bytes cells (next address) count)

loaded_by : (b : Bool) (xs bytes : List ℕ) → cond b (Some xs) None ≡ Some bytes → xs ≡ bytes
loaded_by true xs bytes e = same_Some xs bytes e
loaded_by false xs bytes e = absurd (none-some bytes e)

loaded : (cells : Cells) (address count : ℕ) (bytes : List ℕ) → load_bytes cells address count ≡ Some bytes → length bytes ≡ count
loaded cells address count bytes e =
    sym (ap (length {A = ℕ}) (loaded_by (all_readable cells address count) (bytes_from cells address count) bytes e)) ∙ length-bytes cells address count

small_by : (test : Bool) (n a0 a1 : ℕ) → fits_buffer a1 ≡ test → (b : Bool)
    → (cond (b && test) (let a : Access = record { address = a0; count = a1 } in a) no_access).count ≤ 256
small_by true n a0 a1 fits true = leb-true a1 256 fits
small_by true n a0 a1 fits false = omega arith
small_by false n a0 a1 fits true = omega arith
small_by false n a0 a1 fits false = omega arith

small_buffer : (local : Local) → (buffer_of local).count ≤ 256
small_buffer local =
    small_by (fits_buffer (second_argument local)) 0 (first_argument local) (second_argument local) refl
    (nat_eq (number_of_call local) 8 || nat_eq (number_of_call local) 9)

-- ---- the kind of a call

abbrev IsPossibleKind : Kind → Type 0
IsPossibleKind (kind.Write bytes) = length bytes ≤ 256
IsPossibleKind (kind.Read want) = want ≤ 256
IsPossibleKind (kind.Unknown number) = (number ≡ 0) ⊎ (11 < number)
IsPossibleKind other = Unit {0}

either : (b : Bool) (x y : Kind) → (b ≡ true → IsPossibleKind x) → (b ≡ false → IsPossibleKind y) → IsPossibleKind (cond b x y)
either true x y p q = p refl
either false x y p q = q refl

-- a number that is none of those up to k is greater
past : (n k : ℕ) → k ≤ n → nat_eq n k ≡ false → k + 1 ≤ n
past n k le ne = elim (cases_lt k n) [
  | inl less ↦ omega (arith, less)
  | inr more ↦ (let same : n ≡ k = omega (arith, le, more) in absurd (false≢true (sym ne ∙ eq-eqb n k same)))
]

some_number : (n : ℕ) → (n ≡ 0) ⊎ (1 ≤ n)
some_number zero = inl refl
some_number (suc n) = inr (omega arith)

possible_writing : (bytes : Option (List ℕ)) → ((xs : List ℕ) → bytes ≡ Some xs → length xs ≤ 256) → IsPossibleKind (writing bytes)
possible_writing None few = tt
possible_writing (Some xs) few = few xs refl

possible_kind : (n a0 a1 : ℕ) (reach : Reach) → ((xs : List ℕ) → reach.bytes ≡ Some xs → length xs ≤ 256) → IsPossibleKind (kind_by n a0 a1 reach)
possible_kind n a0 a1 reach few =
    either (nat_eq n 1) (kind.Exit a0) _ (λ e. tt) (λ e1.
    either (nat_eq n 2) kind.EndThread _ (λ e. tt) (λ e2.
    either (nat_eq n 3) (kind.Spawn a0) _ (λ e. tt) (λ e3.
    either (nat_eq n 4) (kind.Join a0) _ (λ e. tt) (λ e4.
    either (nat_eq n 5) (kind.Lock a0) _ (λ e. tt) (λ e5.
    either (nat_eq n 6) (kind.Unlock a0) _ (λ e. tt) (λ e6.
    either (nat_eq n 7) (kind.TryLock a0) _ (λ e. tt) (λ e7.
    either (nat_eq n 8) (cond (fits_buffer a1) (writing reach.bytes) kind.WriteBad) _
    (λ e. either (fits_buffer a1) (writing reach.bytes) kind.WriteBad (λ f. possible_writing reach.bytes few) (λ f. tt)) (λ e8.
    either (nat_eq n 9) (cond (fits_buffer a1 && reach.writable) (kind.Read a1) kind.ReadBad) _
    (λ e. either (fits_buffer a1 && reach.writable) (kind.Read a1) kind.ReadBad (λ f. leb-true a1 256 (and_parts (fits_buffer a1) reach.writable f).0) (λ f. tt)) (λ e9.
    either (nat_eq n 10) kind.SelfId _ (λ e. tt) (λ e10.
    either (nat_eq n 11) kind.Yield (kind.Unknown n) (λ e. tt) (λ e11.
    elim (some_number n) [
      | inl none ↦ inl none
      | inr some ↦ inr (unknown some e1 e2 e3 e4 e5 e6 e7 e8 e9 e10 e11)
    ]))))))))))) where
      unknown : 1 ≤ n → nat_eq n 1 ≡ false → nat_eq n 2 ≡ false → nat_eq n 3 ≡ false → nat_eq n 4 ≡ false → nat_eq n 5 ≡ false → nat_eq n 6 ≡ false → nat_eq n 7 ≡ false
          → nat_eq n 8 ≡ false → nat_eq n 9 ≡ false → nat_eq n 10 ≡ false → nat_eq n 11 ≡ false → 11 < n
      unknown some e1 e2 e3 e4 e5 e6 e7 e8 e9 e10 e11 =
          let p : 7 ≤ n = past n 6 (past n 5 (past n 4 (past n 3 (past n 2 (past n 1 some e1) e2) e3) e4) e5) e6 in
          let q : 12 ≤ n = past n 11 (past n 10 (past n 9 (past n 8 (past n 7 p e7) e8) e9) e10) e11 in
          omega (arith, q)

possible_record : (k : Kind) (reply : Reply) → IsPossibleKind k → IsPossible (record_of k reply)
possible_record (kind.Exit code) reply is = tt
possible_record kind.EndThread reply is = tt
possible_record (kind.Spawn entry) reply is = tt
possible_record (kind.Join target) reply is = tt
possible_record (kind.Lock mutex) reply is = tt
possible_record (kind.Unlock mutex) reply is = tt
possible_record (kind.TryLock mutex) reply is = tt
possible_record (kind.Write bytes) reply is = is
possible_record kind.WriteBad reply is = tt
possible_record (kind.Read want) reply is = is
possible_record kind.ReadBad reply is = tt
possible_record kind.SelfId reply is = tt
possible_record kind.Yield reply is = tt
possible_record (kind.Unknown number) reply is = is

-- ---- what a step notes

-- the instruction that goes on with a call
calls_at : (pc : ℕ) (i : Instr) (made : Call) (after : ℕ) → goes_to pc (transfer_of pc i) (note.Called made) ≡ Some after → i ≡ instr.Ecall
unfolding transfer_of
calls_at pc instr.Ecall made after e = refl
calls_at pc (instr.Lui rd imm) made after e = absurd (none-some after e)
calls_at pc (instr.Auipc rd imm) made after e = absurd (none-some after e)
calls_at pc (instr.Jal rd offset) made after e = absurd (none-some after e)
calls_at pc (instr.Jalr rd rs1 offset) made after e = absurd (none-some after e)
calls_at pc (instr.Branch op rs1 rs2 offset) made after e = absurd (none-some after e)
calls_at pc (instr.Load op rd rs1 offset) made after e = absurd (none-some after e)
calls_at pc (instr.Store op rs1 rs2 offset) made after e = absurd (none-some after e)
calls_at pc (instr.Imm op rd rs1 imm) made after e = absurd (none-some after e)
calls_at pc (instr.Op op rd rs1 rs2) made after e = absurd (none-some after e)
calls_at pc (instr.Fence rd rs1 imm) made after e = absurd (none-some after e)
calls_at pc instr.Ebreak made after e = absurd (none-some after e)
calls_at pc (instr.LoadReserved rd rs1 aq rl) made after e = absurd (none-some after e)
calls_at pc (instr.StoreConditional rd rs1 rs2 aq rl) made after e = absurd (none-some after e)
calls_at pc (instr.Amo op rd rs1 rs2 aq rl) made after e = absurd (none-some after e)

same_called : (a b : Call) → note.Called a ≡ note.Called b → a ≡ b
same_called a b e = cc

ecall_possible : (cells : Cells) (local : Local) (heard : Heard) (made : Call) → heard.reach ≡ reach_of cells (access_at local (Ok instr.Ecall))
    → note_in (act_at local (Ok instr.Ecall) heard) ≡ note.Called made → IsPossible made
unfolding act access_of
ecall_possible cells local heard made reach shown =
    let few : (xs : List ℕ) → heard.reach.bytes ≡ Some xs → length xs ≤ 256 =
    λ (xs : List ℕ) (e : heard.reach.bytes ≡ Some xs).
    let many : length xs ≡ (buffer_of local).count =
    loaded cells (buffer_of local).address (buffer_of local).count xs (ap (λ (r : Reach). r.bytes) (sym reach) ∙ e) in
    fewer (length xs) (buffer_of local).count many (small_buffer local) in
    subst IsPossible (same_called (record_of (kind_at local heard.reach) heard.reply) made shown)
    (possible_record (kind_at local heard.reach) heard.reply (possible_kind (number_of_call local) (first_argument local) (second_argument local) heard.reach few)) where
      fewer : (m n : ℕ) → m ≡ n → n ≤ 256 → m ≤ 256
      fewer m n e le = omega (arith, e, le)

pub called_possible : (image : Layout) (cells : Cells) (calls : Calls) (t : ℕ) (thread : Thread) (i : Instr) (made : Call) (after : ℕ)
    → instr_at image thread.local.pc ≡ Ok i → goes_to thread.local.pc (transfer_of thread.local.pc i) (note.Called made) ≡ Some after
    → note_in (outcome_by image cells calls t thread) ≡ note.Called made → IsPossible made
called_possible image cells calls t thread i made after at goes shown =
    let fetched : instr_at image thread.local.pc ≡ Ok instr.Ecall = at ∙ ap (λ (x : Instr). Ok x) (calls_at thread.local.pc i made after goes) in
    ecall_possible cells thread.local (heard_by image cells calls t thread) made (ap (λ (r : Result Instr Cause). reach_of cells (access_at thread.local r)) fetched)
    (subst (λ (r : Result Instr Cause). note_in (act_at thread.local r (heard_by image cells calls t thread)) ≡ note.Called made) fetched shown)
