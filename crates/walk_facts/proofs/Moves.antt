-- What an instruction reads and writes, by what its access meets: it reads where all may be read, and writes where all may be
-- written.
use Rattle.std.specs.Prelude.{◌≡◌, ℕ, zero, suc, ◌*◌, ◌/◌, ◌^◌, ◌<◌, ◌≤◌, Bool, true, false, cond, ◌&&◌, ◌||◌, List, [], length, nat_eq, slice_index, Option, Some, None, is_some, Ok, refl}
use Rattle.std.proofs.Common.{sym, ◌∙◌, ap, arith}
use Rattle.std.proofs.lemmas.Bool.{and_from, and_parts, false≢true}
use Rattle.elf_image.specs.Memory.{bytes_of, writes_of}
use Rattle.rv32_decode.specs.declared.instr.Instr.{Instr}
use Rattle.rv32_decode.specs.declared.instr.Instr.TheVariants as instr
use Rattle.odr_log.specs.declared.log.Call.TheVariants as call
use Rattle.odr_log.specs.declared.log.Cause.{Cause}
use Rattle.odr_log.specs.declared.log.Cause.TheVariants as cause
use Rattle.rv_model.specs.declared.hearing.Access.{Access}
use Rattle.rv_model.specs.declared.hearing.Heard.{Heard}
use Rattle.rv_model.specs.declared.hearing.Kind.{Kind}
use Rattle.rv_model.specs.declared.hearing.Kind.TheVariants as kind
use Rattle.rv_model.specs.declared.hearing.Outcome.{Outcome}
use Rattle.rv_model.specs.declared.hearing.Outcome.TheVariants.{Faults, Goes}
use Rattle.rv_model.specs.declared.hearing.Reach.{Reach}
use Rattle.rv_model.specs.declared.hearing.Reply.{Reply}
use Rattle.rv_model.specs.declared.state.Local.{Local}
use Rattle.rv_model.specs.declared.state.Note.{Note}
use Rattle.rv_model.specs.declared.state.Note.TheVariants as note
use Rattle.rv_model.specs.Calls.{first_argument, fits_buffer, kind_at, number_of_call, record_of, second_argument, writing}
use Rattle.rv_model.specs.Instruction.{access_of, act, buffer_of, calls_out, is_aligned, loads, may_amo, word_in}
use Rattle.rv_model.specs.Noted.{note_in, writes_in}
use Rattle.rv_model.specs.Thread.{onward, register, with_register, next_pc, gone_to}
use Rattle.rv_model.specs.Values.{amo_of, extended, plus_offset, store_size, taken_of}
use Rattle.guided_walk.specs.Fits.{has_read, reads_in}

-- ---- the buffer of a call

abbrev buffer_at : Local → Access
buffer_at l = record { address = first_argument l; count = second_argument l }

-- what a write and a read call tell of the buffer
abbrev pub Buffers : Local → Reach → Kind → Type 0
Buffers l reach (kind.Write bytes) = (buffer_of l ≡ buffer_at l) × (reach.bytes ≡ Some bytes)
Buffers l reach (kind.Read want) = (buffer_of l ≡ buffer_at l) × (want ≡ second_argument l) × (reach.writable ≡ true)
Buffers l reach (kind.Exit code) = Unit {0}
Buffers l reach kind.EndThread = Unit {0}
Buffers l reach (kind.Spawn entry) = Unit {0}
Buffers l reach (kind.Join target) = Unit {0}
Buffers l reach (kind.Lock mutex) = Unit {0}
Buffers l reach (kind.Unlock mutex) = Unit {0}
Buffers l reach (kind.TryLock mutex) = Unit {0}
Buffers l reach kind.WriteBad = Unit {0}
Buffers l reach kind.ReadBad = Unit {0}
Buffers l reach kind.SelfId = Unit {0}
Buffers l reach kind.Yield = Unit {0}
Buffers l reach (kind.Unknown number) = Unit {0}

or_right : (b c : Bool) → c ≡ true → (b || c) ≡ true
or_right true c e = refl
or_right false c e = e

or_left : (b c : Bool) → b ≡ true → (b || c) ≡ true
or_left true c e = refl
or_left false c e = absurd (false≢true e)

buffer_is : (l : Local) → ((nat_eq (number_of_call l) 8 || nat_eq (number_of_call l) 9) ≡ true) → fits_buffer (second_argument l) ≡ true → buffer_of l ≡ buffer_at l
buffer_is l number fits =
    ap (λ (b : Bool). cond b (buffer_at l) (let none : Access = record { address = 0; count = 0 } in none))
    (and_from (nat_eq (number_of_call l) 8 || nat_eq (number_of_call l) 9) (fits_buffer (second_argument l)) number fits)

by_cond : (l : Local) (reach : Reach) (b : Bool) (k m : Kind) → (b ≡ true → Buffers l reach k) → (b ≡ false → Buffers l reach m) → Buffers l reach (cond b k m)
by_cond l reach true k m one other = one refl
by_cond l reach false k m one other = other refl

by_bytes : (l : Local) (reach : Reach) (o : Option (List ℕ)) → reach.bytes ≡ o → buffer_of l ≡ buffer_at l → Buffers l reach (writing o)
by_bytes l reach None e buffer = tt
by_bytes l reach (Some bytes) e buffer = (buffer, e)

pub kind_buffers : (l : Local) (reach : Reach) → Buffers l reach (kind_at l reach)
kind_buffers l reach =
    let n : ℕ = number_of_call l in
    let fits : Bool = fits_buffer (second_argument l) in
    by_cond l reach (nat_eq n 1) _ _ (λ (e : nat_eq n 1 ≡ true). tt) (λ (e1 : nat_eq n 1 ≡ false).
    by_cond l reach (nat_eq n 2) _ _ (λ (e : nat_eq n 2 ≡ true). tt) (λ (e2 : nat_eq n 2 ≡ false).
    by_cond l reach (nat_eq n 3) _ _ (λ (e : nat_eq n 3 ≡ true). tt) (λ (e3 : nat_eq n 3 ≡ false).
    by_cond l reach (nat_eq n 4) _ _ (λ (e : nat_eq n 4 ≡ true). tt) (λ (e4 : nat_eq n 4 ≡ false).
    by_cond l reach (nat_eq n 5) _ _ (λ (e : nat_eq n 5 ≡ true). tt) (λ (e5 : nat_eq n 5 ≡ false).
    by_cond l reach (nat_eq n 6) _ _ (λ (e : nat_eq n 6 ≡ true). tt) (λ (e6 : nat_eq n 6 ≡ false).
    by_cond l reach (nat_eq n 7) _ _ (λ (e : nat_eq n 7 ≡ true). tt) (λ (e7 : nat_eq n 7 ≡ false).
    by_cond l reach (nat_eq n 8) _ _
    (λ (e : nat_eq n 8 ≡ true). by_cond l reach fits _ _
    (λ (f : fits ≡ true). by_bytes l reach reach.bytes refl (buffer_is l (or_left (nat_eq n 8) (nat_eq n 9) e) f)) (λ (f : fits ≡ false). tt))
    (λ (e8 : nat_eq n 8 ≡ false). by_cond l reach (nat_eq n 9) _ _
    (λ (e : nat_eq n 9 ≡ true). by_cond l reach (fits && reach.writable) _ _
    (λ (f : (fits && reach.writable) ≡ true).
    (buffer_is l (or_right (nat_eq n 8) (nat_eq n 9) e) (and_parts fits reach.writable f).0, refl, (and_parts fits reach.writable f).1))
    (λ (f : (fits && reach.writable) ≡ false). tt))
    (λ (e9 : nat_eq n 9 ≡ false). by_cond l reach (nat_eq n 10) _ _ (λ (e : nat_eq n 10 ≡ true). tt) (λ (e10 : nat_eq n 10 ≡ false).
    by_cond l reach (nat_eq n 11) _ _ (λ (e : nat_eq n 11 ≡ true). tt) (λ (e11 : nat_eq n 11 ≡ false). tt)))))))))))

-- ---- rights

-- numbers below 2 ^ 8
abbrev pub AreBytes : List ℕ → Type 0
AreBytes bytes = (k : ℕ) → k < length bytes → slice_index bytes k < 2 ^ 8

-- what a read call got are bytes
abbrev pub GetsBytes : Outcome → Type 0
GetsBytes o = (want : ℕ) (bytes : List ℕ) → note_in o ≡ note.Called (call.Read want bytes) → AreBytes bytes

-- What an instruction reads may be read; what it writes are bytes from its access's address on, no more than the access has,
-- where all may be written.
pub record Moves (l : Local) (i : Instr) (reach : Reach) (o : Outcome) : Type 0 where
  pub read : reads_in (Ok i) o ≡ true → is_some reach.bytes ≡ true
  pub written : List ℕ
  pub writes : writes_in o ≡ writes_of (access_of l i).address written []
  pub within : length written ≤ (access_of l i).count
  pub writable : (k : ℕ) → k < length written → reach.writable ≡ true
  pub bytes : GetsBytes o → AreBytes written

-- an instruction that reads nothing, whatever it shows
pub no_read : (i : Instr) (o : Outcome) → ((shown : Note) → has_read (Ok i) shown ≡ false) → reads_in (Ok i) o ≡ false
no_read i (Faults fault) none = refl
no_read i (Goes local writes shown) none = none shown

pub still_cond : (b : Bool) (x y : Outcome) → writes_in x ≡ [] → writes_in y ≡ [] → writes_in (cond b x y) ≡ []
still_cond true x y p q = p
still_cond false x y p q = q

silent : (l : Local) (i : Instr) (reach : Reach) (o : Outcome) → reads_in (Ok i) o ≡ false → writes_in o ≡ [] → Moves l i reach o
silent l i reach o reads writes = record {
  read = λ (e : reads_in (Ok i) o ≡ true). absurd (false≢true (sym reads ∙ e));
  written = [];
  writes = writes;
  within = omega arith;
  writable = λ (k : ℕ) (less : k < 0). absurd (omega (arith, less));
  bytes = λ (gets : GetsBytes o) (k : ℕ) (less : k < 0). absurd (omega (arith, less));
}

moves_load : (l : Local) (i : Instr) (reach : Reach) (rd : ℕ) (extend : ℕ → ℕ) (bytes : Option (List ℕ)) → reach.bytes ≡ bytes → Moves l i reach (loads l rd extend bytes)
moves_load l i reach rd extend None e = silent l i reach (loads l rd extend None) refl refl
moves_load l i reach rd extend (Some bytes) e = record {
  read = λ (reads : reads_in (Ok i) (loads l rd extend (Some bytes)) ≡ true). ap is_some e;
  written = [];
  writes = refl;
  within = omega arith;
  writable = λ (k : ℕ) (less : k < 0). absurd (omega (arith, less));
  bytes = λ (gets : GetsBytes (loads l rd extend (Some bytes))) (k : ℕ) (less : k < 0). absurd (omega (arith, less));
}

moves_write : (l : Local) (i : Instr) (reach : Reach) (may : Bool) (after : Local) (address : ℕ) (bytes : List ℕ) (fault : Cause)
    → (access_of l i).address ≡ address → length bytes ≤ (access_of l i).count → AreBytes bytes → (may ≡ true → reach.writable ≡ true)
    → (has_read (Ok i) note.Nothing ≡ true → may ≡ true → is_some reach.bytes ≡ true)
    → Moves l i reach (cond may (Goes after (writes_of address bytes []) note.Nothing) (Faults fault))
moves_write l i reach true after address bytes fault at few small writable reads = record {
  read = λ (e : has_read (Ok i) note.Nothing ≡ true). reads e refl;
  written = bytes;
  writes = ap (λ (a : ℕ). writes_of a bytes []) (sym at);
  within = few;
  writable = λ (k : ℕ) (less : k < length bytes). writable refl;
  bytes = λ (gets : GetsBytes (Goes after (writes_of address bytes []) note.Nothing)). small;
}
moves_write l i reach false after address bytes fault at few small writable reads = silent l i reach (Faults fault) refl refl

length-bytes_of : (n value : ℕ) → length (bytes_of n value) ≡ n
length-bytes_of zero value = refl
length-bytes_of (suc n) value = ap suc (length-bytes_of n (value / 2 ^ 8))

bytes-bytes_of : (n value : ℕ) → AreBytes (bytes_of n value)
bytes-bytes_of zero value k less = absurd (omega (arith, less))
bytes-bytes_of (suc n) value zero less = omega arith
bytes-bytes_of (suc n) value (suc k) less = bytes-bytes_of n (value / 2 ^ 8) k (omega (arith, less))

no_bytes : AreBytes []
no_bytes k less = absurd (omega (arith, less))

amo_writable : (address : ℕ) (reach : Reach) → may_amo address reach ≡ true → reach.writable ≡ true
amo_writable address reach e = (and_parts (is_some reach.bytes) reach.writable (and_parts (is_aligned address) (is_some reach.bytes && reach.writable) e).1).1

amo_readable : (address : ℕ) (reach : Reach) → may_amo address reach ≡ true → is_some reach.bytes ≡ true
amo_readable address reach e = (and_parts (is_some reach.bytes) reach.writable (and_parts (is_aligned address) (is_some reach.bytes && reach.writable) e).1).0

moves_amo : (l : Local) (i : Instr) (reach : Reach) (after : Local) (address : ℕ) (bytes : List ℕ) → (access_of l i).address ≡ address → length bytes ≤ (access_of l i).count → AreBytes bytes
    → Moves l i reach (cond (may_amo address reach) (Goes after (writes_of address bytes []) note.Nothing) (Faults cause.AmoFault))
moves_amo l i reach after address bytes at few small =
    moves_write l i reach (may_amo address reach) after address bytes cause.AmoFault at few small (amo_writable address reach)
    (λ (reads : has_read (Ok i) note.Nothing ≡ true). amo_readable address reach)

moves_either : (l : Local) (i : Instr) (reach : Reach) (b : Bool) (x y : Outcome) → Moves l i reach x → Moves l i reach y → Moves l i reach (cond b x y)
moves_either l i reach true x y p q = p
moves_either l i reach false x y p q = q

-- a read call reads no more than it asks for
abbrev pub ReadsFew : Outcome → Type 0
ReadsFew o = (want : ℕ) (bytes : List ℕ) → note_in o ≡ note.Called (call.Read want bytes) → length bytes ≤ want

moves_call : (l : Local) (reach : Reach) (thread joined : ℕ) (reply : Reply) (k : Kind) → Buffers l reach k → ReadsFew (calls_out l thread joined (record_of k reply))
    → Moves l instr.Ecall reach (calls_out l thread joined (record_of k reply))
unfolding access_of
moves_call l reach thread joined reply (kind.Write bytes) buffers few = record {
  read = λ (reads : true ≡ true). ap is_some buffers.1;
  written = [];
  writes = refl;
  within = omega arith;
  writable = λ (k : ℕ) (less : k < 0). absurd (omega (arith, less));
  bytes = λ (gets : GetsBytes (calls_out l thread joined (call.Write bytes))) (k : ℕ) (less : k < 0). absurd (omega (arith, less));
}
moves_call l reach thread joined reply (kind.Read want) buffers few = record {
  read = λ (reads : false ≡ true). absurd (false≢true reads);
  written = reply.bytes;
  writes = ap (λ (a : Access). writes_of a.address reply.bytes []) (sym buffers.0);
  within =
      let asked : length reply.bytes ≤ want = few want reply.bytes refl in
      let count : (buffer_of l).count ≡ second_argument l = ap (λ (a : Access). a.count) buffers.0 in
      omega (arith, asked, count, buffers.1);
  writable = λ (k : ℕ) (less : k < length reply.bytes). buffers.2;
  bytes = λ (gets : GetsBytes (calls_out l thread joined (call.Read want reply.bytes))). gets want reply.bytes refl;
}
moves_call l reach thread joined reply (kind.Exit code) buffers few = silent l instr.Ecall reach _ refl refl
moves_call l reach thread joined reply kind.EndThread buffers few = silent l instr.Ecall reach _ refl refl
moves_call l reach thread joined reply (kind.Spawn entry) buffers few = silent l instr.Ecall reach _ refl refl
moves_call l reach thread joined reply (kind.Join target) buffers few = silent l instr.Ecall reach _ refl refl
moves_call l reach thread joined reply (kind.Lock mutex) buffers few = silent l instr.Ecall reach _ refl refl
moves_call l reach thread joined reply (kind.Unlock mutex) buffers few = silent l instr.Ecall reach _ refl refl
moves_call l reach thread joined reply (kind.TryLock mutex) buffers few = silent l instr.Ecall reach _ refl refl
moves_call l reach thread joined reply kind.WriteBad buffers few = silent l instr.Ecall reach _ refl refl
moves_call l reach thread joined reply kind.ReadBad buffers few = silent l instr.Ecall reach _ refl refl
moves_call l reach thread joined reply kind.SelfId buffers few = silent l instr.Ecall reach _ refl refl
moves_call l reach thread joined reply kind.Yield buffers few = silent l instr.Ecall reach _ refl refl
moves_call l reach thread joined reply (kind.Unknown number) buffers few = silent l instr.Ecall reach _ refl refl

pub moves : (l : Local) (i : Instr) (heard : Heard) → ReadsFew (act l i heard) → Moves l i heard.reach (act l i heard)
unfolding act access_of
moves l (instr.Lui rd imm) heard few = silent l (instr.Lui rd imm) heard.reach _ refl refl
moves l (instr.Auipc rd imm) heard few = silent l (instr.Auipc rd imm) heard.reach _ refl refl
moves l (instr.Jal rd offset) heard few =
    silent l (instr.Jal rd offset) heard.reach _ (no_read (instr.Jal rd offset) _ (λ (shown : Note). refl))
    (still_cond (is_aligned (plus_offset l.pc offset)) (Goes (gone_to (with_register l rd (next_pc l)) (plus_offset l.pc offset)) [] note.Nothing) (Faults cause.Misaligned) refl refl)
moves l (instr.Jalr rd rs1 offset) heard few =
    let target : ℕ = plus_offset (register l rs1) offset / 2 * 2 in
    silent l (instr.Jalr rd rs1 offset) heard.reach _ (no_read (instr.Jalr rd rs1 offset) _ (λ (shown : Note). refl))
    (still_cond (is_aligned target) (Goes (gone_to (with_register l rd (next_pc l)) target) [] (note.Jump target)) (Faults cause.Misaligned) refl refl)
moves l (instr.Branch op rs1 rs2 offset) heard few =
    let target : ℕ = plus_offset l.pc offset in
    silent l (instr.Branch op rs1 rs2 offset) heard.reach _ (no_read (instr.Branch op rs1 rs2 offset) _ (λ (shown : Note). refl))
    (still_cond (taken_of op (register l rs1) (register l rs2)) _ (Goes (onward l) [] (note.Branch false))
    (still_cond (is_aligned target) (Goes (gone_to l target) [] (note.Branch true)) (Faults cause.Misaligned) refl refl) refl)
moves l (instr.Load op rd rs1 offset) heard few = moves_load l (instr.Load op rd rs1 offset) heard.reach rd (extended op) heard.reach.bytes refl
moves l (instr.Store op rs1 rs2 offset) heard few =
    let many : length (bytes_of (store_size op) (register l rs2)) ≡ store_size op = length-bytes_of (store_size op) (register l rs2) in
    moves_write l (instr.Store op rs1 rs2 offset) heard.reach heard.reach.writable (onward l) (plus_offset (register l rs1) offset)
    (bytes_of (store_size op) (register l rs2)) cause.StoreFault refl (omega (arith, many)) (bytes-bytes_of (store_size op) (register l rs2)) (λ (e : heard.reach.writable ≡ true). e)
    (λ (reads : false ≡ true). absurd (false≢true reads))
moves l (instr.Imm op rd rs1 imm) heard few = silent l (instr.Imm op rd rs1 imm) heard.reach _ refl refl
moves l (instr.Op op rd rs1 rs2) heard few = silent l (instr.Op op rd rs1 rs2) heard.reach _ refl refl
moves l (instr.Fence rd rs1 imm) heard few = silent l (instr.Fence rd rs1 imm) heard.reach _ refl refl
moves l instr.Ecall heard few = moves_call l heard.reach heard.thread heard.joined heard.reply (kind_at l heard.reach) (kind_buffers l heard.reach) few
moves l instr.Ebreak heard few = silent l instr.Ebreak heard.reach _ refl refl
moves l (instr.LoadReserved rd rs1 aq rl) heard few =
    moves_amo l (instr.LoadReserved rd rs1 aq rl) heard.reach (onward (with_register l rd (word_in heard.reach))) (register l rs1) [] refl (omega arith) no_bytes
moves l (instr.StoreConditional rd rs1 rs2 aq rl) heard few =
    let i : Instr = instr.StoreConditional rd rs1 rs2 aq rl in
    let many : length (bytes_of 4 (register l rs2)) ≡ 4 = length-bytes_of 4 (register l rs2) in
    moves_either l i heard.reach heard.won _ _
    (moves_amo l i heard.reach (onward (with_register l rd 0)) (register l rs1) (bytes_of 4 (register l rs2)) refl (omega (arith, many)) (bytes-bytes_of 4 (register l rs2)))
    (moves_amo l i heard.reach (onward (with_register l rd 1)) (register l rs1) [] refl (omega arith) no_bytes)
moves l (instr.Amo op rd rs1 rs2 aq rl) heard few =
    let value : ℕ = amo_of op (word_in heard.reach) (register l rs2) in
    let many : length (bytes_of 4 value) ≡ 4 = length-bytes_of 4 value in
    moves_amo l (instr.Amo op rd rs1 rs2 aq rl) heard.reach (onward (with_register l rd (word_in heard.reach))) (register l rs1) (bytes_of 4 value) refl (omega (arith, many)) (bytes-bytes_of 4 value)
