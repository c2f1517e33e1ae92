-- A call has a record exactly where the registers ask for it and its buffer is so.
use Rattle.std.proofs.Common.{◌≡◌, ◌↔◌, ◌⊎◌, ℕ, ◌<◌, ◌≤◌, Bool, true, false, ◌&&◌, ◌||◌, List, length, map, Option, Some, None, refl, sym, ◌∙◌, ap, subst, inl, inr, arith, nat_eq, if◌then◌else◌}
use Rattle.std.specs.Prelude.{IfSome}
use Rattle.std.specs.List.{range_with_len}
use Rattle.std.proofs.lemmas.Bool.{eqb-true, ne_eqb, false≢true, leb-false}
use Rattle.std.proofs.lemmas.List.FromFn.{length-map-range_with_len}
use Rattle.elf_image.specs.Layout.{Layout}
use Rattle.rv32_decode.specs.declared.instr.Instr.TheVariants as instr
use Rattle.odr_log.specs.declared.log.Call.{Call}
use Rattle.odr_log.specs.declared.log.Call.TheVariants as call
use Rattle.rv_model.specs.declared.hearing.Access.{Access}
use Rattle.rv_model.specs.declared.hearing.Kind.{Kind}
use Rattle.rv_model.specs.declared.hearing.Kind.TheVariants as kind
use Rattle.rv_model.specs.declared.hearing.Reach.{Reach}
use Rattle.rv_model.specs.declared.hearing.Reply.{Reply}
use Rattle.rv_model.specs.declared.state.Local.{Local}
use Rattle.rv_model.specs.Calls.{first_argument, fits_buffer, kind_at, kind_by, number_of_call, record_of, second_argument, writing}
use Rattle.rv_model.specs.CallsFit.{IsPossible, reply_in}
use Rattle.rv_model.specs.Instruction.{access_of, no_access}
use Rattle.guided_walk.specs.Guided.{met}
use Rattle.call_terms.specs.Records.{Asks, BufferMeets, first_in, may_read, may_write, number_in, second_in}

-- ---- the number of a call

abbrev number_of : Kind → ℕ
number_of (kind.Exit code) = 1
number_of kind.EndThread = 2
number_of (kind.Spawn entry) = 3
number_of (kind.Join target) = 4
number_of (kind.Lock mutex) = 5
number_of (kind.Unlock mutex) = 6
number_of (kind.TryLock mutex) = 7
number_of (kind.Write bytes) = 8
number_of kind.WriteBad = 8
number_of (kind.Read want) = 9
number_of kind.ReadBad = 9
number_of kind.SelfId = 10
number_of kind.Yield = 11
number_of (kind.Unknown number) = number

chosen : (n k : ℕ) (one other : Kind) → number_of one ≡ k → number_of other ≡ n → (b : Bool) → nat_eq n k ≡ b → number_of (if b then one else other) ≡ n
chosen n k one other is_one is_other true e = is_one ∙ sym (eqb-true n k e)
chosen n k one other is_one is_other false e = is_other

written : (b : Bool) (bytes : Option (List ℕ)) → number_of (if b then writing bytes else kind.WriteBad) ≡ 8
written true None = refl
written true (Some bytes) = refl
written false bytes = refl

handed : (b : Bool) (count : ℕ) → number_of (if b then kind.Read count else kind.ReadBad) ≡ 9
handed true count = refl
handed false count = refl

kind_number : (n a0 a1 : ℕ) (reach : Reach) → number_of (kind_by n a0 a1 reach) ≡ n
kind_number n a0 a1 reach =
    chosen n 1 _ _ refl (chosen n 2 _ _ refl (chosen n 3 _ _ refl (chosen n 4 _ _ refl (chosen n 5 _ _ refl (chosen n 6 _ _ refl (chosen n 7 _ _ refl
    (chosen n 8 _ _ (written (fits_buffer a1) reach.bytes) (chosen n 9 _ _ (handed (fits_buffer a1 && reach.writable) a1) (chosen n 10 _ _ refl (chosen n 11 _ _ refl refl
    (nat_eq n 11) refl) (nat_eq n 10) refl) (nat_eq n 9) refl) (nat_eq n 8) refl) (nat_eq n 7) refl) (nat_eq n 6) refl) (nat_eq n 5) refl) (nat_eq n 4) refl)
    (nat_eq n 3) refl) (nat_eq n 2) refl) (nat_eq n 1) refl

record_number : (k : Kind) (reply : Reply) → number_in (record_of k reply) ≡ number_of k
record_number (kind.Exit code) reply = refl
record_number kind.EndThread reply = refl
record_number (kind.Spawn entry) reply = refl
record_number (kind.Join target) reply = refl
record_number (kind.Lock mutex) reply = refl
record_number (kind.Unlock mutex) reply = refl
record_number (kind.TryLock mutex) reply = refl
record_number (kind.Write bytes) reply = refl
record_number kind.WriteBad reply = refl
record_number (kind.Read want) reply = refl
record_number kind.ReadBad reply = refl
record_number kind.SelfId reply = refl
record_number kind.Yield reply = refl
record_number (kind.Unknown number) reply = refl

-- ---- what a call meets, over plain numbers

abbrev buffer : ℕ → ℕ → ℕ → Access
buffer n a0 a1 = if (nat_eq n 8 || nat_eq n 9) && fits_buffer a1 then record { address = a0; count = a1 } else no_access

abbrev recorded : Layout → (ℕ → ℕ) → Reply → ℕ → ℕ → ℕ → Call
recorded image bytes reply n a0 a1 = record_of (kind_by n a0 a1 (met image bytes (buffer n a0 a1))) reply

number_told : (image : Layout) (bytes : ℕ → ℕ) (reply : Reply) (n a0 a1 : ℕ) (made : Call) → recorded image bytes reply n a0 a1 ≡ made → n ≡ number_in made
number_told image bytes reply n a0 a1 made e =
    let reach : Reach = met image bytes (buffer n a0 a1) in
    sym (kind_number n a0 a1 reach) ∙ sym (record_number (kind_by n a0 a1 reach) reply) ∙ ap number_in e

-- the call asks for this record, over plain numbers
abbrev Tells : Layout → (ℕ → ℕ) → ℕ → ℕ → Call → Type 0
Tells image bytes a0 a1 made =
    IfSome (first_in made) (λ value. a0 ≡ value) × IfSome (second_in made) (λ value. a1 ≡ value) × BufferMeets image bytes a0 a1 made

-- ---- one record after another, the number of the call being the record's

-- the call has no argument that is told
alone : {P : Type 0} → P → P ↔ (Unit {0} × Unit {0} × Unit {0})
alone p = (λ h. (tt, tt, tt), λ h. p)

-- the first argument is told
with_first : (make : ℕ → Call) (a0 value : ℕ) → ((one other : ℕ) → make one ≡ make other → one ≡ other) → (make a0 ≡ make value) ↔ ((a0 ≡ value) × Unit {0} × Unit {0})
with_first make a0 value same = (λ e. (same a0 value e, tt, tt), λ h. ap make h.0)

not_bad_write : (some : List ℕ) → call.WriteBad ≡ call.Write some → ⊥
not_bad_write some e = cc

same_write : (one other : List ℕ) → call.Write one ≡ call.Write other → one ≡ other
same_write one other e = cc

fits_yes : (a1 count : ℕ) → a1 ≡ count → count ≤ 256 → fits_buffer a1 ≡ false → ⊥
fits_yes a1 count e few h = omega (arith, e, few, leb-false a1 256 h)

write_reads : (image : Layout) (bytes : ℕ → ℕ) (reply : Reply) (a0 a1 : ℕ) (some : List ℕ) (r : Bool) → may_read image a0 a1 ≡ r
    → (record_of (writing (if r then Some (map bytes (range_with_len 0 a1)) else None)) reply ≡ call.Write some)
    ↔ (Unit {0} × (a1 ≡ length some) × BufferMeets image bytes a0 a1 (call.Write some))
write_reads image bytes reply a0 a1 some true readable = (
  λ e.
      let same : map bytes (range_with_len 0 a1) ≡ some = same_write (map bytes (range_with_len 0 a1)) some e in
      let count : a1 ≡ length some = sym (length-map-range_with_len bytes 0 a1) ∙ ap (length {A = ℕ}) same in
      (tt, count, record { readable = subst (λ n. may_read image a0 n ≡ true) count readable; same = subst (λ n. map bytes (range_with_len 0 n) ≡ some) count same }),
  λ h. ap call.Write (ap (λ n. map bytes (range_with_len 0 n)) h.1 ∙ h.2.same),
)
write_reads image bytes reply a0 a1 some false readable = (
  λ e. absurd (not_bad_write some e),
  λ h. absurd (false≢true (sym readable ∙ ap (λ n. may_read image a0 n) h.1 ∙ h.2.readable)),
)

write_fits : (image : Layout) (bytes : ℕ → ℕ) (reply : Reply) (a0 a1 : ℕ) (some : List ℕ) → length some ≤ 256 → (b : Bool) → fits_buffer a1 ≡ b
    → (record_of (if b then writing (met image bytes (if b then record { address = a0; count = a1 } else no_access)).bytes else kind.WriteBad) reply ≡ call.Write some)
    ↔ (Unit {0} × (a1 ≡ length some) × BufferMeets image bytes a0 a1 (call.Write some))
write_fits image bytes reply a0 a1 some few true fits = write_reads image bytes reply a0 a1 some (may_read image a0 a1) refl
write_fits image bytes reply a0 a1 some few false fits = (
  λ e. absurd (not_bad_write some e),
  λ h. absurd (fits_yes a1 (length some) h.1 few fits),
)

bad_reads : (image : Layout) (bytes : ℕ → ℕ) (reply : Reply) (a0 a1 : ℕ) (r : Bool)
    → (record_of (writing (if r then Some (map bytes (range_with_len 0 a1)) else None)) reply ≡ call.WriteBad) ↔ (Unit {0} × Unit {0} × (r ≡ false))
bad_reads image bytes reply a0 a1 true = (λ e. absurd (not_bad_write (map bytes (range_with_len 0 a1)) (sym e)), λ h. absurd (false≢true (sym h.2)))
bad_reads image bytes reply a0 a1 false = (λ e. (tt, tt, refl), λ h. refl)

bad_write : (image : Layout) (bytes : ℕ → ℕ) (reply : Reply) (a0 a1 : ℕ) (b : Bool)
    → (record_of (if b then writing (met image bytes (if b then record { address = a0; count = a1 } else no_access)).bytes else kind.WriteBad) reply ≡ call.WriteBad)
    ↔ (Unit {0} × Unit {0} × ((b && may_read image a0 a1) ≡ false))
bad_write image bytes reply a0 a1 true = bad_reads image bytes reply a0 a1 (may_read image a0 a1)
bad_write image bytes reply a0 a1 false = (λ e. (tt, tt, refl), λ h. refl)

not_bad_read : (want : ℕ) (got : List ℕ) → call.ReadBad ≡ call.Read want got → ⊥
not_bad_read want got e = cc

same_read : (one other : ℕ) (got : List ℕ) → call.Read one got ≡ call.Read other got → one ≡ other
same_read one other got e = cc

read_writes : (image : Layout) (bytes : ℕ → ℕ) (a0 a1 want : ℕ) (got : List ℕ) (v : Bool) → may_write image a0 a1 ≡ v
    → (record_of (if v then kind.Read a1 else kind.ReadBad) (reply_in (call.Read want got)) ≡ call.Read want got)
    ↔ (Unit {0} × (a1 ≡ want) × BufferMeets image bytes a0 a1 (call.Read want got))
read_writes image bytes a0 a1 want got true writable = (
  λ e. let same : a1 ≡ want = same_read a1 want got e in (tt, same, subst (λ n. may_write image a0 n ≡ true) same writable),
  λ h. ap (λ n. call.Read n got) h.1,
)
read_writes image bytes a0 a1 want got false writable = (
  λ e. absurd (not_bad_read want got e),
  λ h. absurd (false≢true (sym writable ∙ ap (λ n. may_write image a0 n) h.1 ∙ h.2)),
)

read_fits : (image : Layout) (bytes : ℕ → ℕ) (a0 a1 want : ℕ) (got : List ℕ) → want ≤ 256 → (b : Bool) → fits_buffer a1 ≡ b
    → (record_of (if b && (met image bytes (if b then record { address = a0; count = a1 } else no_access)).writable then kind.Read a1 else kind.ReadBad) (reply_in (call.Read want got)) ≡ call.Read want got)
    ↔ (Unit {0} × (a1 ≡ want) × BufferMeets image bytes a0 a1 (call.Read want got))
read_fits image bytes a0 a1 want got few true fits = read_writes image bytes a0 a1 want got (may_write image a0 a1) refl
read_fits image bytes a0 a1 want got few false fits = (
  λ e. absurd (not_bad_read want got e),
  λ h. absurd (fits_yes a1 want h.1 few fits),
)

bad_writes : (a1 : ℕ) (reply : Reply) (v : Bool) → (record_of (if v then kind.Read a1 else kind.ReadBad) reply ≡ call.ReadBad) ↔ (Unit {0} × Unit {0} × (v ≡ false))
bad_writes a1 reply true = (λ e. absurd (not_bad_read a1 reply.bytes (sym e)), λ h. absurd (false≢true (sym h.2)))
bad_writes a1 reply false = (λ e. (tt, tt, refl), λ h. refl)

bad_read : (image : Layout) (bytes : ℕ → ℕ) (reply : Reply) (a0 a1 : ℕ) (b : Bool)
    → (record_of (if b && (met image bytes (if b then record { address = a0; count = a1 } else no_access)).writable then kind.Read a1 else kind.ReadBad) reply ≡ call.ReadBad)
    ↔ (Unit {0} × Unit {0} × ((b && may_write image a0 a1) ≡ false))
bad_read image bytes reply a0 a1 true = bad_writes a1 reply (may_write image a0 a1)
bad_read image bytes reply a0 a1 false = (λ e. (tt, tt, refl), λ h. refl)

-- a number that no call has
skips : (n k : ℕ) (one other : Kind) → (n ≡ k → ⊥) → (if nat_eq n k then one else other) ≡ other
skips n k one other differ = ap (λ b. if b then one else other) (ne_eqb n k differ)

unknown_above : (n a0 a1 : ℕ) (reach : Reach) → 11 < n → kind_by n a0 a1 reach ≡ kind.Unknown n
unknown_above n a0 a1 reach above =
    skips n 1 _ _ (λ e. omega (arith, e, above)) ∙ skips n 2 _ _ (λ e. omega (arith, e, above)) ∙ skips n 3 _ _ (λ e. omega (arith, e, above))
    ∙ skips n 4 _ _ (λ e. omega (arith, e, above)) ∙ skips n 5 _ _ (λ e. omega (arith, e, above)) ∙ skips n 6 _ _ (λ e. omega (arith, e, above))
    ∙ skips n 7 _ _ (λ e. omega (arith, e, above)) ∙ skips n 8 _ _ (λ e. omega (arith, e, above)) ∙ skips n 9 _ _ (λ e. omega (arith, e, above))
    ∙ skips n 10 _ _ (λ e. omega (arith, e, above)) ∙ skips n 11 _ _ (λ e. omega (arith, e, above))

unknown : (n a0 a1 : ℕ) (reach : Reach) → (n ≡ 0) ⊎ (11 < n) → kind_by n a0 a1 reach ≡ kind.Unknown n
unknown n a0 a1 reach (inl e) = subst (λ m. kind_by m a0 a1 reach ≡ kind.Unknown m) (sym e) refl
unknown n a0 a1 reach (inr above) = unknown_above n a0 a1 reach above

by_record : (image : Layout) (bytes : ℕ → ℕ) (a0 a1 : ℕ) (made : Call) → IsPossible made → (recorded image bytes (reply_in made) (number_in made) a0 a1 ≡ made) ↔ Tells image bytes a0 a1 made
by_record image bytes a0 a1 (call.Exit code) possible = with_first call.Exit a0 code (λ one other e. cc)
by_record image bytes a0 a1 call.EndThread possible = alone refl
by_record image bytes a0 a1 (call.Spawn entry child) possible = with_first (λ n. call.Spawn n child) a0 entry (λ one other e. cc)
by_record image bytes a0 a1 (call.Join target ok) possible = with_first (λ n. call.Join n ok) a0 target (λ one other e. cc)
by_record image bytes a0 a1 (call.Lock mutex ok) possible = with_first (λ n. call.Lock n ok) a0 mutex (λ one other e. cc)
by_record image bytes a0 a1 (call.Unlock mutex ok) possible = with_first (λ n. call.Unlock n ok) a0 mutex (λ one other e. cc)
by_record image bytes a0 a1 (call.TryLock mutex got) possible = with_first (λ n. call.TryLock n got) a0 mutex (λ one other e. cc)
by_record image bytes a0 a1 (call.Write some) possible = write_fits image bytes (reply_in (call.Write some)) a0 a1 some possible (fits_buffer a1) refl
by_record image bytes a0 a1 call.WriteBad possible = bad_write image bytes (reply_in call.WriteBad) a0 a1 (fits_buffer a1)
by_record image bytes a0 a1 (call.Read want got) possible = read_fits image bytes a0 a1 want got possible (fits_buffer a1) refl
by_record image bytes a0 a1 call.ReadBad possible = bad_read image bytes (reply_in call.ReadBad) a0 a1 (fits_buffer a1)
by_record image bytes a0 a1 call.SelfId possible = alone refl
by_record image bytes a0 a1 call.Yield possible = alone refl
by_record image bytes a0 a1 (call.Unknown number) possible =
    alone (ap (λ (k : Kind). record_of k (reply_in (call.Unknown number))) (unknown number a0 a1 (met image bytes (buffer number a0 a1)) possible))

-- ---- the law

pub records_tell : (image : Layout) (bytes : ℕ → ℕ) (local : Local) (made : Call) → IsPossible made
    → (record_of (kind_at local (met image bytes (access_of local instr.Ecall))) (reply_in made) ≡ made)
    ↔ (Asks local made × BufferMeets image bytes (first_argument local) (second_argument local) made)
unfolding access_of
records_tell image bytes local made possible =
    let n : ℕ = number_of_call local in
    let a0 : ℕ = first_argument local in
    let a1 : ℕ = second_argument local in
    let by = by_record image bytes a0 a1 made possible in (
      λ e.
          let number : n ≡ number_in made = number_told image bytes (reply_in made) n a0 a1 made e in
          let told : Tells image bytes a0 a1 made = by.0 (subst (λ m. recorded image bytes (reply_in made) m a0 a1 ≡ made) number e) in
          (record { number = number; first = told.0; second = told.1 }, told.2),
      λ h. subst (λ m. recorded image bytes (reply_in made) m a0 a1 ≡ made) (sym h.0.number) (by.1 (h.0.first, h.0.second, h.1)),
    )
