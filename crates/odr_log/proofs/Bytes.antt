-- The readers of single fields belong to their spellings.
use Rattle.std.proofs.Common.{◌≡◌, ℕ, zero, suc, ◌+◌, ◌-◌, ◌^◌, ◌<◌, ◌≤◌, Bool, true, false, cond, ltb, leb, ◌&&◌, List, [], ◌∷◌, ◌++◌, length, take, drop, Result, Ok, Err, refl, sym, ap, subst, arith, inl, inr}
use Rattle.std.specs.Int.{Width, w16, w32, byte_len, from_le_bytes, to_le_bytes}
use Rattle.std.specs.Prelude.{replicate}
use Rattle.std.proofs.lemmas.Bool.{cases_lt, ltb-true, ltb-false, le-ltb, le-leb, leb-true, and_from, and_parts, both_ways}
use Rattle.std.proofs.lemmas.List.{take_at, drop_at, take-append-drop, length-append, length-take, get_or-drop, get_or-take, get_or_past, append-nil, length-replicate}
use Rattle.std.proofs.lemmas.Nat.{le_bytes_2, le_bytes_4, from_le_bytes-to_le_bytes_2, from_le_bytes-to_le_bytes_4}
use Rattle.odr_log.specs.Reading.{byte_at, number_at, bytes_at}
use Rattle.odr_log.proofs.Fields.{passed}
use Rattle.odr_log.proofs.Readers.{IsBytes, Stuck, IsReader}

abbrev done : {A : Type 0} → A → Result A ℕ
done x = Ok x

stopped : {A : Type 0} → ℕ → Result A ℕ
stopped left = Err left

-- a test that tells that the bytes are too few
stopped_at : {A : Type 0} (b : Bool) (left : ℕ) (x : A) → cond b (Err 0) (done x) ≡ Err left → (b ≡ true) × (0 ≡ left)
stopped_at true left x e = (refl, cc)
stopped_at false left x e = absurd cc

kept : {A : Type 0} (b : Bool) (x y : A) → cond b (Err 0) (done x) ≡ Ok y → (b ≡ false) × (x ≡ y)
kept true x y e = absurd cc
kept false x y e = (refl, cc)

-- a test that failed
failed : {A : Type 0} (b : Bool) (k left : ℕ) (x : A) → cond b (done x) (Err k) ≡ Err left → (b ≡ false) × (k ≡ left)
failed true k left x e = absurd cc
failed false k left x e = (refl, cc)

pub IsBytes-drop : (n : ℕ) (bytes : List ℕ) → IsBytes bytes → IsBytes (drop n bytes)
IsBytes-drop n bytes h i = rw get_or-drop (h (n + i))

pub IsBytes-take : (n : ℕ) (bytes : List ℕ) → IsBytes bytes → IsBytes (take n bytes)
IsBytes-take n bytes h i =
    elim (cases_lt i n) [
      | inl lt ↦ rw (get_or-take n bytes i 0 lt) (h i)
      | inr le ↦ rw (get_or_past (take n bytes) i 0 (omega (arith, length-take n bytes))) (omega arith)
    ]

IsBytes-rest : (b : ℕ) (bytes : List ℕ) → IsBytes (b ∷ bytes) → IsBytes bytes
IsBytes-rest b bytes h i = h (suc i)

-- ---- a byte

abbrev pub IsBetween : ℕ → ℕ → ℕ → Type 0
IsBetween low high b = (low ≤ b) × (b ≤ high)

abbrev pub one_byte : ℕ → List ℕ
one_byte b = b ∷ []

byte-takes : (low high : ℕ) (bytes : List ℕ) (b : ℕ) (rest : List ℕ) → IsBytes bytes → byte_at low high bytes ≡ Ok (b, rest) → (bytes ≡ one_byte b ++ rest) × IsBetween low high b × IsBytes rest
byte-takes low high [] b rest fits e = absurd cc
byte-takes low high (c ∷ bytes) b rest fits e =
    let h = passed (leb low c && leb c high) (length (c ∷ bytes)) (c, bytes) (b, rest) e in
    let g = and_parts (leb low c) (leb c high) h.0 in
    let same : c ≡ b = ap (λ (x : ℕ × List ℕ). x.0) h.1 in
    let rest_is : bytes ≡ rest = ap (λ (x : ℕ × List ℕ). x.1) h.1 in
    (cc, (rw (← same) (leb-true low c g.0), rw (← same) (leb-true c high g.1)), subst IsBytes rest_is (IsBytes-rest c bytes fits))

byte-again : (low high b : ℕ) (rest : List ℕ) → IsBetween low high b → byte_at low high (one_byte b ++ rest) ≡ Ok (b, rest)
byte-again low high b rest h = rw (and_from (leb low b) (leb b high) (le-leb low b h.0) (le-leb b high h.1)) refl

byte-stuck : (low high : ℕ) → low ≤ high → (bytes : List ℕ) (left : ℕ) → byte_at low high bytes ≡ Err left → Stuck (IsBetween low high) one_byte bytes left
byte-stuck low high some [] left e = record {
  front = [];
  rest = [];
  parts = refl;
  left_is = cc;
  value = low;
  tail = one_byte low;
  fits = (omega arith, some);
  goes_on = refl;
  stops = λ b after is. absurd cc;
}
byte-stuck low high some (c ∷ bytes) left e =
    let h = failed (leb low c && leb c high) (length (c ∷ bytes)) left (c, bytes) e in
    record {
      front = [];
      rest = c ∷ bytes;
      parts = refl;
      left_is = h.1;
      value = low;
      tail = one_byte low;
      fits = (omega arith, some);
      goes_on = refl;
      stops = λ b after is x more others fits text_is.
          let same : x ≡ c = cc in
          both_ways (leb low c && leb c high) h.0 (subst (λ y. (leb low y && leb y high) ≡ true) same (and_from (leb low x) (leb x high) (le-leb low x fits.0) (le-leb x high fits.1)));
    }

pub byte-reader : (low high : ℕ) → low ≤ high → IsReader (IsBetween low high) one_byte (byte_at low high)
byte-reader low high some = record {
  takes = byte-takes low high;
  again = byte-again low high;
  stuck = λ bytes left fits. byte-stuck low high some bytes left;
}

-- ---- so many bytes

pub IsBytes-append : (xs ys : List ℕ) → IsBytes xs → IsBytes ys → IsBytes (xs ++ ys)
IsBytes-append [] ys f g i = g i
IsBytes-append (x ∷ xs) ys f g zero = f 0
IsBytes-append (x ∷ xs) ys f g (suc i) = IsBytes-append xs ys (IsBytes-rest x xs f) g i

IsBytes-zeros : (n : ℕ) → IsBytes (replicate n 0)
IsBytes-zeros zero i = omega arith
IsBytes-zeros (suc n) zero = omega arith
IsBytes-zeros (suc n) (suc i) = IsBytes-zeros n i

-- the bytes and as many zeros as are missing
padded : ℕ → List ℕ → List ℕ
padded n bytes = bytes ++ replicate (n - length bytes) 0

length-padded : (n : ℕ) (bytes : List ℕ) → length bytes < n → length (padded n bytes) ≡ n
unfolding padded
length-padded n bytes lt = omega (arith, length-append bytes (replicate (n - length bytes) 0), length-replicate {A = ℕ} (n - length bytes) 0)

IsBytes-padded : (n : ℕ) (bytes : List ℕ) → IsBytes bytes → IsBytes (padded n bytes)
unfolding padded
IsBytes-padded n bytes fits = IsBytes-append bytes (replicate (n - length bytes) 0) fits (IsBytes-zeros (n - length bytes))

abbrev pub AreBytes : ℕ → List ℕ → Type 0
AreBytes n bytes = (length bytes ≡ n) × IsBytes bytes

abbrev pub these : List ℕ → List ℕ
these bytes = bytes

bytes-stuck : (n : ℕ) (bytes : List ℕ) (left : ℕ) → IsBytes bytes → bytes_at n bytes ≡ Err left → Stuck (AreBytes n) these bytes left
unfolding padded
bytes-stuck n bytes left fits e =
    let h = stopped_at (ltb (length bytes) n) left (take n bytes, drop n bytes) e in
    record {
      front = bytes;
      rest = [];
      parts = sym (append-nil bytes);
      left_is = h.1;
      value = padded n bytes;
      tail = replicate (n - length bytes) 0;
      fits = (length-padded n bytes (ltb-true _ _ h.0), IsBytes-padded n bytes fits);
      goes_on = refl;
      stops = λ b after is. absurd cc;
    }

pub bytes-reader : (n : ℕ) → IsReader (AreBytes n) these (bytes_at n)
bytes-reader n = record {
  takes = λ bytes x rest fits e.
      let h = kept (ltb (length bytes) n) (take n bytes, drop n bytes) (x, rest) e in
      let x_is : take n bytes ≡ x = ap (λ (p : List ℕ × List ℕ). p.0) h.1 in
      let rest_is : drop n bytes ≡ rest = ap (λ (p : List ℕ × List ℕ). p.1) h.1 in
      let long : n ≤ length bytes = ltb-false _ _ h.0 in
      (rw (← x_is, ← rest_is) (sym (take-append-drop n bytes)), (rw (← x_is) (omega (arith, length-take n bytes)), rw (← x_is) (IsBytes-take n bytes fits)), rw (← rest_is) (IsBytes-drop n bytes fits));
  again = λ x rest h.
      let long : ltb (length (x ++ rest)) n ≡ false = le-ltb _ _ (omega (arith, h.0, length-append x rest)) in
      rw (long, take_at x rest n h.0, drop_at x rest n h.0) refl;
  stuck = λ bytes left fits e. bytes-stuck n bytes left fits e;
}

-- ---- numbers

pub record IsWide (w : Width) (limit : ℕ) : Type 0 where
  pub len : (n : ℕ) → length (to_le_bytes w n) ≡ byte_len w
  pub back : (bytes : List ℕ) → length bytes ≡ byte_len w → IsBytes bytes → to_le_bytes w (from_le_bytes w bytes) ≡ bytes
  pub again : (n : ℕ) → n < limit → from_le_bytes w (to_le_bytes w n) ≡ n
  pub below : (bytes : List ℕ) → IsBytes bytes → from_le_bytes w bytes < limit

pub wide16 : IsWide w16 (2 ^ 16)
wide16 = record {
  len = λ n. refl;
  back = λ bytes len fits. le_bytes_2 bytes _ len fits refl;
  again = λ n lt. from_le_bytes-to_le_bytes_2 n lt;
  below = λ bytes fits. omega (arith, fits 0, fits 1);
}

pub wide32 : IsWide w32 (2 ^ 32)
wide32 = record {
  len = λ n. refl;
  back = λ bytes len fits. le_bytes_4 bytes _ len fits refl;
  again = λ n lt. from_le_bytes-to_le_bytes_4 n lt;
  below = λ bytes fits. omega (arith, fits 0, fits 1, fits 2, fits 3);
}

number-stuck : (w : Width) (limit : ℕ) (wide : IsWide w limit) (bytes : List ℕ) (left : ℕ) → IsBytes bytes → number_at w bytes ≡ Err left → Stuck (λ n. n < limit) (to_le_bytes w) bytes left
unfolding padded
number-stuck w limit wide bytes left fits e =
    let h = stopped_at (ltb (length bytes) (byte_len w)) left (from_le_bytes w (take (byte_len w) bytes), drop (byte_len w) bytes) e in
    let all : IsBytes (padded (byte_len w) bytes) = IsBytes-padded (byte_len w) bytes fits in
    record {
      front = bytes;
      rest = [];
      parts = sym (append-nil bytes);
      left_is = h.1;
      value = from_le_bytes w (padded (byte_len w) bytes);
      tail = replicate (byte_len w - length bytes) 0;
      fits = wide.below (padded (byte_len w) bytes) all;
      goes_on = wide.back (padded (byte_len w) bytes) (length-padded (byte_len w) bytes (ltb-true _ _ h.0)) all;
      stops = λ b after is. absurd cc;
    }

pub number-reader : (w : Width) (limit : ℕ) (wide : IsWide w limit) → IsReader (λ n. n < limit) (to_le_bytes w) (number_at w)
number-reader w limit wide = record {
  takes = λ bytes n rest fits e.
      let h = kept (ltb (length bytes) (byte_len w)) (from_le_bytes w (take (byte_len w) bytes), drop (byte_len w) bytes) (n, rest) e in
      let n_is : from_le_bytes w (take (byte_len w) bytes) ≡ n = ap (λ (p : ℕ × List ℕ). p.0) h.1 in
      let rest_is : drop (byte_len w) bytes ≡ rest = ap (λ (p : ℕ × List ℕ). p.1) h.1 in
      let long : byte_len w ≤ length bytes = ltb-false _ _ h.0 in
      let front : to_le_bytes w n ≡ take (byte_len w) bytes =
      rw (← n_is) (wide.back (take (byte_len w) bytes) (omega (arith, length-take (byte_len w) bytes)) (IsBytes-take (byte_len w) bytes fits)) in
      (rw (front, ← rest_is) (sym (take-append-drop (byte_len w) bytes)), rw (← n_is) (wide.below (take (byte_len w) bytes) (IsBytes-take (byte_len w) bytes fits)), rw (← rest_is) (IsBytes-drop (byte_len w) bytes fits));
  again = λ n rest lt.
      let len = wide.len n in
      let long : ltb (length (to_le_bytes w n ++ rest)) (byte_len w) ≡ false = le-ltb _ _ (omega (arith, length-append (to_le_bytes w n) rest)) in
      rw (long, take_at (to_le_bytes w n) rest (byte_len w) len, drop_at (to_le_bytes w n) rest (byte_len w) len, wide.again n lt) refl;
  stuck = λ bytes left fits e. number-stuck w limit wide bytes left fits e;
}
