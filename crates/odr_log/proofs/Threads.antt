-- The readers of flags, texts, path items and threads belong to their spellings.
use Rattle.std.proofs.Common.{◌≡◌, ℕ, zero, suc, ◌^◌, ◌<◌, Bool, true, false, List, [], ◌++◌, length, Result, Ok, All, refl, arith, inl, inr}
use Rattle.std.specs.Prelude.{◌==◌, if◌then◌else◌, replicate}
use Rattle.std.specs.Int.{w16, w32, to_le_bytes}
use Rattle.std.specs.List.{flat_map}
use Rattle.std.proofs.lemmas.List.Elements.{All-from_recursion, recursion_from_All, All-from_get_or, All-nil, All-replicate}
use Rattle.std.proofs.lemmas.Bool.{cases_lt}
use Rattle.std.proofs.lemmas.List.{get_or_past, length-replicate}
use Rattle.byteorder.specs.Endian.{little_bytes}
use Rattle.odr_log.specs.declared.log.PathItem.{PathItem}
use Rattle.odr_log.specs.declared.log.PathItem.TheVariants as item
use Rattle.odr_log.specs.declared.log.ThreadLog.{ThreadLog}
use Rattle.odr_log.specs.Grammar.{list_bytes, text_bytes, flag_bytes, item_bytes, thread_bytes, IsItem, IsThread, IsText}
use Rattle.odr_log.specs.Reading.{◌>>=◌, mapped, byte_at, number_at, bytes_at, flag_at, text_at, list_at, item_at, thread_at}
use Rattle.odr_log.proofs.Readers.{IsBytes, IsReader, then-reader, done-reader, made-reader, fits-reader}
use Rattle.odr_log.proofs.Bytes.{IsBetween, one_byte, byte-reader, AreBytes, these, bytes-reader, number-reader, wide16, wide32}
use Rattle.odr_log.proofs.Lists.{AreListed, list-reader}

pub word-reader : IsReader (λ n. n < 2 ^ 32) (to_le_bytes w32) (number_at w32)
word-reader = number-reader w32 (2 ^ 32) wide32

abbrev pub Any : {X : Type 0} → X → Type 0
Any x = Unit {0}

-- ---- flags

flag-code : (b : ℕ) → IsBetween 0 1 b → flag_bytes (b == 1) ≡ one_byte b
flag-code zero h = refl
flag-code (suc zero) h = refl
flag-code (suc (suc b)) h = absurd (omega (arith, h.1))

code-flag : (flag : Bool) → (b : ℕ) × IsBetween 0 1 b × (flag ≡ (b == 1))
code-flag false = (0, (omega arith, omega arith), refl)
code-flag true = (1, (omega arith, omega arith), refl)

pub flag-reader : IsReader Any flag_bytes flag_at
unfolding flag_at
flag-reader = made-reader (IsBetween 0 1) one_byte (byte_at 0 1) Any flag_bytes (λ b. b == 1) (byte-reader 0 1 (omega arith)) (record {
  some = λ b h. (tt, flag-code b h);
  made = λ flag g. code-flag flag;
})

-- ---- texts

pub below-from_All : (bytes : List ℕ) → All (λ b. b < 256) bytes → IsBytes bytes
below-from_All bytes h i =
    elim (cases_lt i (length bytes)) [
      | inl lt ↦ h i 0 lt
      | inr le ↦ rw (get_or_past bytes i 0 le) (omega arith)
    ]

pub text-reader : IsReader IsText text_bytes text_at
unfolding text_at
text-reader = then-reader (λ n. n < 2 ^ 16) (to_le_bytes w16) (number_at w16) IsText text_bytes length these bytes_at (number-reader w16 (2 ^ 16) wide16)
    (λ n lt. fits-reader (AreBytes n) (λ z. IsText z × (length z ≡ n)) these (bytes_at n) (bytes-reader n)
    (λ z h. ((omega (arith, h.0), All-from_get_or (λ b. b < 256) z 0 (λ i _. h.1 i)), h.0))
    (λ z h. (h.1, below-from_All z h.0.1)))
    (record {
      fits = λ z g. g.0;
      text = λ z g. refl;
      some = λ n lt. (replicate n 0, (rw (length-replicate {A = ℕ} n 0) lt, All-replicate (λ b. b < 256) n 0 (omega arith)), length-replicate {A = ℕ} n 0);
    })

-- ---- path items

abbrev item_kind : PathItem → ℕ
item_kind (item.Branch false) = 0
item_kind (item.Branch true) = 1
item_kind (item.Jump target) = 2

abbrev item_fields : PathItem → List ℕ
item_fields (item.Branch taken) = []
item_fields (item.Jump target) = little_bytes 4 target

item-split : (z : PathItem) → item_bytes z ≡ one_byte (item_kind z) ++ item_fields z
item-split (item.Branch false) = refl
item-split (item.Branch true) = refl
item-split (item.Jump target) = refl

item-kind : (z : PathItem) → IsBetween 0 2 (item_kind z)
item-kind (item.Branch false) = (omega arith, omega arith)
item-kind (item.Branch true) = (omega arith, omega arith)
item-kind (item.Jump target) = (omega arith, omega arith)

only_branch : (taken : Bool) (z : PathItem) → item_kind z ≡ item_kind (item.Branch taken) → z ≡ item.Branch taken
only_branch false (item.Branch false) e = refl
only_branch true (item.Branch true) e = refl
only_branch false (item.Branch true) e = cc
only_branch true (item.Branch false) e = cc
only_branch true (item.Jump target) e = cc
only_branch false (item.Jump target) e = cc

jump_made : (z : PathItem) → IsItem z → item_kind z ≡ 2 → (target : ℕ) × (target < 2 ^ 32) × (z ≡ item.Jump target)
jump_made (item.Branch false) h e = absurd cc
jump_made (item.Branch true) h e = absurd cc
jump_made (item.Jump target) h e = (target, h, refl)

abbrev item_of_kind : ℕ → List ℕ → Result (PathItem × List ℕ) ℕ
item_of_kind kind bytes = if kind == 2 then mapped item.Jump (number_at w32 bytes) else Ok (item.Branch (kind == 1), bytes)

fields-reader : (kind : ℕ) → IsBetween 0 2 kind → IsReader (λ z. IsItem z × (item_kind z ≡ kind)) item_fields (item_of_kind kind)
fields-reader zero h = done-reader (λ z. IsItem z × (item_kind z ≡ 0)) item_fields (item.Branch false) (tt, refl) (λ z g. only_branch false z g.1) refl
fields-reader (suc zero) h = done-reader (λ z. IsItem z × (item_kind z ≡ 1)) item_fields (item.Branch true) (tt, refl) (λ z g. only_branch true z g.1) refl
fields-reader (suc (suc zero)) h =
    made-reader (λ n. n < 2 ^ 32) (to_le_bytes w32) (number_at w32) (λ z. IsItem z × (item_kind z ≡ 2)) item_fields item.Jump word-reader (record {
      some = λ n lt. ((lt, refl), refl);
      made = λ z g. jump_made z g.0 g.1;
    })
fields-reader (suc (suc (suc kind))) h = absurd (omega (arith, h.1))

some_item : (kind : ℕ) → IsBetween 0 2 kind → (z : PathItem) × IsItem z × (item_kind z ≡ kind)
some_item zero h = (item.Branch false, tt, refl)
some_item (suc zero) h = (item.Branch true, tt, refl)
some_item (suc (suc zero)) h = (item.Jump 0, omega arith, refl)
some_item (suc (suc (suc kind))) h = absurd (omega (arith, h.1))

pub item-reader : IsReader IsItem item_bytes item_at
unfolding item_at
item-reader = then-reader (IsBetween 0 2) one_byte (byte_at 0 2) IsItem item_bytes item_kind item_fields item_of_kind (byte-reader 0 2 (omega arith)) fields-reader
    (record { fits = λ z g. item-kind z; text = λ z g. item-split z; some = some_item })

-- ---- threads

pub thread-reader : IsReader IsThread thread_bytes thread_at
unfolding thread_at
thread-reader =
    let path_text : ThreadLog → List ℕ = λ z. flat_map item_bytes z.path in
    then-reader (λ n. n < 2 ^ 32) (to_le_bytes w32) (number_at w32) IsThread thread_bytes (λ z. z.steps) (λ z. list_bytes item_bytes z.path)
    (λ steps bytes. number_at w32 bytes >>= λ count. list_at item_at count.0 count.1 >>= λ path. Ok (record { steps = steps; path = path.0 }, path.1)) word-reader
    (λ steps fits. then-reader (λ n. n < 2 ^ 32) (to_le_bytes w32) (number_at w32) (λ z. IsThread z × (z.steps ≡ steps)) (λ z. list_bytes item_bytes z.path) (λ z. length z.path) path_text
    (λ count bytes. list_at item_at count bytes >>= λ path. Ok (record { steps = steps; path = path.0 }, path.1)) word-reader
    (λ count lt. made-reader (AreListed IsItem count) (flat_map item_bytes) (list_at item_at count) (λ z. (IsThread z × (z.steps ≡ steps)) × (length z.path ≡ count)) path_text
    (λ path. record { steps = steps; path = path }) (list-reader IsItem item_bytes item_at item-reader (item.Branch false) tt count)
    (record {
      some = λ path h. (((record { steps = fits; items = rw h.0 lt; each = All-from_recursion IsItem path h.1 }, refl), h.0), refl);
      made = λ z g. (z.path, (g.1, recursion_from_All IsItem z.path g.0.0.each), λ i. record { steps = g.0.1 i; path = z.path });
    }))
    (record {
      fits = λ z g. g.0.items;
      text = λ z g. refl;
      some = λ count lt.
          let path : List PathItem = replicate count (item.Branch false) in
          let long : length path ≡ count = length-replicate {A = PathItem} count (item.Branch false) in
          (record { steps = steps; path = path }, (record { steps = fits; items = rw long lt; each = All-replicate IsItem count (item.Branch false) tt }, refl), long);
    }))
    (record {
      fits = λ z g. g.steps;
      text = λ z g. refl;
      some = λ steps lt. (record { steps = steps; path = [] }, record { steps = lt; items = omega arith; each = All-nil IsItem }, refl);
    })
