-- What is written from an address on: the bytes in a row, each at an address of its own.
use Rattle.std.specs.Prelude.{◌≡◌, ◌≢◌, ℕ, zero, suc, ◌+◌, ◌/◌, ◌%◌, ◌^◌, ◌<◌, ◌≤◌, ◌⊎◌, Bool, true, false, cond, ◌||◌, List, [], ◌∷◌, length, nat_eq, slice_index, option_map, Contains, refl}
use Rattle.std.specs.List.{list_any}
use Rattle.std.proofs.Common.{sym, ◌∙◌, ap, arith, inl, inr, get_or, eq-eqb}
use Rattle.std.proofs.Math.Nat.{mod-add-mod}
use Rattle.std.proofs.lemmas.Bool.{eqb-true, false≢true, ne_eqb}
use Rattle.elf_image.specs.declared.write.Write.{Write}
use Rattle.elf_image.specs.Memory.{Cells, cells_after, next, with_byte, writes_of}
use Rattle.rv_model.specs.Thread.{touches}
use Rattle.guided_walk.specs.Fits.{byte_address}
use Rattle.walk_facts.specs.Bytes.{AddressLaw, IsByteAt, WritesLaw}

-- ---- addresses

address_more : (a i : ℕ) → byte_address a (suc i) ≡ (a + suc i) % 2 ^ 32
address_more a zero = refl
address_more a (suc i) =
    let e : a + 1 + suc i ≡ a + suc (suc i) = omega arith in
    address_more (next a) i ∙ mod-add-mod (a + 1) (2 ^ 32) (suc i) ∙ ap (λ (n : ℕ). n % 2 ^ 32) e

address_in_row : (a i : ℕ) → a < 2 ^ 32 → byte_address a i ≡ (a + i) % 2 ^ 32
address_in_row a zero below = omega (arith, below)
address_in_row a (suc i) below = address_more a i

pub one_address : (a i j : ℕ) → i < 2 ^ 32 → j < 2 ^ 32 → byte_address a i ≡ byte_address a j → i ≡ j
one_address a zero zero p q e = refl
one_address a zero (suc j) p q e = absurd (omega (arith, q, e ∙ address_more a j))
one_address a (suc i) zero p q e = absurd (omega (arith, p, sym (address_more a i) ∙ e))
one_address a (suc i) (suc j) p q e = omega (arith, p, q, sym (address_more a i) ∙ e ∙ address_more a j)

pub address_law : AddressLaw
address_law a = record { row = λ (below : a < 2 ^ 32) (i : ℕ). address_in_row a i below; apart = one_address a }

-- ---- members of lists of writes

abbrev Amid : Write → List Write → Type 0
Amid w [] = ⊥
Amid w (x ∷ xs) = (x ≡ w) ⊎ Amid w xs

contains_amid : (xs : List Write) (k : ℕ) (w : Write) → k < length xs → get_or xs k w ≡ w → Amid w xs
contains_amid [] k w less e = absurd (omega (arith, less))
contains_amid (x ∷ xs) zero w less e = inl e
contains_amid (x ∷ xs) (suc k) w less e = inr (contains_amid xs k w (omega (arith, less)) e)

amid_contains : (xs : List Write) (w : Write) → Amid w xs → Contains xs w
amid_contains [] w i = absurd i
amid_contains (x ∷ xs) w (inl e) = (0, omega arith, e)
amid_contains (x ∷ xs) w (inr i) = let found : Contains xs w = amid_contains xs w i in (suc found.0, omega (arith, found.1), found.2)

same_write : (w : Write) (a b : ℕ) → w.address ≡ a → w.byte ≡ b → (let x : Write = record { address = a; byte = b } in x) ≡ w
same_write w a b p q =
    ap (λ (n : ℕ). let x : Write = record { address = n; byte = b } in x) (sym p) ∙ ap (λ (n : ℕ). let x : Write = record { address = w.address; byte = n } in x) (sym q)

byte_later : (a b : ℕ) (bytes : List ℕ) (w : Write) → IsByteAt (next a) bytes w → IsByteAt a (b ∷ bytes) w
byte_later a b bytes w at = record { index = suc at.index; within = omega (arith, at.within); address_is = at.address_is; byte_is = at.byte_is }

each_is : (a : ℕ) (bytes : List ℕ) (older : List Write) (w : Write) → Amid w (writes_of a bytes older) → IsByteAt a bytes w ⊎ Amid w older
each_is a [] older w i = inr i
each_is a (b ∷ bytes) older w i = elim (each_is (next a) bytes (record { address = a; byte = b } ∷ older) w i) [
  | inl at ↦ inl (byte_later a b bytes w at)
  | inr before ↦ elim before [
    | inl e ↦ inl (record { index = 0; within = omega arith; address_is = ap (λ (x : Write). x.address) (sym e); byte_is = ap (λ (x : Write). x.byte) (sym e) })
    | inr j ↦ inr j
  ]
]

older_stay : (a : ℕ) (bytes : List ℕ) (older : List Write) (w : Write) → Amid w older → Amid w (writes_of a bytes older)
older_stay a [] older w i = i
older_stay a (b ∷ bytes) older w i = older_stay (next a) bytes (record { address = a; byte = b } ∷ older) w (inr i)

is_each : (a : ℕ) (bytes : List ℕ) (older : List Write) (w : Write) (k : ℕ) → k < length bytes → w.address ≡ byte_address a k → w.byte ≡ slice_index bytes k
    → Amid w (writes_of a bytes older)
is_each a [] older w k less p q = absurd (omega (arith, less))
is_each a (b ∷ bytes) older w zero less p q = older_stay (next a) bytes (record { address = a; byte = b } ∷ older) w (inl (same_write w a b p q))
is_each a (b ∷ bytes) older w (suc k) less p q = is_each (next a) bytes (record { address = a; byte = b } ∷ older) w k (omega (arith, less)) p q

none_amid : (a : ℕ) (bytes : List ℕ) (w : Write) → IsByteAt a bytes w ⊎ Amid w [] → IsByteAt a bytes w
none_amid a bytes w (inl at) = at
none_amid a bytes w (inr i) = absurd i

-- ---- words that are touched

any_by : (test : Write → Bool) (x : Write) (xs : List Write) (b : Bool) → test x ≡ b → (b || list_any test xs) ≡ true
    → (list_any test xs ≡ true → (w : Write) × Amid w xs × (test w ≡ true)) → (w : Write) × Amid w (x ∷ xs) × (test w ≡ true)
any_by test x xs true p q rest = (x, inl refl, p)
any_by test x xs false p q rest = let found : (w : Write) × Amid w xs × (test w ≡ true) = rest q in (found.0, inr found.1, found.2)

any_amid : (test : Write → Bool) (xs : List Write) → list_any test xs ≡ true → (w : Write) × Amid w xs × (test w ≡ true)
any_amid test [] e = absurd (false≢true e)
any_amid test (x ∷ xs) e = any_by test x xs (test x) refl e (any_amid test xs)

or_true : (b c : Bool) → c ≡ true → (b || c) ≡ true
or_true true c e = refl
or_true false c e = e

amid_any : (test : Write → Bool) (xs : List Write) (w : Write) → Amid w xs → test w ≡ true → list_any test xs ≡ true
amid_any test [] w i e = absurd i
amid_any test (x ∷ xs) w (inl same) e = ap (λ (b : Bool). b || list_any test xs) (ap test same ∙ e)
amid_any test (x ∷ xs) w (inr i) e = or_true (test x) (list_any test xs) (amid_any test xs w i e)

abbrev in_word : ℕ → Write → Bool
in_word reserved w = nat_eq (w.address / 4) (reserved / 4)

touched_at : (a : ℕ) (bytes : List ℕ) (reserved : ℕ) → touches (writes_of a bytes []) reserved ≡ true
    → (i : ℕ) × (i < length bytes) × (byte_address a i / 4 ≡ reserved / 4)
touched_at a bytes reserved e =
    let found : (w : Write) × Amid w (writes_of a bytes []) × (in_word reserved w ≡ true) = any_amid (in_word reserved) (writes_of a bytes []) e in
    let at : IsByteAt a bytes found.0 = none_amid a bytes found.0 (each_is a bytes [] found.0 found.1) in
    (at.index, at.within, ap (λ (n : ℕ). n / 4) (sym at.address_is) ∙ eqb-true (found.0.address / 4) (reserved / 4) found.2)

at_touched : (a : ℕ) (bytes : List ℕ) (reserved : ℕ) → (i : ℕ) × (i < length bytes) × (byte_address a i / 4 ≡ reserved / 4)
    → touches (writes_of a bytes []) reserved ≡ true
at_touched a bytes reserved (i, less, e) =
    let w : Write = record { address = byte_address a i; byte = slice_index bytes i } in
    amid_any (in_word reserved) (writes_of a bytes []) w (is_each a bytes [] w i less refl refl) (eq-eqb (byte_address a i / 4) (reserved / 4) e)

-- ---- memory

abbrev write_at : ℕ → ℕ → Write
write_at a b = record { address = a; byte = b }

after_other : (before : Cells) (older : List Write) (a b other : ℕ) → a ≢ other → cells_after before (write_at a b ∷ older) other ≡ cells_after before older other
after_other before older a b other ne =
    ap (λ (t : Bool). cond t (option_map (with_byte b) (cells_after before older other)) (cells_after before older other)) (ne_eqb a other ne)

after_here : (before : Cells) (older : List Write) (a b : ℕ) → cells_after before (write_at a b ∷ older) a ≡ option_map (with_byte b) (cells_after before older a)
after_here before older a b =
    ap (λ (t : Bool). cond t (option_map (with_byte b) (cells_after before older a)) (cells_after before older a)) (eq-eqb a a refl)

elsewhere : (before : Cells) (a : ℕ) (bytes : List ℕ) (older : List Write) (other : ℕ) → ((i : ℕ) → i < length bytes → byte_address a i ≢ other)
    → cells_after before (writes_of a bytes older) other ≡ cells_after before older other
elsewhere before a [] older other apart = refl
elsewhere before a (b ∷ bytes) older other apart =
    elsewhere before (next a) bytes (write_at a b ∷ older) other (λ (i : ℕ) (less : i < length bytes). apart (suc i) (omega (arith, less)))
    ∙ after_other before older a b other (apart 0 (omega arith))

there : (before : Cells) (a : ℕ) (bytes : List ℕ) (older : List Write) (i : ℕ) → length bytes ≤ 2 ^ 32 → i < length bytes
    → cells_after before (writes_of a bytes older) (byte_address a i) ≡ option_map (with_byte (slice_index bytes i)) (cells_after before older (byte_address a i))
there before a [] older i few less = absurd (omega (arith, less))
there before a (b ∷ bytes) older zero few less =
    elsewhere before (next a) bytes (write_at a b ∷ older) a
    (λ (i : ℕ) (inside : i < length bytes) (e : byte_address (next a) i ≡ a).
    let one : suc i ≡ 0 = one_address a (suc i) 0 (omega (arith, few, inside)) (omega arith) e in absurd (omega (arith, one)))
    ∙ after_here before older a b
there before a (b ∷ bytes) older (suc i) few less =
    there before (next a) bytes (write_at a b ∷ older) i (omega (arith, few)) (omega (arith, less))
    ∙ ap (option_map (with_byte (slice_index bytes i)))
    (after_other before older a b (byte_address (next a) i)
    (λ (e : a ≡ byte_address (next a) i). let one : 0 ≡ suc i = one_address a 0 (suc i) (omega arith) (omega (arith, few, less)) e in absurd (omega (arith, one))))

pub writes_law : WritesLaw
writes_law a bytes few = record {
  each = λ (w : Write). (
    (λ (has : Contains (writes_of a bytes []) w). none_amid a bytes w (each_is a bytes [] w (contains_amid (writes_of a bytes []) has.0 w has.1 has.2))),
    λ (at : IsByteAt a bytes w). amid_contains (writes_of a bytes []) w (is_each a bytes [] w at.index at.within at.address_is at.byte_is),
  );
  touched = λ (reserved : ℕ). (touched_at a bytes reserved, at_touched a bytes reserved);
  there = λ (before : Cells) (older : List Write) (i : ℕ) (less : i < length bytes). there before a bytes older i few less;
  elsewhere = λ (before : Cells) (older : List Write) (other : ℕ) (apart : (i : ℕ) → i < length bytes → byte_address a i ≢ other). elsewhere before a bytes older other apart;
}
