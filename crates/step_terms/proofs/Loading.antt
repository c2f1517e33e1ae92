-- Words of bytes.
use Rattle.std.proofs.Common.{◌≡◌, ℕ, ◌+◌, ◌*◌, ◌^◌, List, [], ◌∷◌, length, get_or, refl, sym, ◌∙◌, ap, subst, inl, inr, arith}
use Rattle.elf_image.specs.Memory.{number_of}
use Rattle.rv32_decode.specs.declared.instr.LoadOp.TheVariants as load
use Rattle.bv_terms.specs.declared.node.BinOp.TheVariants as op
use Rattle.bv_terms.specs.declared.node.TermId.{TermId}
use Rattle.bv_terms.specs.BitVectors.{bits, sign_extend_value}
use Rattle.bv_terms.specs.Shapes.{Shape, Bin, SignExtend, ZeroExtend}
use Rattle.bv_terms.specs.Values.{Assignment, value_at}
use Rattle.bv_terms.specs.Variables.{IsTermOf}
use Rattle.rv_model.specs.Values.{extended}
use Rattle.step_terms.specs.Bytes.{numbers, values}
use Rattle.step_terms.specs.Made.{Grows, IsMade, IsTerm, OccursAmong}
use Rattle.step_terms.proofs.Making.{by_two, first_part, later, of_operation, of_sign_extended, of_zero_extended, reworded}
use Rattle.step_terms.proofs.Words.{byte_sign, half_sign}

-- lists of one, two and four terms
pub only_one : (ids : List TermId) (d : TermId) → length ids ≡ 1 → ids ≡ get_or ids 0 d ∷ []
only_one [] d e = absurd (omega (arith, e))
only_one (a ∷ []) d e = refl
only_one (a ∷ b ∷ more) d e = absurd (omega (arith, e))

pub only_two : (ids : List TermId) (c d : TermId) → length ids ≡ 2 → ids ≡ get_or ids 0 c ∷ get_or ids 1 d ∷ []
only_two [] c d e = absurd (omega (arith, e))
only_two (a ∷ []) c d e = absurd (omega (arith, e))
only_two (a ∷ b ∷ []) c d e = refl
only_two (a ∷ b ∷ x ∷ more) c d e = absurd (omega (arith, e))

pub only_four : (ids : List TermId) (a b c d : TermId) → length ids ≡ 4 → ids ≡ get_or ids 0 a ∷ get_or ids 1 b ∷ get_or ids 2 c ∷ get_or ids 3 d ∷ []
only_four [] a b c d e = absurd (omega (arith, e))
only_four (x ∷ []) a b c d e = absurd (omega (arith, e))
only_four (x ∷ y ∷ []) a b c d e = absurd (omega (arith, e))
only_four (x ∷ y ∷ z ∷ []) a b c d e = absurd (omega (arith, e))
only_four (x ∷ y ∷ z ∷ t ∷ []) a b c d e = refl
only_four (x ∷ y ∷ z ∷ t ∷ u ∷ more) a b c d e = absurd (omega (arith, e))

-- ---- one byte

alone : (v : ℕ) → v ≡ v + 2 ^ 8 * 0
alone v = omega arith

pub one_signed : (old new : List Shape) (ids : List TermId) (x id : ℕ) (d : TermId) → ids ≡ d ∷ [] → x ≡ d.number → IsTerm old 8 x → IsTermOf old new (SignExtend x 32) id
    → IsMade old new (numbers ids) 32 (λ w. extended load.Lb (number_of (values w old ids))) id
one_signed old new ids x id d e f is term =
    subst (λ l. IsMade old new (numbers l) 32 (λ w. extended load.Lb (number_of (values w old l))) id) (sym e)
    (subst (λ n. IsMade old new (n ∷ []) 32 (λ w. extended load.Lb (value_at w old n + 2 ^ 8 * 0)) id) f
    (reworded old new (x ∷ []) 32 (λ w. sign_extend_value (bits 8 (value_at w old x)) 32) (λ w. extended load.Lb (value_at w old x + 2 ^ 8 * 0)) id
    (of_sign_extended old old new (x ∷ []) x 8 32 (λ w. value_at w old x) id (first_part old x [] 8 is) term)
    (λ w. byte_sign (value_at w old x) ∙ ap (extended load.Lb) (alone (value_at w old x)))))

pub one_unsigned : (old new : List Shape) (ids : List TermId) (x id : ℕ) (d : TermId) → ids ≡ d ∷ [] → x ≡ d.number → IsTerm old 8 x → IsTermOf old new (ZeroExtend x 32) id
    → IsMade old new (numbers ids) 32 (λ w. number_of (values w old ids)) id
one_unsigned old new ids x id d e f is term =
    subst (λ l. IsMade old new (numbers l) 32 (λ w. number_of (values w old l)) id) (sym e)
    (subst (λ n. IsMade old new (n ∷ []) 32 (λ w. value_at w old n + 2 ^ 8 * 0) id) f
    (reworded old new (x ∷ []) 32 (λ w. value_at w old x) (λ w. value_at w old x + 2 ^ 8 * 0) id
    (of_zero_extended old old new (x ∷ []) x 8 32 (λ w. value_at w old x) id (first_part old x [] 8 is) term)
    (λ w. alone (value_at w old x))))

-- ---- two bytes

-- the low one of two is the second operand of a Concat
pub concat_two : (old new : List Shape) (low high k id : ℕ) → IsTerm old k low → IsTerm old k high → IsTermOf old new (Bin op.Concat high low) id
    → IsMade old new (low ∷ high ∷ []) (k + k) (λ w. value_at w old high * 2 ^ k + value_at w old low) id
concat_two old new low high k id is_low is_high term =
    of_operation old old new (low ∷ high ∷ []) op.Concat high low k k (λ w. value_at w old high) (λ w. value_at w old low) id
    (record { term = is_high; value = λ w. refl; occurs = λ width number there. inr (inl there) }) (first_part old low (high ∷ []) k is_low) term

two_bytes : (a b : ℕ) → a + 2 ^ 8 * b ≡ a + 2 ^ 8 * (b + 2 ^ 8 * 0)
two_bytes a b = omega arith

pub two_unsigned : (old mid new : List Shape) (ids : List TermId) (x y h id : ℕ) (c d : TermId) → ids ≡ c ∷ d ∷ [] → x ≡ c.number → y ≡ d.number
    → IsMade old mid (x ∷ y ∷ []) 16 (λ w. value_at w old x + 2 ^ 8 * value_at w old y) h → IsTermOf mid new (ZeroExtend h 32) id
    → IsMade old new (numbers ids) 32 (λ w. number_of (values w old ids)) id
two_unsigned old mid new ids x y h id c d e f g half term =
    subst (λ l. IsMade old new (numbers l) 32 (λ w. number_of (values w old l)) id) (sym e)
    (subst (λ n. IsMade old new (n ∷ d.number ∷ []) 32 (λ w. value_at w old n + 2 ^ 8 * (value_at w old d.number + 2 ^ 8 * 0)) id) f
    (subst (λ n. IsMade old new (x ∷ n ∷ []) 32 (λ w. value_at w old x + 2 ^ 8 * (value_at w old n + 2 ^ 8 * 0)) id) g
    (reworded old new (x ∷ y ∷ []) 32 (λ w. value_at w old x + 2 ^ 8 * value_at w old y) (λ w. value_at w old x + 2 ^ 8 * (value_at w old y + 2 ^ 8 * 0)) id
    (of_zero_extended old mid new (x ∷ y ∷ []) h 16 32 (λ w. value_at w old x + 2 ^ 8 * value_at w old y) id half term)
    (λ w. two_bytes (value_at w old x) (value_at w old y)))))

pub two_signed : (old mid new : List Shape) (ids : List TermId) (x y h id : ℕ) (c d : TermId) → ids ≡ c ∷ d ∷ [] → x ≡ c.number → y ≡ d.number
    → IsMade old mid (x ∷ y ∷ []) 16 (λ w. value_at w old x + 2 ^ 8 * value_at w old y) h → IsTermOf mid new (SignExtend h 32) id
    → IsMade old new (numbers ids) 32 (λ w. extended load.Lh (number_of (values w old ids))) id
two_signed old mid new ids x y h id c d e f g half term =
    subst (λ l. IsMade old new (numbers l) 32 (λ w. extended load.Lh (number_of (values w old l))) id) (sym e)
    (subst (λ n. IsMade old new (n ∷ d.number ∷ []) 32 (λ w. extended load.Lh (value_at w old n + 2 ^ 8 * (value_at w old d.number + 2 ^ 8 * 0))) id) f
    (subst (λ n. IsMade old new (x ∷ n ∷ []) 32 (λ w. extended load.Lh (value_at w old x + 2 ^ 8 * (value_at w old n + 2 ^ 8 * 0))) id) g
    (reworded old new (x ∷ y ∷ []) 32 (λ w. sign_extend_value (bits 16 (value_at w old x + 2 ^ 8 * value_at w old y)) 32) (λ w. extended load.Lh (value_at w old x + 2 ^ 8 * (value_at w old y + 2 ^ 8 * 0))) id
    (of_sign_extended old mid new (x ∷ y ∷ []) h 16 32 (λ w. value_at w old x + 2 ^ 8 * value_at w old y) id half term)
    (λ w. half_sign (value_at w old x + 2 ^ 8 * value_at w old y) ∙ ap (extended load.Lh) (two_bytes (value_at w old x) (value_at w old y))))))

-- ---- four bytes

four_bytes : (a b c d : ℕ) → a + 2 ^ 8 * b + 2 ^ 16 * (c + 2 ^ 8 * d) ≡ a + 2 ^ 8 * (b + 2 ^ 8 * (c + 2 ^ 8 * (d + 2 ^ 8 * 0)))
four_bytes a b c d = omega arith

-- the halves were made of the first two and of the last two of four
low_two : (old new : List Shape) (a b c d k : ℕ) (f : Assignment → ℕ) (id : ℕ) → IsMade old new (a ∷ b ∷ []) k f id → IsMade old new (a ∷ b ∷ c ∷ d ∷ []) k f id
low_two old new a b c d k f id made = record { term = made.term; value = made.value; occurs = λ width number there. wider width number (made.occurs width number there) }
  where
    wider : (width number : ℕ) → OccursAmong old width number (a ∷ b ∷ []) → OccursAmong old width number (a ∷ b ∷ c ∷ d ∷ [])
    wider width number (inl there) = inl there
    wider width number (inr (inl there)) = inr (inl there)
    wider width number (inr (inr none)) = absurd none

high_two : (old mid new : List Shape) (a b c d k : ℕ) (g : ℕ → ℕ → ℕ) (id : ℕ) → Grows old mid → IsTerm old 8 c → IsTerm old 8 d → IsMade mid new (c ∷ d ∷ []) k (λ w. g (value_at w mid c) (value_at w mid d)) id
    → IsMade old new (a ∷ b ∷ c ∷ d ∷ []) k (λ w. g (value_at w old c) (value_at w old d)) id
high_two old mid new a b c d k g id grows is_c is_d made =
    by_two old mid new (a ∷ b ∷ c ∷ d ∷ []) c d 8 8 k (λ w. value_at w old c) (λ w. value_at w old d) g id
    (later old old mid (a ∷ b ∷ c ∷ d ∷ []) 8 (λ w. value_at w old c) c grows (record { term = is_c; value = λ w. refl; occurs = λ width number there. inr (inr (inl there)) }))
    (later old old mid (a ∷ b ∷ c ∷ d ∷ []) 8 (λ w. value_at w old d) d grows (record { term = is_d; value = λ w. refl; occurs = λ width number there. inr (inr (inr (inl there))) })) made

pub four : (old one two new : List Shape) (ids : List TermId) (ta tb tc td : TermId) (l h id : ℕ) → ids ≡ ta ∷ tb ∷ tc ∷ td ∷ [] → Grows old one → Grows one two → IsTerm old 8 tc.number → IsTerm old 8 td.number
    → IsMade old one (ta.number ∷ tb.number ∷ []) 16 (λ w. value_at w old ta.number + 2 ^ 8 * value_at w old tb.number) l
    → IsMade one two (tc.number ∷ td.number ∷ []) 16 (λ w. value_at w one tc.number + 2 ^ 8 * value_at w one td.number) h
    → IsMade two new (l ∷ h ∷ []) 32 (λ w. value_at w two l + 2 ^ 16 * value_at w two h) id
    → IsMade old new (numbers ids) 32 (λ w. number_of (values w old ids)) id
four old one two new ids ta tb tc td l h id e first second is_c is_d low high whole =
    let a = ta.number in
    let b = tb.number in
    let c = tc.number in
    let d = td.number in
    let parts = a ∷ b ∷ c ∷ d ∷ [] in
    let low_value = λ (w : Assignment). value_at w old a + 2 ^ 8 * value_at w old b in
    let high_value = λ (w : Assignment). value_at w old c + 2 ^ 8 * value_at w old d in
    subst (λ l. IsMade old new (numbers l) 32 (λ w. number_of (values w old l)) id) (sym e)
    (reworded old new parts 32 (λ w. low_value w + 2 ^ 16 * high_value w) (λ w. number_of (values w old (ta ∷ tb ∷ tc ∷ td ∷ []))) id
    (by_two old two new parts l h 16 16 32 low_value high_value (λ u v. u + 2 ^ 16 * v) id
    (later old one two parts 16 low_value l second (low_two old one a b c d 16 low_value l low))
    (high_two old one two a b c d 16 (λ u v. u + 2 ^ 8 * v) h first is_c is_d high) whole)
    (λ w. four_bytes (value_at w old a) (value_at w old b) (value_at w old c) (value_at w old d)))
