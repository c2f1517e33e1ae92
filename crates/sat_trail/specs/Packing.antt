-- Literals as numbers.
use Rattle.std.specs.Prelude.{◌≡◌, ℕ, ◌+◌, ◌*◌, ◌/◌, ◌%◌, ◌==◌, Bool, true, false, if◌then◌else◌, refl}
use Rattle.std.proofs.Common.{ap, sym, ◌∙◌, inl, inr, arith, eq-eqb, ne_eqb}
use Rattle.std.proofs.lemmas.Bool.{cases_eq}
use Rattle.clause_store.specs.declared.lit.Lit.{Lit}

-- the literal's place in a table with two entries for each variable
abbrev pub place_of : Lit → ℕ
place_of l = 2 * l.var + (if l.positive then 1 else 0)

-- the literal of a place
abbrev pub lit_of : ℕ → Lit
lit_of code = record { var = code / 2; positive = code % 2 == 1 }

pub place_of-lit_of : (code : ℕ) → place_of (lit_of code) ≡ code
place_of-lit_of code = elim (cases_eq (code % 2) 1) [ inl e ↦ odd e | inr ne ↦ even ne ]
  where
    tally : Bool → ℕ
    tally b = if b then 1 else 0

    odd : code % 2 ≡ 1 → place_of (lit_of code) ≡ code
    odd e = ap (λ (b : Bool). 2 * (code / 2) + (if b then 1 else 0)) (eq-eqb (code % 2) 1 e) ∙ (omega arith)

    even : (code % 2 ≡ 1 → ⊥) → place_of (lit_of code) ≡ code
    even ne = ap (λ (b : Bool). 2 * (code / 2) + (if b then 1 else 0)) (ne_eqb (code % 2) 1 ne) ∙ (omega arith)

pub lit_of-place_of : (l : Lit) → lit_of (place_of l) ≡ l
lit_of-place_of l = go l.positive refl
  where
    make : ℕ → Bool → Lit
    make n b = record { var = n; positive = b }

    same : (n : ℕ) (b : Bool) → n ≡ l.var → b ≡ l.positive → make n b ≡ l
    same n b e f = ap (λ (m : ℕ). make m b) e ∙ ap (λ (p : Bool). make l.var p) f

    tally : Bool → ℕ
    tally b = if b then 1 else 0

    go : (b : Bool) → l.positive ≡ b → lit_of (place_of l) ≡ l
    go true e =
        let one : tally l.positive ≡ 1 = ap tally e in
        same (place_of l / 2) (place_of l % 2 == 1) (omega arith) (eq-eqb (place_of l % 2) 1 (omega arith) ∙ sym e)
    go false e =
        let none : tally l.positive ≡ 0 = ap tally e in
        same (place_of l / 2) (place_of l % 2 == 1) (omega arith) (ne_eqb (place_of l % 2) 1 (omega arith) ∙ sym e)
