-- Constraints on a step, put together.
use Rattle.std.proofs.Common.{◌≡◌, ◌↔◌, ◌⊎◌, ℕ, zero, suc, ◌<◌, Bool, true, List, [], ◌∷◌, length, take, refl, sym, ◌∙◌, ap, inl, inr, arith}
use Rattle.std.specs.Prelude.{get_or}
use Rattle.bv_terms.specs.declared.node.TermId.{TermId}
use Rattle.bv_terms.specs.BitVectors.{bit_of}
use Rattle.bv_terms.specs.Shapes.{Shape}
use Rattle.bv_terms.specs.Values.{Assignment, value_at}
use Rattle.bv_terms.specs.Variables.{Occurs}
use Rattle.rv_model.specs.declared.state.Local.{Local}
use Rattle.step_terms.specs.Bytes.{numbers}
use Rattle.step_terms.specs.Made.{Grows, IsMade, OccursAmong}
use Rattle.step_terms.proofs.Making.{stays}
use Rattle.thread_terms.specs.Standing.{AreRegisters, OccursInRegisters, Says, StandFor, term_of}
use Rattle.thread_terms.proofs.Saying.{is_set}
use Rattle.thread_terms.proofs.Standing.{stand_stays}
use Rattle.access_terms.proofs.Own.{older_registers}
use Rattle.call_terms.specs.Constraints.{HoldsWhere, Tests}

-- ---- constraints on registers

in_register : (nodes : List Shape) (registers : List TermId) (k : ℕ) → k < 32 → (width number : ℕ) → Occurs nodes width number (term_of registers k) → OccursInRegisters nodes registers width number
in_register nodes registers k inside width number there = record { number = k; below = inside; occurs = there }

pub says_later : (old mid new : List Shape) (registers : List TermId) (id : ℕ) (P : Local → Type 0) → Grows mid new → Says old mid registers id P → Says old new registers id P
says_later old mid new registers id P grows says = record {
  bit = stays mid new 1 id grows says.bit;
  holds = λ w local stand.
      let same = grows.terms.value w id says.bit.inside in
      (λ h. (says.holds w local stand).0 (sym same ∙ h), λ p. same ∙ (says.holds w local stand).1 p);
  variables = λ width number there. says.variables width number (grows.variables width number id says.bit.inside there);
}

-- ---- constraints on registers and on what is given

pub tests_later : (further : ℕ → ℕ → Type 0) (old mid new : List Shape) (registers : List TermId) (id : ℕ) (P : Assignment → Local → Type 0) → Grows mid new → Tests further old mid registers id P → Tests further old new registers id P
tests_later further old mid new registers id P grows tests = record {
  bit = stays mid new 1 id grows tests.bit;
  holds = λ w local stand.
      let same = grows.terms.value w id tests.bit.inside in
      (λ h. (tests.holds w local stand).0 (sym same ∙ h), λ p. same ∙ (tests.holds w local stand).1 p);
  variables = λ width number there. tests.variables width number (grows.variables width number id tests.bit.inside there);
}

-- a constraint on registers, and one in a pool that grew
pub tests_both : (further : ℕ → ℕ → Type 0) (old one two new : List Shape) (registers : List TermId) (a b id : ℕ) (P : Local → Type 0) (Q : Assignment → Local → Type 0)
    → AreRegisters old registers → Grows old one → Grows one two → Says old one registers a P → Tests further one two registers b Q
    → HoldsWhere two new (a ∷ b ∷ []) id (λ w. (value_at w two a ≡ 1) × (value_at w two b ≡ 1)) → Tests further old new registers id (λ w local. P local × Q w local)
tests_both further old one two new registers a b id P Q are first second says tests both = record {
  bit = both.bit;
  holds = λ w local stand.
      let older = says.holds w local stand in
      let newer = tests.holds w local (stand_stays w old one registers local first are stand) in
      let same = second.terms.value w a says.bit.inside in (
        λ h. let parts = (both.holds w).0 h in (older.0 (sym same ∙ parts.0), newer.0 parts.1),
        λ h. (both.holds w).1 (same ∙ older.1 h.0, newer.1 h.1),
      );
  variables = λ width number there. elim (both.occurs width number there) [
    | inl in_a ↦ inl (says.variables width number (second.variables width number a says.bit.inside in_a))
    | inr (inl in_b) ↦ older width number (tests.variables width number in_b)
    | inr (inr none) ↦ absurd none
  ];
}
  where
    older : (width number : ℕ) → OccursInRegisters one registers width number ⊎ further width number → OccursInRegisters old registers width number ⊎ further width number
    older width number (inl in_registers) = inl (older_registers old one registers first are width number in_registers)
    older width number (inr other) = inr other

-- ---- terms as constraints

-- a test of the thread that was made of registers
pub tests_made : (further : ℕ → ℕ → Type 0) (old new : List Shape) (registers : List TermId) (parts : List ℕ) (id : ℕ) (f : Assignment → ℕ) (test : Local → Bool) (P : Assignment → Local → Type 0)
    → IsMade old new parts 1 f id → ((w : Assignment) (local : Local) → StandFor w old registers local → f w ≡ bit_of (test local))
    → ((w : Assignment) (local : Local) → (test local ≡ true) ↔ P w local)
    → ((width number : ℕ) → OccursAmong old width number parts → OccursInRegisters old registers width number)
    → Tests further old new registers id P
tests_made further old new registers parts id f test P made is same from = record {
  bit = made.term;
  holds = λ w local stand.
      let value = made.value w ∙ is w local stand in
      (λ h. (same w local).0 ((is_set (test local)).0 (sym value ∙ h)), λ p. value ∙ (is_set (test local)).1 ((same w local).1 p));
  variables = λ width number there. inl (from width number (made.occurs width number there));
}

-- of one register, or of two
pub from_one : (nodes : List Shape) (registers : List TermId) (k : ℕ) → k < 32 → (width number : ℕ) → OccursAmong nodes width number (term_of registers k ∷ []) → OccursInRegisters nodes registers width number
from_one nodes registers k inside width number (inl there) = in_register nodes registers k inside width number there
from_one nodes registers k inside width number (inr none) = absurd none

pub from_two : (nodes : List Shape) (registers : List TermId) (k m : ℕ) → k < 32 → m < 32 → (width number : ℕ) → OccursAmong nodes width number (term_of registers k ∷ term_of registers m ∷ [])
    → OccursInRegisters nodes registers width number
from_two nodes registers k m first second width number (inl there) = in_register nodes registers k first width number there
from_two nodes registers k m first second width number (inr more) = from_one nodes registers m second width number more

-- ---- bytes

-- a byte is one of the list
pub among_bytes : (nodes : List Shape) (ids : List TermId) (i : ℕ) (d : TermId) → i < length ids → (width number : ℕ) → Occurs nodes width number (get_or ids i d).number → OccursAmong nodes width number (numbers ids)
among_bytes nodes [] i d within width number there = absurd (omega (arith, within))
among_bytes nodes (id ∷ ids) zero d within width number there = inl there
among_bytes nodes (id ∷ ids) (suc i) d within width number there = inr (among_bytes nodes ids i d (omega (arith, within)) width number there)

same_head : (x y : ℕ) (xs ys : List ℕ) → x ∷ xs ≡ y ∷ ys → (x ≡ y) × (xs ≡ ys)
same_head x y xs ys e = (cc, cc)

-- one byte more of two lists
pub same_more : (xs ys : List ℕ) (i d : ℕ) → i < length xs → i < length ys → (take (suc i) xs ≡ take (suc i) ys) ↔ ((take i xs ≡ take i ys) × (get_or xs i d ≡ get_or ys i d))
same_more [] ys i d within_one within_other = absurd (omega (arith, within_one))
same_more (x ∷ xs) [] i d within_one within_other = absurd (omega (arith, within_other))
same_more (x ∷ xs) (y ∷ ys) zero d within_one within_other = (λ e. (refl, (same_head x y [] [] e).0), λ h. ap (λ (v : ℕ). v ∷ []) h.1)
same_more (x ∷ xs) (y ∷ ys) (suc i) d within_one within_other =
    let deeper = same_more xs ys i d (omega (arith, within_one)) (omega (arith, within_other)) in (
      λ e.
          let parts = same_head x y (take (suc i) xs) (take (suc i) ys) e in
          let below = deeper.0 parts.1 in
          (ap (λ v. v ∷ take i xs) parts.0 ∙ ap (λ l. y ∷ l) below.0, below.1),
      λ h.
          let parts = same_head x y (take i xs) (take i ys) h.0 in
          ap (λ v. v ∷ take (suc i) xs) parts.0 ∙ ap (λ l. y ∷ l) (deeper.1 (parts.1, h.1)),
    )
