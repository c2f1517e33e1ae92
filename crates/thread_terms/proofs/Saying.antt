-- Constraints on registers.
use Rattle.std.proofs.Common.{◌≡◌, ℕ, ◌-◌, ◌<◌, Bool, true, false, cond, List, [], ◌∷◌, refl, sym, ◌∙◌, ap, inl, inr, nat_eq, arith}
use Rattle.std.specs.Prelude.{◌↔◌}
use Rattle.std.proofs.lemmas.Bool.{eqb-true, false≢true}
use Rattle.std.proofs.lemmas.Bool.Decides.{nat_tests}
use Rattle.bv_terms.specs.declared.node.TermId.{TermId}
use Rattle.bv_terms.specs.BitVectors.{bit_of}
use Rattle.bv_terms.specs.Shapes.{Shape}
use Rattle.bv_terms.specs.Values.{value_at}
use Rattle.rv_model.specs.Thread.{register}
use Rattle.step_terms.specs.Made.{IsMade}
use Rattle.thread_terms.specs.Standing.{Says, term_of}

-- a bit that is set, or not
pub is_set : (test : Bool) → (bit_of test ≡ 1) ↔ (test ≡ true)
is_set true = (λ h. refl, λ h. refl)
is_set false = (λ h. absurd (omega (arith, h)), λ h. absurd (false≢true h))

pub is_clear : (test : Bool) → (1 - bit_of test ≡ 1) ↔ (test ≡ false)
is_clear true = (λ h. absurd (omega (arith, h)), λ h. absurd (false≢true (sym h)))
is_clear false = (λ h. refl, λ h. refl)

eq_yes : (a b : ℕ) → a ≡ b → nat_eq a b ≡ true
eq_yes a b h = grind (arith, nat_tests, h)

pub as_recorded : (test recorded : Bool) → (cond recorded (bit_of test) (1 - bit_of test) ≡ 1) ↔ (test ≡ recorded)
as_recorded test true = is_set test
as_recorded test false = is_clear test

pub is_number : (v number : ℕ) → (bit_of (nat_eq v number) ≡ 1) ↔ (v ≡ number)
is_number v number = (λ h. eqb-true v number ((is_set (nat_eq v number)).0 h), λ e. ap bit_of (eq_yes v number e))

pub says_of_two : (old new : List Shape) (registers : List TermId) (rs1 rs2 id : ℕ) (g : ℕ → ℕ → ℕ) (Q : ℕ → ℕ → Type 0) → rs1 < 32 → rs2 < 32
    → IsMade old new (term_of registers rs1 ∷ term_of registers rs2 ∷ []) 1 (λ w. g (value_at w old (term_of registers rs1)) (value_at w old (term_of registers rs2))) id
    → ((u v : ℕ) → (g u v ≡ 1) ↔ Q u v) → Says old new registers id (λ local. Q (register local rs1) (register local rs2))
says_of_two old new registers rs1 rs2 id g Q in1 in2 made says = record {
  bit = made.term;
  holds = λ w local stand.
      let e = made.value w ∙ ap (λ v. g v (value_at w old (term_of registers rs2))) (stand.values rs1 in1) ∙ ap (λ v. g (register local rs1) v) (stand.values rs2 in2) in
      let both = says (register local rs1) (register local rs2) in
      (λ h. both.0 (sym e ∙ h), λ q. e ∙ both.1 q);
  variables = λ width variable there. elim (made.occurs width variable there) [
    | inl first ↦ record { number = rs1; below = in1; occurs = first }
    | inr (inl second) ↦ record { number = rs2; below = in2; occurs = second }
    | inr (inr none) ↦ absurd none
  ];
}

pub says_of_one : (old new : List Shape) (registers : List TermId) (rs1 id : ℕ) (g : ℕ → ℕ) (Q : ℕ → Type 0) → rs1 < 32
    → IsMade old new (term_of registers rs1 ∷ []) 1 (λ w. g (value_at w old (term_of registers rs1))) id
    → ((u : ℕ) → (g u ≡ 1) ↔ Q u) → Says old new registers id (λ local. Q (register local rs1))
says_of_one old new registers rs1 id g Q in1 made says = record {
  bit = made.term;
  holds = λ w local stand.
      let e = made.value w ∙ ap g (stand.values rs1 in1) in
      let both = says (register local rs1) in
      (λ h. both.0 (sym e ∙ h), λ q. e ∙ both.1 q);
  variables = λ width variable there. elim (made.occurs width variable there) [
    | inl first ↦ record { number = rs1; below = in1; occurs = first }
    | inr none ↦ absurd none
  ];
}
