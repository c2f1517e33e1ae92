-- Terms that stand for registers, after a write and in a pool that grew.
use Rattle.std.proofs.Common.{◌≡◌, ℕ, ◌<◌, Bool, true, false, cond, List, [], ◌∷◌, length, refl, sym, ◌∙◌, ap, subst, inl, inr, nat_eq, arith}
use Rattle.std.specs.Prelude.{◌⊎◌, slice_index, slice_index_or, slice_set}
use Rattle.std.proofs.lemmas.Bool.{eqb-true, eqb-false}
use Rattle.std.proofs.lemmas.List.{get_or-set_same, get_or-set_other, length-set}
use Rattle.bv_terms.specs.declared.node.TermId.{TermId}
use Rattle.bv_terms.specs.Shapes.{Shape}
use Rattle.bv_terms.specs.Values.{Assignment, value_at}
use Rattle.bv_terms.specs.Variables.{Occurs}
use Rattle.rv_model.specs.declared.state.Local.{Local}
use Rattle.rv_model.specs.Thread.{register, with_register}
use Rattle.step_terms.specs.Made.{Grows, IsMade, IsTerm}
use Rattle.step_terms.proofs.Making.{grows_same, stays}
use Rattle.thread_terms.specs.Standing.{AreRegisters, OccursInRegisters, Puts, StandFor, Writes, term_of}

-- the registers after a write
abbrev pub written : List TermId → ℕ → TermId → List TermId
written registers number term = cond (nat_eq number 0) registers (slice_set registers number term)

pub registers_stay : (old new : List Shape) (registers : List TermId) → Grows old new → AreRegisters old registers → AreRegisters new registers
registers_stay old new registers grows are = record { all = are.all; words = λ number h. stays old new 32 (term_of registers number) grows (are.words number h) }

pub stand_stays : (w : Assignment) (old new : List Shape) (registers : List TermId) (local : Local) → Grows old new → AreRegisters old registers → StandFor w old registers local → StandFor w new registers local
stand_stays w old new registers local grows are stand = record {
  all = stand.all;
  values = λ number h. grows.terms.value w (term_of registers number) (are.words number h).inside ∙ stand.values number h;
}

-- a register after a write
pub term_written : (registers : List TermId) (rd number : ℕ) (term : TermId) (d : TermId) → rd < length registers → (test : Bool) → nat_eq number rd ≡ test
    → (slice_index_or (slice_set registers rd term) number d).number ≡ cond test term.number (slice_index_or registers number d).number
term_written registers rd number term d inside true e =
    let same = eqb-true number rd e in
    ap (λ n. (slice_index_or (slice_set registers rd term) n d).number) same ∙ ap (λ (t : TermId). t.number) (get_or-set_same registers rd term d inside)
term_written registers rd number term d inside false e = ap (λ (t : TermId). t.number) (get_or-set_other registers rd number term d (eqb-false number rd e))

value_written : (registers : List ℕ) (rd number value : ℕ) → rd < length registers → (test : Bool) → nat_eq number rd ≡ test
    → slice_index (slice_set registers rd value) number ≡ cond test value (slice_index registers number)
value_written registers rd number value inside true e = let same = eqb-true number rd e in ap (λ n. slice_index (slice_set registers rd value) n) same ∙ get_or-set_same registers rd value 0 inside
value_written registers rd number value inside false e = get_or-set_other registers rd number value 0 (eqb-false number rd e)

-- the term of a register that is written stands for its value
pub stand_written : (w : Assignment) (old new : List Shape) (registers : List TermId) (local : Local) (rd v : ℕ) (id : TermId) → Grows old new → AreRegisters old registers → StandFor w old registers local
    → rd < 32 → value_at w new id.number ≡ v → StandFor w new (written registers rd id) (with_register local rd v)
stand_written w old new registers local rd v id grows are stand inside is = by_zero (nat_eq rd 0) refl
  where
    zero_term : TermId
    zero_term = record { number = 0 }

    stays_so : StandFor w new registers local
    stays_so = stand_stays w old new registers local grows are stand

    at_register : (number : ℕ) → number < 32 → nat_eq rd 0 ≡ false → (test : Bool) → nat_eq number rd ≡ test
        → value_at w new (cond test id.number (term_of registers number)) ≡ cond (nat_eq number 0) 0 (cond test v (slice_index local.registers number))
    at_register number h other true e = is ∙ sym (ap (λ n. cond (nat_eq n 0) 0 v) (eqb-true number rd e) ∙ ap (λ t. cond t 0 v) other)
    at_register number h other false e = stays_so.values number h

    by_zero : (test : Bool) → nat_eq rd 0 ≡ test → StandFor w new (cond test registers (slice_set registers rd id)) (cond test local (record local { registers = slice_set local.registers rd v }))
    by_zero true e = stays_so
    by_zero false e = record {
      all = length-set local.registers rd v ∙ stand.all;
      values = λ number h.
          ap (λ n. value_at w new n) (term_written registers rd number id zero_term (omega (arith, inside, are.all)) (nat_eq number rd) refl)
          ∙ at_register number h e (nat_eq number rd) refl
          ∙ ap (λ n. cond (nat_eq number 0) 0 n) (sym (value_written local.registers rd number v (omega (arith, inside, stand.all)) (nat_eq number rd) refl));
    }

-- the registers are words after the write of a word
pub registers_written : (new : List Shape) (registers : List TermId) (rd : ℕ) (id : TermId) → AreRegisters new registers → IsTerm new 32 id.number → rd < 32 → AreRegisters new (written registers rd id)
registers_written new registers rd id are is inside = by_zero (nat_eq rd 0)
  where
    zero_term : TermId
    zero_term = record { number = 0 }

    at_register : (number : ℕ) → number < 32 → (test : Bool) → IsTerm new 32 (cond test id.number (term_of registers number))
    at_register number h true = is
    at_register number h false = are.words number h

    by_zero : (test : Bool) → AreRegisters new (cond test registers (slice_set registers rd id))
    by_zero true = are
    by_zero false = record {
      all = length-set registers rd id ∙ are.all;
      words = λ number h. subst (λ n. IsTerm new 32 n) (sym (term_written registers rd number id zero_term (omega (arith, inside, are.all)) (nat_eq number rd) refl)) (at_register number h (nat_eq number rd));
    }

-- the variables of the registers after a write are those of the registers before it, if those of the written term are
variables_written : (old new : List Shape) (registers : List TermId) (rd : ℕ) (id : TermId) → Grows old new → AreRegisters old registers → rd < 32
    → ((width variable : ℕ) → Occurs new width variable id.number → OccursInRegisters old registers width variable)
    → (width variable : ℕ) → OccursInRegisters new (written registers rd id) width variable → OccursInRegisters old registers width variable
variables_written old new registers rd id grows are inside from width variable there = by_zero (nat_eq rd 0) there
  where
    zero_term : TermId
    zero_term = record { number = 0 }

    older : (number : ℕ) → number < 32 → Occurs new width variable (term_of registers number) → OccursInRegisters old registers width variable
    older number h occurs = record { number = number; below = h; occurs = grows.variables width variable (term_of registers number) (are.words number h).inside occurs }

    at_register : (number : ℕ) → number < 32 → (test : Bool) → Occurs new width variable (cond test id.number (term_of registers number)) → OccursInRegisters old registers width variable
    at_register number h true occurs = from width variable occurs
    at_register number h false occurs = older number h occurs

    by_zero : (test : Bool) → OccursInRegisters new (cond test registers (slice_set registers rd id)) width variable → OccursInRegisters old registers width variable
    by_zero true found = older found.number found.below found.occurs
    by_zero false found =
        at_register found.number found.below (nat_eq found.number rd)
        (subst (λ n. Occurs new width variable n) (term_written registers rd found.number id zero_term (omega (arith, inside, are.all)) (nat_eq found.number rd) refl) found.occurs)

-- a register is written with a term that was made of one, two or no registers
pub writes_of_two : (old new : List Shape) (registers : List TermId) (rd rs1 rs2 : ℕ) (id : TermId) (g : ℕ → ℕ → ℕ) → Grows old new → AreRegisters old registers → rd < 32 → rs1 < 32 → rs2 < 32
    → IsMade old new (term_of registers rs1 ∷ term_of registers rs2 ∷ []) 32 (λ w. g (value_at w old (term_of registers rs1)) (value_at w old (term_of registers rs2))) id.number
    → Writes old new registers (written registers rd id) rd (λ local. g (register local rs1) (register local rs2))
writes_of_two old new registers rd rs1 rs2 id g grows are inside in1 in2 made = record {
  stands = λ w local stand. stand_written w old new registers local rd (g (register local rs1) (register local rs2)) id grows are stand inside
      (made.value w ∙ ap (λ v. g v (value_at w old (term_of registers rs2))) (stand.values rs1 in1) ∙ ap (λ v. g (register local rs1) v) (stand.values rs2 in2));
  variables = variables_written old new registers rd id grows are inside (λ width variable there. elim (made.occurs width variable there) [
    | inl first ↦ record { number = rs1; below = in1; occurs = first }
    | inr (inl second) ↦ record { number = rs2; below = in2; occurs = second }
    | inr (inr none) ↦ absurd none
  ]);
}

pub writes_of_one : (old new : List Shape) (registers : List TermId) (rd rs1 : ℕ) (id : TermId) (g : ℕ → ℕ) → Grows old new → AreRegisters old registers → rd < 32 → rs1 < 32
    → IsMade old new (term_of registers rs1 ∷ []) 32 (λ w. g (value_at w old (term_of registers rs1))) id.number → Writes old new registers (written registers rd id) rd (λ local. g (register local rs1))
writes_of_one old new registers rd rs1 id g grows are inside in1 made = record {
  stands = λ w local stand. stand_written w old new registers local rd (g (register local rs1)) id grows are stand inside (made.value w ∙ ap g (stand.values rs1 in1));
  variables = variables_written old new registers rd id grows are inside (λ width variable there. elim (made.occurs width variable there) [
    | inl first ↦ record { number = rs1; below = in1; occurs = first }
    | inr none ↦ absurd none
  ]);
}

pub writes_number : (old new : List Shape) (registers : List TermId) (rd value : ℕ) (id : TermId) → Grows old new → AreRegisters old registers → rd < 32
    → IsMade old new [] 32 (λ w. value) id.number → Writes old new registers (written registers rd id) rd (λ local. value)
writes_number old new registers rd value id grows are inside made = record {
  stands = λ w local stand. stand_written w old new registers local rd value id grows are stand inside (made.value w);
  variables = variables_written old new registers rd id grows are inside (λ width variable there. absurd (made.occurs width variable there));
}

-- the variables of registers after a write, from those of the written term and of the registers before
pub any_written : (new : List Shape) (registers : List TermId) (rd : ℕ) (id : TermId) (width variable : ℕ) (P : Type 0) → length registers ≡ 32 → rd < 32
    → (Occurs new width variable id.number → P) → (OccursInRegisters new registers width variable → P) → OccursInRegisters new (written registers rd id) width variable → P
any_written new registers rd id width variable P all inside of_term of_register there = by_zero (nat_eq rd 0) there
  where
    zero_term : TermId
    zero_term = record { number = 0 }

    at_register : (number : ℕ) → number < 32 → (test : Bool) → Occurs new width variable (cond test id.number (term_of registers number)) → P
    at_register number h true occurs = of_term occurs
    at_register number h false occurs = of_register (record { number = number; below = h; occurs = occurs })

    by_zero : (test : Bool) → OccursInRegisters new (cond test registers (slice_set registers rd id)) width variable → P
    by_zero true found = of_register found
    by_zero false found =
        at_register found.number found.below (nat_eq found.number rd)
        (subst (λ n. Occurs new width variable n) (term_written registers rd found.number id zero_term (omega (arith, inside, all)) (nat_eq found.number rd) refl) found.occurs)

-- a register is written with a term that the pool has
pub puts : (nodes : List Shape) (registers : List TermId) (rd : ℕ) (id : TermId) → AreRegisters nodes registers → rd < 32 → Puts nodes registers (written registers rd id) rd id.number
puts nodes registers rd id are inside = record {
  stands = λ w local stand. stand_written w nodes nodes registers local rd (value_at w nodes id.number) id (grows_same nodes) are stand inside refl;
  variables = λ width variable there.
      any_written nodes registers rd id width variable (OccursInRegisters nodes registers width variable ⊎ Occurs nodes width variable id.number) are.all inside (λ o. inr o) (λ o. inl o) there;
}
