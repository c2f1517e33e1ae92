-- Registers before a thread's first step.
use Rattle.std.proofs.Common.{◌≡◌, ℕ, zero, suc, ◌<◌, Bool, true, false, cond, List, [], replicate, refl, sym, ◌∙◌, ap, subst, inl, inr, nat_eq, arith}
use Rattle.std.specs.Prelude.{◌⊎◌, slice_index, slice_index_or}
use Rattle.bv_terms.specs.declared.node.TermId.{TermId}
use Rattle.bv_terms.specs.Shapes.{Shape}
use Rattle.bv_terms.specs.Values.{Assignment, value_at}
use Rattle.bv_terms.specs.Variables.{Occurs}
use Rattle.rv_model.specs.declared.state.Local.{Local}
use Rattle.rv_model.specs.Thread.{stack_top, with_register, zero_registers}
use Rattle.step_terms.specs.Made.{Grows, IsMade, IsTerm}
use Rattle.thread_terms.specs.Standing.{AreRegisters, BeginsAs, OccursInRegisters, SpawnedAs, StandFor}
use Rattle.step_terms.proofs.Making.{grows_on, grows_same, later, stays}
use Rattle.thread_terms.proofs.Standing.{any_written, registers_written, stand_written, written}

each_zero : {A : Type 0} (count number : ℕ) (a d : A) → number < count → slice_index_or (replicate count a) number d ≡ a
each_zero zero number a d h = absurd (omega (arith, h))
each_zero (suc count) zero a d h = refl
each_zero (suc count) (suc number) a d h = each_zero count number a d (omega (arith, h))

abbrev zero_term : TermId
zero_term = record { number = 0 }

abbrev zero_local : ℕ → Local
zero_local entry = record { pc = entry; registers = zero_registers }

-- all registers 0
zeros_are : (nodes : List Shape) (z : TermId) → IsTerm nodes 32 z.number → AreRegisters nodes (replicate 32 z)
zeros_are nodes z is = record {
  all = refl;
  words = λ number h. subst (λ (t : TermId). IsTerm nodes 32 t.number) (sym (each_zero 32 number z zero_term h)) is;
}

zeros_stand : (w : Assignment) (nodes : List Shape) (z : TermId) (entry : ℕ) → value_at w nodes z.number ≡ 0 → StandFor w nodes (replicate 32 z) (zero_local entry)
zeros_stand w nodes z entry is = record {
  all = refl;
  values = λ number h. ap (λ (t : TermId). value_at w nodes t.number) (each_zero 32 number z zero_term h) ∙ is ∙ sym (by_zero number h (nat_eq number 0));
}
  where
    by_zero : (number : ℕ) → number < 32 → (test : Bool) → cond test 0 (slice_index zero_registers number) ≡ 0
    by_zero number h true = refl
    by_zero number h false = each_zero 32 number 0 0 h

zeros_variables : (nodes : List Shape) (z : TermId) (P : ℕ → ℕ → Type 0) → ((width variable : ℕ) → Occurs nodes width variable z.number → P width variable)
    → (width variable : ℕ) → OccursInRegisters nodes (replicate 32 z) width variable → P width variable
zeros_variables nodes z P from width variable there = from width variable (subst (λ (t : TermId). Occurs nodes width variable t.number) (each_zero 32 there.number z zero_term there.below) there.occurs)

-- a constant has no variable
none : (old new : List Shape) (value : ℕ) (id : ℕ) → IsMade old new [] 32 (λ w. value) id → (width variable : ℕ) → Occurs new width variable id → ⊥
none old new value id made width variable there = made.occurs width variable there

pub begins : (one two new : List Shape) (z sp : TermId) → Grows one two → IsMade new one [] 32 (λ w. 0) z.number → IsMade one two [] 32 (λ w. stack_top 0) sp.number
    → BeginsAs two (written (replicate 32 z) 2 sp)
begins one two new z sp grows is_zero is_top =
    let zero_is = later new one two [] 32 (λ w. 0) z.number grows is_zero in
    let zeros = zeros_are two z zero_is.term in
    record {
      words = registers_written two (replicate 32 z) 2 sp zeros is_top.term (omega arith);
      stands = λ w entry. stand_written w two two (replicate 32 z) (zero_local entry) 2 (stack_top 0) sp (grows_same two) zeros (zeros_stand w two z entry (zero_is.value w)) (omega arith) (is_top.value w);
      variables = λ width variable there.
          any_written two (replicate 32 z) 2 sp width variable ⊥ refl (omega arith) (λ o. none one two (stack_top 0) sp.number is_top width variable o)
          (λ o. zeros_variables two z (λ a b. ⊥) (λ a b p. none new two 0 z.number zero_is a b p) width variable o) there;
    }

-- a spawned thread: sp, gp and a0 are written, one after another
pub spawns : (old one two : List Shape) (thread : ℕ) (z sp gp argument : TermId) → Grows old one → Grows one two → IsTerm old 32 gp.number → IsTerm old 32 argument.number
    → IsMade old one [] 32 (λ w. 0) z.number → IsMade one two [] 32 (λ w. stack_top thread) sp.number
    → SpawnedAs old two thread gp.number argument.number (written (written (written (replicate 32 z) 2 sp) 3 gp) 10 argument)
spawns old one two thread z sp gp argument first second is_gp is_argument is_zero is_top = record {
  words = registers_written two with_gp 10 argument gp_words (stays old two 32 argument.number grows is_argument) (omega arith);
  stands = λ w entry.
      stand_written w two two with_gp (gp_local w entry) 10 (value_at w old argument.number) argument (grows_same two) gp_words (gp_stands w entry) (omega arith) (grows.terms.value w argument.number is_argument.inside);
  variables = λ width variable there.
      any_written two with_gp 10 argument width variable (Occurs old width variable gp.number ⊎ Occurs old width variable argument.number) gp_words.all (omega arith)
      (λ o. inr (grows.variables width variable argument.number is_argument.inside o)) (λ o. inl (gp_variables width variable o)) there;
}
  where
    grows : Grows old two
    grows = grows_on old one two first second

    zeros : List TermId
    zeros = replicate 32 z

    zero_made : IsMade old two [] 32 (λ w. 0) z.number
    zero_made = later old one two [] 32 (λ w. 0) z.number second is_zero

    zero_words : AreRegisters two zeros
    zero_words = zeros_are two z zero_made.term

    with_sp : List TermId
    with_sp = written zeros 2 sp

    sp_words : AreRegisters two with_sp
    sp_words = registers_written two zeros 2 sp zero_words is_top.term (omega arith)

    sp_local : ℕ → Local
    sp_local entry = with_register (zero_local entry) 2 (stack_top thread)

    sp_stands : (w : Assignment) (entry : ℕ) → StandFor w two with_sp (sp_local entry)
    sp_stands w entry = stand_written w two two zeros (zero_local entry) 2 (stack_top thread) sp (grows_same two) zero_words (zeros_stand w two z entry (zero_made.value w)) (omega arith) (is_top.value w)

    sp_variables : (width variable : ℕ) → OccursInRegisters two with_sp width variable → ⊥
    sp_variables width variable there =
        any_written two zeros 2 sp width variable ⊥ zero_words.all (omega arith) (λ o. none one two (stack_top thread) sp.number is_top width variable o)
        (λ o. zeros_variables two z (λ a b. ⊥) (λ a b p. none old two 0 z.number zero_made a b p) width variable o) there

    with_gp : List TermId
    with_gp = written with_sp 3 gp

    gp_words : AreRegisters two with_gp
    gp_words = registers_written two with_sp 3 gp sp_words (stays old two 32 gp.number grows is_gp) (omega arith)

    gp_local : Assignment → ℕ → Local
    gp_local w entry = with_register (sp_local entry) 3 (value_at w old gp.number)

    gp_stands : (w : Assignment) (entry : ℕ) → StandFor w two with_gp (gp_local w entry)
    gp_stands w entry =
        stand_written w two two with_sp (sp_local entry) 3 (value_at w old gp.number) gp (grows_same two) sp_words (sp_stands w entry) (omega arith) (grows.terms.value w gp.number is_gp.inside)

    gp_variables : (width variable : ℕ) → OccursInRegisters two with_gp width variable → Occurs old width variable gp.number
    gp_variables width variable there =
        any_written two with_sp 3 gp width variable (Occurs old width variable gp.number) sp_words.all (omega arith)
        (λ o. grows.variables width variable gp.number is_gp.inside o) (λ o. absurd (sp_variables width variable o)) there
