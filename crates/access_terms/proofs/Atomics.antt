-- The atomic instructions.
use Rattle.std.proofs.Common.{◌≡◌, ℕ, zero, suc, ◌-◌, ◌<◌, Bool, true, false, cond, List, [], ◌∷◌, length, refl, sym, ◌∙◌, ap, subst, inl, inr, nat_eq, arith}
use Rattle.std.specs.Prelude.{Option, Some, None, is_some}
use Rattle.std.proofs.lemmas.Bool.{false≢true}
use Rattle.elf_image.specs.Layout.{Layout}
use Rattle.elf_image.specs.Memory.{bytes_of, number_of, writes_of}
use Rattle.rv32_decode.specs.declared.instr.AmoOp.{AmoOp}
use Rattle.rv32_decode.specs.declared.instr.Instr.TheVariants as instr
use Rattle.odr_log.specs.declared.log.Cause.TheVariants as cause
use Rattle.odr_log.specs.declared.log.Pos.{Pos}
use Rattle.rv_model.specs.declared.state.Local.{Local}
use Rattle.rv_model.specs.declared.state.Note.TheVariants as note
use Rattle.rv_model.specs.declared.hearing.Outcome.TheVariants.{Goes}
use Rattle.rv_model.specs.Instruction.{access_of}
use Rattle.rv_model.specs.Thread.{onward, register, with_register}
use Rattle.rv_model.specs.Values.{amo_of}
use Rattle.bv_terms.specs.declared.node.TermId.{TermId}
use Rattle.bv_terms.specs.BitVectors.{bit_of}
use Rattle.bv_terms.specs.Shapes.{Shape, Var}
use Rattle.bv_terms.specs.Values.{Assignment, value_at}
use Rattle.bv_terms.specs.Variables.{Here, Occurs}
use Rattle.guided_walk.specs.Guided.{linked}
use Rattle.step_terms.specs.Bytes.{values}
use Rattle.step_terms.specs.Made.{Grows, IsMade, IsTerm}
use Rattle.step_terms.proofs.Making.{first_stays, stays}
use Rattle.thread_terms.specs.declared.access.Access.{Access}
use Rattle.thread_terms.specs.declared.access.Stepped.{Stepped}
use Rattle.thread_terms.specs.Given.{given_by}
use Rattle.thread_terms.specs.Standing.{AreRegisters, OccursInRegisters, Puts, term_of}
use Rattle.thread_terms.specs.Steps.{HasVariables, IsPlainStep, IsStep, OfRegistersOr, Shows}
use Rattle.thread_terms.specs.Variables.{IsOutcomeOf, step_number}
use Rattle.thread_terms.proofs.Standing.{stand_stays}
use Rattle.access_terms.specs.Won.{IsOutcome}
use Rattle.access_terms.proofs.Loading.{reading}
use Rattle.access_terms.specs.Rights.{may_use}
use Rattle.access_terms.proofs.Outcomes.{amo_outcome, conditional_outcome, given_bytes, reserve_outcome}
use Rattle.access_terms.proofs.Own.{AreRead, IsConstantBit, IsValueRead, byte_read, from_register, of_constant, of_variable}
use Rattle.access_terms.proofs.Storing.{writing}
use Rattle.access_terms.proofs.Works.{stands_put, step_by, variables_put, works_same, works_where}
use Rattle.access_terms.proofs.Writing.{AreWritten, RegistersOrRead, nothing_written, writes_if, writes_where}

-- the variables of a constraint on the address that a register has
constraint_from : (old new : List Shape) (before : List TermId) (rs a id : ℕ) (f : Assignment → ℕ) (access : Option Access) → rs < 32 → a ≡ term_of before rs
    → IsMade old new (a ∷ []) 1 f id → HasVariables (OfRegistersOr old before access) new id
constraint_from old new before rs a id f access inside named made width number there =
    inl (from_register old new before rs 1 id f inside (subst (λ n. IsMade old new (n ∷ []) 1 f id) named made) width number there)

-- ---- load-reserved

reserve_shows : (w : Assignment) (new : List Shape) (p : Pos) (rd rs1 : ℕ) (aq rl : Bool) (address guard : TermId) (reads : List TermId) (local next : Local)
    → value_at w new address.number ≡ register local rs1 → length reads ≡ 4 → value_at w new guard.number ≡ 0
    → Shows w new (let a : Access = record { pos = p; address = address; guard = guard; reads = reads; writes = []; link = None } in a) (instr.LoadReserved rd rs1 aq rl) local (Goes next [] note.Nothing)
unfolding access_of
reserve_shows w new p rd rs1 aq rl address guard reads local next at count unwritten = record {
  address = at;
  reads = count;
  writes = nothing_written (writes_of (value_at w new address.number) [] []) (value_at w new guard.number) unwritten;
}

pub reserve_step : (image : Layout) (p : Pos) (rd rs1 : ℕ) (aq rl : Bool) (old new : List Shape) (before after : List TermId) (address constraint guard : TermId) (value : ℕ) (reads : List TermId)
    → Grows old new → AreRegisters old before → rs1 < 32 → address.number ≡ term_of before rs1
    → IsMade old new (address.number ∷ []) 1 (λ w. bit_of (may_use image (value_at w old address.number))) constraint.number
    → AreRead p new 4 reads → IsValueRead p new 4 32 number_of value → IsConstantBit new false guard.number → Puts new before after rd value
    → IsPlainStep image p (instr.LoadReserved rd rs1 aq rl) old new before after (reading p constraint address guard reads)
reserve_step image p rd rs1 aq rl old new before after address constraint guard value reads grows are inside named allowed read is fixed puts pc link =
    let a = address.number in
    let at : IsMade old new (a ∷ []) 32 (λ w. value_at w old a) a = first_stays old new a [] 32 grows (subst (λ n. IsTerm old 32 n) (sym named) (are.words rs1 inside)) in
    step_by image p pc (instr.LoadReserved rd rs1 aq rl) note.Nothing link old new before after (reading p constraint address guard reads) allowed.term
    (constraint_from old new before rs1 a constraint.number _ (reading p constraint address guard reads).access inside named allowed)
    (λ w seen joined h.
    let local = seen.local in
    let stand = h.stand in
    let there : value_at w old a ≡ register local rs1 = ap (λ n. value_at w old n) named ∙ stand.values rs1 inside in
    let number = number_of (given_bytes w p 4) in
    works_same w new after (reading p constraint address guard reads) (instr.LoadReserved rd rs1 aq rl) note.Nothing local _ _ (reserve_outcome image w p rd rs1 aq rl note.Nothing joined seen)
    (works_where w new after (reading p constraint address guard reads) _ (instr.LoadReserved rd rs1 aq rl) local (onward (with_register local rd number))
    (may_use image (register local rs1)) [] cause.AmoFault refl (allowed.value w ∙ ap (λ v. bit_of (may_use image v)) there)
    (stands_put w new before after rd value number local puts (stand_stays w old new before local grows are stand) (is.value w))
    (reserve_shows w new p rd rs1 aq rl address guard reads local (onward (with_register local rd number)) (at.value w ∙ there) read.count (fixed.value w))))
    refl
    (record {
      pos = refl;
      link = refl;
      address = at.term;
      address_from = from_register old new before rs1 32 a _ inside (subst (λ n. IsMade old new (n ∷ []) 32 (λ w. value_at w old a) a) named at);
      guard = fixed.node;
      guard_bit = fixed.term;
      guard_from = λ width number there. absurd (of_constant new guard.number 1 0 fixed.node width number there);
      read_many = read.count;
      reads = read.variables;
      write_many = refl;
      writes = λ k d h. absurd (omega (arith, h));
      writes_from = λ k d h. absurd (omega (arith, h));
    })
    (variables_put (reading p constraint address guard reads).access old new before after rd value grows are puts
    (λ width number there. inr (inl (byte_read p new 4 reads read width number (is.variables width number there)))))

-- ---- atomic memory operations

-- the access and the constraint of a step that reads and writes
abbrev pub exchanging : Pos → TermId → TermId → TermId → List TermId → List TermId → Stepped
exchanging p constraint address guard reads writes = record {
  constraint = constraint;
  access = Some (record { pos = p; address = address; guard = guard; reads = reads; writes = writes; link = None });
}

amo_shows : (w : Assignment) (new : List Shape) (p : Pos) (op : AmoOp) (rd rs1 rs2 : ℕ) (aq rl : Bool) (address guard : TermId) (reads writes : List TermId) (local next : Local) (bytes : List ℕ)
    → value_at w new address.number ≡ register local rs1 → length reads ≡ 4 → values w new writes ≡ bytes → value_at w new guard.number ≡ 1
    → Shows w new (let a : Access = record { pos = p; address = address; guard = guard; reads = reads; writes = writes; link = None } in a) (instr.Amo op rd rs1 rs2 aq rl) local
    (Goes next (writes_of (register local rs1) bytes []) note.Nothing)
unfolding access_of
amo_shows w new p op rd rs1 rs2 aq rl address guard reads writes local next bytes at count are set = record {
  address = at;
  reads = count;
  writes = writes_where w new address.number guard.number writes (register local rs1) bytes at are set;
}

pub amo_step : (image : Layout) (p : Pos) (op : AmoOp) (rd rs1 rs2 : ℕ) (aq rl : Bool) (old new : List Shape) (before after : List TermId) (address constraint guard : TermId) (value : ℕ) (reads writes : List TermId)
    → Grows old new → AreRegisters old before → rs1 < 32 → rs2 < 32 → address.number ≡ term_of before rs1
    → IsMade old new (address.number ∷ []) 1 (λ w. bit_of (may_use image (value_at w old address.number))) constraint.number
    → AreRead p new 4 reads → IsValueRead p new 4 32 number_of value
    → AreWritten (RegistersOrRead old before p 4) new 4 (λ w. amo_of op (number_of (given_bytes w p 4)) (value_at w old (term_of before rs2))) writes
    → IsConstantBit new true guard.number → Puts new before after rd value
    → IsPlainStep image p (instr.Amo op rd rs1 rs2 aq rl) old new before after (exchanging p constraint address guard reads writes)
amo_step image p op rd rs1 rs2 aq rl old new before after address constraint guard value reads writes grows are inside inside2 named allowed read is written fixed puts pc link =
    let a = address.number in
    let at : IsMade old new (a ∷ []) 32 (λ w. value_at w old a) a = first_stays old new a [] 32 grows (subst (λ n. IsTerm old 32 n) (sym named) (are.words rs1 inside)) in
    step_by image p pc (instr.Amo op rd rs1 rs2 aq rl) note.Nothing link old new before after (exchanging p constraint address guard reads writes) allowed.term
    (constraint_from old new before rs1 a constraint.number _ (exchanging p constraint address guard reads writes).access inside named allowed)
    (λ w seen joined h.
    let local = seen.local in
    let stand = h.stand in
    let there : value_at w old a ≡ register local rs1 = ap (λ n. value_at w old n) named ∙ stand.values rs1 inside in
    let number = number_of (given_bytes w p 4) in
    let bytes = bytes_of 4 (amo_of op number (register local rs2)) in
    works_same w new after (exchanging p constraint address guard reads writes) (instr.Amo op rd rs1 rs2 aq rl) note.Nothing local _ _ (amo_outcome image w p op rd rs1 rs2 aq rl note.Nothing joined seen)
    (works_where w new after (exchanging p constraint address guard reads writes) _ (instr.Amo op rd rs1 rs2 aq rl) local (onward (with_register local rd number))
    (may_use image (register local rs1)) (writes_of (register local rs1) bytes []) cause.AmoFault refl (allowed.value w ∙ ap (λ v. bit_of (may_use image v)) there)
    (stands_put w new before after rd value number local puts (stand_stays w old new before local grows are stand) (is.value w))
    (amo_shows w new p op rd rs1 rs2 aq rl address guard reads writes local (onward (with_register local rd number)) bytes (at.value w ∙ there) read.count
    (written.values w ∙ ap (λ v. bytes_of 4 (amo_of op number v)) (stand.values rs2 inside2)) (fixed.value w))))
    refl
    (record {
      pos = refl;
      link = refl;
      address = at.term;
      address_from = from_register old new before rs1 32 a _ inside (subst (λ n. IsMade old new (n ∷ []) 32 (λ w. value_at w old a) a) named at);
      guard = fixed.node;
      guard_bit = fixed.term;
      guard_from = λ width number there. absurd (of_constant new guard.number 1 1 fixed.node width number there);
      read_many = read.count;
      reads = read.variables;
      write_many = written.many;
      writes = written.bytes;
      writes_from = λ k d h width number there. elim (written.variables k d h width number there) [
        | inl in_register ↦ inl in_register
        | inr in_byte ↦ inr (inl (byte_read p new 4 reads read width number in_byte))
      ];
    })
    (variables_put (exchanging p constraint address guard reads writes).access old new before after rd value grows are puts
    (λ width number there. inr (inl (byte_read p new 4 reads read width number (is.variables width number there)))))

-- ---- store-conditional

pub outcome_stays : (p : Pos) (old new : List Shape) (link : Option ℕ) (id : ℕ) → Grows old new → IsOutcome old p link id → IsOutcome new p link id
outcome_stays p old new link id grows is = record {
  node = grows.terms.node id is.term.inside ∙ is.node;
  term = stays old new 1 id grows is.term;
  value = λ w. grows.terms.value w id is.term.inside ∙ is.value w;
}

-- a bit is 1 where a store-conditional succeeds, by its link
won_by : (x address : ℕ) (link seen : Option ℕ) → is_some seen ≡ is_some link → linked (Some address) seen (nat_eq x 1) ≡ nat_eq (cond (is_some link) x 0) 1
won_by x address None None e = refl
won_by x address (Some at) (Some reserved) e = refl
won_by x address None (Some reserved) e = absurd (false≢true (sym e))
won_by x address (Some at) None e = absurd (false≢true e)

-- and the register gets the other bit
fails_by : (v : ℕ) → v < 2 → 1 - v ≡ cond (nat_eq v 1) 0 1
fails_by zero h = refl
fails_by (suc zero) h = refl
fails_by (suc (suc v)) h = absurd (omega (arith, h))

bit_below : (link : Option ℕ) (x : ℕ) → x < 2 → cond (is_some link) x 0 < 2
bit_below None x h = omega arith
bit_below (Some at) x h = h

-- the word that tells whether the outcome is 0
pub record IsTold (nodes : List Shape) (guard id : ℕ) : Type 0 where
  pub value : (w : Assignment) → value_at w nodes id ≡ 1 - value_at w nodes guard
  pub variables : (width number : ℕ) → Occurs nodes width number id → Occurs nodes width number guard

-- a variable of the guard stays one in a pool that grew: it is the guard
guard_later : (p : Pos) (old new : List Shape) (link : Option ℕ) (guard : ℕ) → Grows old new → IsOutcome old p link guard → (width number : ℕ) → Occurs old width number guard → Occurs new width number guard
guard_later p old new None guard grows is width number there = absurd (of_constant old guard 1 0 is.node width number there)
guard_later p old new (Some at) guard grows is width number there =
    let same = of_variable old guard 1 (step_number p.thread p.step) is.node width number there in
    Here guard (grows.terms.node guard is.term.inside ∙ is.node ∙ ap (λ n. Some (Var n (step_number p.thread p.step))) (sym same.0) ∙ ap (λ n. Some (Var width n)) (sym same.1))

pub value_of_guard : (p : Pos) (start old new : List Shape) (link : Option ℕ) (guard id : ℕ) → Grows start old → Grows old new → IsOutcome start p link guard
    → IsMade old new (guard ∷ []) 32 (λ w. 1 - value_at w old guard) id → IsTold new guard id
value_of_guard p start old new link guard id first grows is made =
    let middle = outcome_stays p start old link guard first is in
    record {
      value = λ w. made.value w ∙ ap (λ v. 1 - v) (sym (grows.terms.value w guard middle.term.inside));
      variables = λ width number there. elim (made.occurs width number there) [
        | inl in_guard ↦ guard_later p old new link guard grows middle width number in_guard
        | inr none ↦ absurd none
      ];
    }

-- a variable of the guard is that of the outcome, where there is a link
outcome_from : (p : Pos) (nodes : List Shape) (link : Option ℕ) (id : ℕ) → IsOutcome nodes p link id
    → HasVariables (λ width number. (is_some link ≡ true) × IsOutcomeOf p width number) nodes id
outcome_from p nodes None id is width number there = absurd (of_constant nodes id 1 0 is.node width number there)
outcome_from p nodes (Some at) id is width number there = (refl, of_variable nodes id 1 (step_number p.thread p.step) is.node width number there)

conditional_shows : (w : Assignment) (new : List Shape) (p : Pos) (rd rs1 rs2 : ℕ) (aq rl : Bool) (address guard : TermId) (writes : List TermId) (link : Option ℕ) (local next : Local) (bytes : List ℕ) (won : Bool)
    → value_at w new address.number ≡ register local rs1 → values w new writes ≡ bytes → won ≡ nat_eq (value_at w new guard.number) 1
    → Shows w new (let a : Access = record { pos = p; address = address; guard = guard; reads = []; writes = writes; link = link } in a) (instr.StoreConditional rd rs1 rs2 aq rl) local
    (Goes next (cond won (writes_of (register local rs1) bytes []) []) note.Nothing)
unfolding access_of
conditional_shows w new p rd rs1 rs2 aq rl address guard writes link local next bytes won at are is = record {
  address = at;
  reads = refl;
  writes = ap (λ t. cond t (writes_of (register local rs1) bytes []) []) is ∙ writes_if w new address.number guard.number writes (register local rs1) bytes at are;
}

pub conditional_step : (image : Layout) (p : Pos) (pc rd rs1 rs2 : ℕ) (aq rl : Bool) (link : Option ℕ) (old new : List Shape) (before after : List TermId) (address constraint guard : TermId) (value : ℕ) (writes : List TermId)
    → Grows old new → AreRegisters old before → rs1 < 32 → rs2 < 32 → address.number ≡ term_of before rs1
    → IsMade old new (address.number ∷ []) 1 (λ w. bit_of (may_use image (value_at w old address.number))) constraint.number
    → IsOutcome new p link guard.number
    → AreWritten (OccursInRegisters old before) new 4 (λ w. value_at w old (term_of before rs2)) writes
    → IsTold new guard.number value → Puts new before after rd value
    → IsStep image p pc (instr.StoreConditional rd rs1 rs2 aq rl) note.Nothing link old new before after (writing p constraint address guard writes link)
conditional_step image p pc rd rs1 rs2 aq rl link old new before after address constraint guard value writes grows are inside inside2 named allowed outcome written told puts =
    let a = address.number in
    let g = guard.number in
    let at : IsMade old new (a ∷ []) 32 (λ w. value_at w old a) a = first_stays old new a [] 32 grows (subst (λ n. IsTerm old 32 n) (sym named) (are.words rs1 inside)) in
    step_by image p pc (instr.StoreConditional rd rs1 rs2 aq rl) note.Nothing link old new before after (writing p constraint address guard writes link) allowed.term
    (constraint_from old new before rs1 a constraint.number _ (writing p constraint address guard writes link).access inside named allowed)
    (λ w seen joined h.
    let local = seen.local in
    let stand = h.stand in
    let there : value_at w old a ≡ register local rs1 = ap (λ n. value_at w old n) named ∙ stand.values rs1 inside in
    let x = w.value_of 1 (step_number p.thread p.step) in
    let won = linked (Some (register local rs1)) seen.link ((given_by w).won p.thread p.step) in
    let bit : value_at w new g ≡ cond (is_some link) x 0 = outcome.value w in
    let succeeds : won ≡ nat_eq (value_at w new g) 1 = won_by x (register local rs1) link seen.link h.linked ∙ ap (λ n. nat_eq n 1) (sym bit) in
    let small : value_at w new g < 2 = subst (λ n. n < 2) (sym bit) (bit_below link x (w.below 1 (step_number p.thread p.step))) in
    let shown : value_at w new value ≡ cond won 0 1 = told.value w ∙ fails_by (value_at w new g) small ∙ ap (λ t. cond t 0 1) (sym succeeds) in
    let bytes = bytes_of 4 (register local rs2) in
    works_same w new after (writing p constraint address guard writes link) (instr.StoreConditional rd rs1 rs2 aq rl) note.Nothing local _ _ (conditional_outcome image w p rd rs1 rs2 aq rl note.Nothing joined seen)
    (works_where w new after (writing p constraint address guard writes link) _ (instr.StoreConditional rd rs1 rs2 aq rl) local (onward (with_register local rd (cond won 0 1)))
    (may_use image (register local rs1)) (cond won (writes_of (register local rs1) bytes []) []) cause.AmoFault refl (allowed.value w ∙ ap (λ v. bit_of (may_use image v)) there)
    (stands_put w new before after rd value (cond won 0 1) local puts (stand_stays w old new before local grows are stand) shown)
    (conditional_shows w new p rd rs1 rs2 aq rl address guard writes link local (onward (with_register local rd (cond won 0 1))) bytes won (at.value w ∙ there)
    (written.values w ∙ ap (bytes_of 4) (stand.values rs2 inside2)) succeeds)))
    refl
    (record {
      pos = refl;
      link = refl;
      address = at.term;
      address_from = from_register old new before rs1 32 a _ inside (subst (λ n. IsMade old new (n ∷ []) 32 (λ w. value_at w old a) a) named at);
      guard = outcome.node;
      guard_bit = outcome.term;
      guard_from = λ width number there. inr (outcome_from p new link g outcome width number there);
      read_many = refl;
      reads = λ index h. absurd (omega (arith, h));
      write_many = written.many;
      writes = written.bytes;
      writes_from = λ k d h width number there. inl (written.variables k d h width number there);
    })
    (variables_put (writing p constraint address guard writes link).access old new before after rd value grows are puts
    (λ width number there. inr (inr (outcome_from p new link g outcome width number (told.variables width number there)))))
