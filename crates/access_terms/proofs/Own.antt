-- The variables of a step: what its access reads, and the outcome of a store-conditional.
use Rattle.std.proofs.Common.{◌≡◌, Bool, ℕ, suc, ◌+◌, ◌<◌, ◌≤◌, List, [], ◌∷◌, length, map, refl, sym, ◌∙◌, ap, subst, inl, inr, arith}
use Rattle.std.specs.Prelude.{Contains, Some, slice_get, slice_index_or}
use Rattle.std.specs.List.{range_with_len}
use Rattle.std.proofs.lemmas.Option.{same_Some}
use Rattle.std.proofs.lemmas.List.Elements.{All-from_get_or}
use Rattle.odr_log.specs.declared.log.Pos.{Pos}
use Rattle.bv_terms.specs.declared.node.TermId.{TermId}
use Rattle.bv_terms.specs.BitVectors.{bit_of}
use Rattle.bv_terms.specs.Shapes.{Shape, Const, Var, children}
use Rattle.bv_terms.specs.Values.{Assignment, value_at}
use Rattle.bv_terms.specs.Variables.{Here, Inside, Occurs}
use Rattle.step_terms.specs.Bytes.{AreBytes, numbers, values}
use Rattle.step_terms.specs.Made.{Grows, IsMade, IsTerm, OccursAmong}
use Rattle.step_terms.proofs.Making.{stays}
use Rattle.thread_terms.specs.Given.{given_by}
use Rattle.thread_terms.specs.Standing.{AreRegisters, OccursInRegisters, term_of}
use Rattle.thread_terms.specs.Steps.{HasVariables}
use Rattle.thread_terms.specs.Variables.{AreVariables, IsByteOf, IsVariable, byte_number}
use Rattle.access_terms.proofs.Outcomes.{given_bytes}

abbrev no_term : TermId
no_term = record { number = 0 }

-- ---- nodes without children

no_child : (child : ℕ) → Contains {X = ℕ} [] child → ⊥
no_child child (k, less, e) = omega (arith, less)

same_node : (nodes : List Shape) (id : ℕ) (one other : Shape) → slice_get nodes id ≡ Some one → slice_get nodes id ≡ Some other → one ≡ other
same_node nodes id one other e f = same_Some one other (sym e ∙ f)

-- a variable that occurs in a variable is it
pub of_variable : (nodes : List Shape) (id bits named : ℕ) → slice_get nodes id ≡ Some (Var bits named) → (width number : ℕ) → Occurs nodes width number id → (width ≡ bits) × (number ≡ named)
of_variable nodes _ bits named e width number (Here id f) = let same : Var bits named ≡ Var width number = same_node nodes id (Var bits named) (Var width number) e f in (cc, cc)
of_variable nodes _ bits named e width number (Inside id child node f has there) =
    let same : node ≡ Var bits named = same_node nodes id node (Var bits named) f e in
    absurd (no_child child (subst (λ (n : Shape). Contains (children n) child) same has))

-- a constant has none
pub of_constant : (nodes : List Shape) (id bits value : ℕ) → slice_get nodes id ≡ Some (Const bits value) → (width number : ℕ) → Occurs nodes width number id → ⊥
of_constant nodes _ bits value e width number (Here id f) = let same : Const bits value ≡ Var width number = same_node nodes id (Const bits value) (Var width number) e f in cc
of_constant nodes _ bits value e width number (Inside id child node f has there) =
    let same : node ≡ Const bits value = same_node nodes id node (Const bits value) f e in
    no_child child (subst (λ (n : Shape). Contains (children n) child) same has)

-- ---- the registers before a step

pub from_register : (old new : List Shape) (before : List TermId) (rs k id : ℕ) (f : Assignment → ℕ) → rs < 32 → IsMade old new (term_of before rs ∷ []) k f id → HasVariables (OccursInRegisters old before) new id
from_register old new before rs k id f inside made width number there = elim (made.occurs width number there) [
  | inl in_one ↦ record { number = rs; below = inside; occurs = in_one }
  | inr none ↦ absurd none
]

pub older_registers : (old new : List Shape) (before : List TermId) → Grows old new → AreRegisters old before → (width number : ℕ) → OccursInRegisters new before width number → OccursInRegisters old before width number
older_registers old new before grows are width number there = record {
  number = there.number;
  below = there.below;
  occurs = grows.variables width number (term_of before there.number) (are.words there.number there.below).inside there.occurs;
}

-- ---- the bytes that an access reads

-- a term for each of so many bytes that a step reads
pub record AreRead (p : Pos) (nodes : List Shape) (size : ℕ) (ids : List TermId) : Type 0 where
  pub count : length ids ≡ size
  pub variables : AreVariables nodes p ids

-- from the byte at `first` on
abbrev AreFrom : Pos → List Shape → ℕ → List TermId → Type 0
AreFrom p nodes first ids = (index : ℕ) → index < length ids → IsVariable nodes 8 (byte_number p.thread p.step (first + index)) (slice_index_or ids index no_term).number

later_bytes : (p : Pos) (nodes : List Shape) (first : ℕ) (id : TermId) (ids : List TermId) → AreFrom p nodes first (id ∷ ids) → AreFrom p nodes (first + 1) ids
later_bytes p nodes first id ids are index h =
    let next : first + suc index ≡ first + 1 + index = omega arith in
    subst (λ n. IsVariable nodes 8 (byte_number p.thread p.step n) (slice_index_or ids index no_term).number) next (are (suc index) (omega (arith, h)))

values_from : (w : Assignment) (p : Pos) (nodes : List Shape) (first : ℕ) (ids : List TermId) → AreFrom p nodes first ids
    → values w nodes ids ≡ map ((given_by w).bytes p.thread p.step) (range_with_len first (length ids))
values_from w p nodes first [] are = refl
values_from w p nodes first (id ∷ ids) are =
    let here : first + 0 ≡ first = omega arith in
    ap (λ v. v ∷ values w nodes ids) ((are 0 (omega arith)).value w ∙ ap (λ n. (given_by w).bytes p.thread p.step n) here)
    ∙ ap (λ l. (given_by w).bytes p.thread p.step first ∷ l) (values_from w p nodes (first + 1) ids (later_bytes p nodes first id ids are))

among_from : (p : Pos) (nodes : List Shape) (first count : ℕ) (ids : List TermId) → first + length ids ≤ count → AreFrom p nodes first ids
    → (width number : ℕ) → OccursAmong nodes width number (numbers ids) → IsByteOf p count width number
among_from p nodes first count [] all are width number none = absurd none
among_from p nodes first count (id ∷ ids) all are width number (inl there) =
    let same = of_variable nodes id.number 8 (byte_number p.thread p.step (first + 0)) (are 0 (omega arith)).node width number there in
    (same.0, (first + 0, omega (arith, all), same.1))
among_from p nodes first count (id ∷ ids) all are width number (inr more) =
    among_from p nodes (first + 1) count ids (omega (arith, all)) (later_bytes p nodes first id ids are) width number more

from_first : (p : Pos) (nodes : List Shape) (ids : List TermId) → AreVariables nodes p ids → AreFrom p nodes 0 ids
from_first p nodes ids are index h = let same : index ≡ 0 + index = omega arith in subst (λ n. IsVariable nodes 8 (byte_number p.thread p.step n) (slice_index_or ids index no_term).number) same (are index h)

pub read_bytes : (p : Pos) (nodes : List Shape) (count : ℕ) (ids : List TermId) → AreRead p nodes count ids → AreBytes nodes ids
read_bytes p nodes count ids are = All-from_get_or (λ (t : TermId). IsTerm nodes 8 t.number) ids no_term (λ i h. (are.variables i h).term)

pub read_values : (w : Assignment) (p : Pos) (nodes : List Shape) (count : ℕ) (ids : List TermId) → AreRead p nodes count ids → values w nodes ids ≡ given_bytes w p count
read_values w p nodes count ids are =
    values_from w p nodes 0 ids (from_first p nodes ids are.variables) ∙ ap (λ n. map ((given_by w).bytes p.thread p.step) (range_with_len 0 n)) are.count

pub among_read : (p : Pos) (nodes : List Shape) (count : ℕ) (ids : List TermId) → AreRead p nodes count ids
    → (width number : ℕ) → OccursAmong nodes width number (numbers ids) → IsByteOf p count width number
among_read p nodes count ids are width number there = among_from p nodes 0 count ids (omega (arith, are.count)) (from_first p nodes ids are.variables) width number there

-- a byte that is read is one of those that there are terms for
pub byte_read : (p : Pos) (nodes : List Shape) (count : ℕ) (ids : List TermId) → AreRead p nodes count ids
    → (width number : ℕ) → IsByteOf p count width number → IsByteOf p (length ids) width number
byte_read p nodes count ids are width number is = subst (λ n. IsByteOf p n width number) (sym are.count) is

pub variable_stays : (old new : List Shape) (bits named id : ℕ) → Grows old new → IsVariable old bits named id → IsVariable new bits named id
variable_stays old new bits named id grows is = record {
  term = stays old new bits id grows is.term;
  node = grows.terms.node id is.term.inside ∙ is.node;
  value = λ w. grows.terms.value w id is.term.inside ∙ is.value w;
}

pub read_stays : (p : Pos) (old new : List Shape) (count : ℕ) (ids : List TermId) → Grows old new → AreRead p old count ids → AreRead p new count ids
read_stays p old new count ids grows are = record {
  count = are.count;
  variables = λ index h. variable_stays old new 8 (byte_number p.thread p.step index) (slice_index_or ids index no_term).number grows (are.variables index h);
}

-- a value of the bytes that a step reads
pub record IsValueRead (p : Pos) (nodes : List Shape) (count bits : ℕ) (f : List ℕ → ℕ) (id : ℕ) : Type 0 where
  pub term : IsTerm nodes bits id
  pub value : (w : Assignment) → value_at w nodes id ≡ f (given_bytes w p count)
  pub variables : HasVariables (IsByteOf p count) nodes id

pub value_read : (p : Pos) (old new : List Shape) (count bits : ℕ) (f : List ℕ → ℕ) (ids : List TermId) (id : ℕ) → AreRead p old count ids → IsMade old new (numbers ids) bits (λ w. f (values w old ids)) id → IsValueRead p new count bits f id
value_read p old new count bits f ids id are made = record {
  term = made.term;
  value = λ w. made.value w ∙ ap f (read_values w p old count ids are);
  variables = λ width number there. among_read p old count ids are width number (made.occurs width number there);
}

pub value_stays : (p : Pos) (old new : List Shape) (count bits : ℕ) (f : List ℕ → ℕ) (id : ℕ) → Grows old new → IsValueRead p old count bits f id → IsValueRead p new count bits f id
value_stays p old new count bits f id grows is = record {
  term = stays old new bits id grows is.term;
  value = λ w. grows.terms.value w id is.term.inside ∙ is.value w;
  variables = λ width number there. is.variables width number (grows.variables width number id is.term.inside there);
}

-- ---- constant bits

pub record IsConstantBit (nodes : List Shape) (test : Bool) (id : ℕ) : Type 0 where
  pub node : slice_get nodes id ≡ Some (Const 1 (bit_of test))
  pub term : IsTerm nodes 1 id
  pub value : (w : Assignment) → value_at w nodes id ≡ bit_of test

pub constant_made : (old new : List Shape) (test : Bool) (id : ℕ) → slice_get new id ≡ Some (Const 1 (bit_of test)) → IsMade old new [] 1 (λ w. bit_of test) id → IsConstantBit new test id
constant_made old new test id node made = record { node = node; term = made.term; value = made.value }
