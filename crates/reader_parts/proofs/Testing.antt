-- A test of a term of one bit is a condition that the variables of the term decide.
use Rattle.std.specs.Prelude.{◌≡◌, ℕ, ◌+◌, ◌*◌, ◌<◌, Bool, true, false, nat_eq, if◌then◌else◌, List, [], ◌∷◌, length, slice_get, slice_index_or, Option, Some, None, option_and_then, Contains}
use Rattle.std.proofs.Common.{get_or, take, sym, ◌∙◌, ap, subst, refl, arith}
use Rattle.std.proofs.lemmas.List.Elements.{All-contains}
use Rattle.std.proofs.lemmas.Bool.{false≢true}
use Rattle.std.proofs.lemmas.Option.{none-some}
use Rattle.bv_terms.specs.BitVectors.{BitVector, bit_of}
use Rattle.bv_terms.specs.Constants.{constant_at, constant_of}
use Rattle.bv_terms.specs.Shapes.{Shape, Const, Var, Not, Neg, Bin, Extract, ZeroExtend, SignExtend, Ite, ByteSelect}
use Rattle.bv_terms.specs.Values.{gathered, known_term, next_term, node_value, value_at, width_at}
use Rattle.bv_terms.specs.Values.{Assignment as TermAssignment}
use Rattle.bv_terms.proofs.Gathered.{gathered-get}
use Rattle.clause_store.specs.declared.lit.Lit.{Lit}
use Rattle.clause_store.specs.Literals.{Assignment, literal_value}
use Rattle.clause_store.specs.UnitRule.{Partial, AllAtRest}
use Rattle.clause_store.proofs.Members.{Contains-head}
use Rattle.clause_store.proofs.Rooting.{given_from_value}
use Rattle.order_clauses.specs.declared.order_lit.OrderLit.{OrderLit}
use Rattle.order_clauses.specs.declared.order_lit.OrderLit.TheVariants as order_lit
use Rattle.order_clauses.specs.Grid.{IsKnownOrder}
use Rattle.order_clauses.specs.Literals.{spelled}
use Rattle.source_clauses.specs.Conditions.{IsDecided}
use Rattle.bit_clauses.specs.Bits.{HasBits}
use Rattle.bit_clauses.specs.Circuit.{Decides}
use Rattle.bit_clauses.specs.Nodes.{lits_at}
use Rattle.bit_clauses.specs.Spelled.{spelled as number_of}
use Rattle.encoder.specs.declared.encoder.Encoder.{Encoder}
use Rattle.encoder.specs.Encodes.{AllVariablesDecided, IsKnown, IsTest, Spells, test_of}
use Rattle.reader_parts.specs.Conditions.{IsCondition}

-- ---- constants

some_one : (a b : ℕ) → Some a ≡ Some b → a ≡ b
some_one a b e = cc

constant_node : (w : TermAssignment) (f : ℕ → BitVector) (node : Shape) (value : ℕ) → constant_of node ≡ Some value → node_value w f node ≡ value
constant_node w f (Const width own) value e = some_one own value e
constant_node w f (Var width number) value e = absurd (none-some value e)
constant_node w f (Not of) value e = absurd (none-some value e)
constant_node w f (Neg of) value e = absurd (none-some value e)
constant_node w f (Bin op left right) value e = absurd (none-some value e)
constant_node w f (Extract of high low) value e = absurd (none-some value e)
constant_node w f (ZeroExtend of width) value e = absurd (none-some value e)
constant_node w f (SignExtend of width) value e = absurd (none-some value e)
constant_node w f (Ite test first second) value e = absurd (none-some value e)
constant_node w f (ByteSelect first bytes index) value e = absurd (none-some value e)

value_of_node : (w : TermAssignment) (nodes : List Shape) (id : ℕ) (node : Shape) (value : ℕ) → slice_get nodes id ≡ Some node → constant_of node ≡ Some value → value_at w nodes id ≡ value
unfolding value_at
value_of_node w nodes id node value found e =
    let is : get_or (gathered (next_term w) nodes) id (record { width = 0; value = 0 }) ≡ next_term w (gathered (next_term w) (take id nodes)) node =
    gathered-get (next_term w) nodes id node (record { width = 0; value = 0 }) found in
    ap (λ (v : BitVector). v.value) is ∙ constant_node w (known_term (gathered (next_term w) (take id nodes))) node value e

constant_value : (w : TermAssignment) (nodes : List Shape) (id value : ℕ) → constant_at nodes id ≡ Some value → value_at w nodes id ≡ value
constant_value w nodes id value e = by_node (slice_get nodes id) refl e where
  by_node : (found : Option Shape) → slice_get nodes id ≡ found → option_and_then constant_of found ≡ Some value → value_at w nodes id ≡ value
  by_node None is other = absurd (none-some value other)
  by_node (Some node) is other = value_of_node w nodes id node value is other

-- ---- a literal

abbrev pub no_lit : Lit
no_lit = record { var = 0; positive = false }

-- the only literal of a term of one bit
pub one_literal : (lits : List Lit) → length lits ≡ 1 → lits ≡ slice_index_or lits 0 no_lit ∷ []
one_literal [] e = absurd (omega (arith, e))
one_literal (l ∷ []) e = refl
one_literal (l ∷ k ∷ more) e = absurd (omega (arith, e))

bit_test : (b : Bool) (n : ℕ) → bit_of b ≡ n → b ≡ nat_eq n 1
bit_test true n e = ap (λ (m : ℕ). nat_eq m 1) e
bit_test false n e = ap (λ (m : ℕ). nat_eq m 1) e

pub literal_test : (w : Assignment) (lits : List Lit) (n : ℕ) → length lits ≡ 1 → number_of w lits ≡ n → literal_value w (slice_index_or lits 0 no_lit) ≡ nat_eq n 1
literal_test w lits n one e =
    let l = slice_index_or lits 0 no_lit in
    let sum : bit_of (literal_value w l) ≡ bit_of (literal_value w l) + 2 * 0 = omega arith in
    bit_test (literal_value w l) n (sum ∙ ap (number_of w) (sym (one_literal lits one)) ∙ e)

pub first_listed : (lits : List Lit) → length lits ≡ 1 → Contains lits (slice_index_or lits 0 no_lit)
first_listed lits one = subst (λ (xs : List Lit). Contains xs (slice_index_or lits 0 no_lit)) (sym (one_literal lits one)) (Contains-head (slice_index_or lits 0 no_lit) [])

decided_literal : (v : Partial) (l : Lit) → Decides v l → (b : Bool) × IsDecided v (order_lit.Is l) b
decided_literal v l decided = given_from_value v l decided

-- ---- a test

constant_test : (w : Assignment) (b : Bool) → spelled w (if b then order_lit.Always else order_lit.Never) ≡ b
constant_test w true = refl
constant_test w false = refl

abbrev is_always : OrderLit → Bool
is_always order_lit.Always = true
is_always order_lit.Never = false
is_always (order_lit.Is l) = false

abbrev is_never : OrderLit → Bool
is_never order_lit.Always = false
is_never order_lit.Never = true
is_never (order_lit.Is l) = false

constant_known : (vars : ℕ) (b : Bool) → IsKnownOrder vars (if b then order_lit.Always else order_lit.Never)
constant_known vars true l e = absurd (false≢true (sym (ap is_always e)))
constant_known vars false l e = absurd (false≢true (sym (ap is_never e)))

same_literal : (l k : Lit) → order_lit.Is l ≡ order_lit.Is k → l ≡ k
same_literal l k e = cc

literal_known : (vars : ℕ) (l : Lit) → l.var < vars → IsKnownOrder vars (order_lit.Is l)
literal_known vars l less k e = subst (λ (x : Lit). x.var < vars) (same_literal l k e) less

constant_decided : (v : Partial) (b : Bool) → (a : Bool) × IsDecided v (if b then order_lit.Always else order_lit.Never) a
constant_decided v true = (true, refl)
constant_decided v false = (false, refl)

pub tests_are_conditions : (encoder : Encoder) (id : ℕ) (test : OrderLit) → IsKnown encoder → width_at encoder.pool id ≡ 1 → IsTest encoder id test
    → IsCondition encoder (id ∷ []) (λ t. nat_eq (value_at t encoder.pool id) 1) test
tests_are_conditions encoder id test known bit is = by_constant (constant_at encoder.pool id) refl where
  by_constant : (constant : Option ℕ) → constant_at encoder.pool id ≡ constant → IsCondition encoder (id ∷ []) (λ t. nat_eq (value_at t encoder.pool id) 1) test
  by_constant (Some value) e =
      let same : test ≡ (if nat_eq value 1 then order_lit.Always else order_lit.Never) = is.is ∙ ap (λ (o : Option ℕ). test_of o (lits_at encoder.blaster.terms id)) e in record {
        known = subst (IsKnownOrder encoder.clauses.vars) (sym same) (constant_known encoder.clauses.vars (nat_eq value 1));
        tells = λ (w : Assignment) (t : TermAssignment) (s : Spells encoder t w).
            ap (spelled w) same ∙ constant_test w (nat_eq value 1) ∙ ap (λ (n : ℕ). nat_eq n 1) (sym (constant_value t encoder.pool id value e));
        decided = λ (v : Partial) (rest : AllAtRest v encoder.clauses.clauses) (all : AllVariablesDecided encoder v (id ∷ [])).
            subst (λ (o : OrderLit). (b : Bool) × IsDecided v o b) (sym same) (constant_decided v (nat_eq value 1));
      }
  by_constant None e =
      let lits = lits_at encoder.blaster.terms id in
      let has : HasBits encoder.blaster encoder.pool encoder.clauses id = known.terms id (is.built e) in
      let one : length lits ≡ 1 = has.count ∙ bit in
      let l = slice_index_or lits 0 no_lit in
      let same : test ≡ order_lit.Is l = is.is ∙ ap (λ (o : Option ℕ). test_of o lits) e in record {
        known = subst (IsKnownOrder encoder.clauses.vars) (sym same) (literal_known encoder.clauses.vars l (All-contains (λ (k : Lit). k.var < encoder.clauses.vars) lits l has.known (first_listed lits one)));
        tells = λ (w : Assignment) (t : TermAssignment) (s : Spells encoder t w).
            ap (spelled w) same ∙ literal_test w lits (value_at t encoder.pool id) one (has.value w t s.satisfies s.agrees);
        decided = λ (v : Partial) (rest : AllAtRest v encoder.clauses.clauses) (all : AllVariablesDecided encoder v (id ∷ [])).
            subst (λ (o : OrderLit). (b : Bool) × IsDecided v o b) (sym same)
            (decided_literal v l (All-contains (Decides v) lits l (has.decided v rest (all id (Contains-head id []))) (first_listed lits one)));
      }
