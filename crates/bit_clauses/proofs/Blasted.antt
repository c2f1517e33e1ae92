-- What was added for terms, one step after another.
use Rattle.std.proofs.Common.{◌≡◌, ℕ, zero, suc, ◌+◌, ◌*◌, ◌<◌, ◌≤◌, Bool, true, cond, not, Some, List, [], ◌∷◌, length, set, nat_eq, slice_get, refl, sym, ◌∙◌, ap, subst, arith, inl, inr}
use Rattle.std.specs.Prelude.{IsSome, All, Contains}
use Rattle.std.proofs.lemmas.Bool.{cases_lt, cases_eq}
use Rattle.std.proofs.lemmas.List.{get_or-set_same, get_or-set_other}
use Rattle.std.proofs.lemmas.List.Elements.{All-nil, All-push, All-contains, Contains-append_left}
use Rattle.bv_terms.specs.BitVectors.{BitVector, bit_of, bits, bin_value, bin_width, not_value, neg_value, extract_value, sign_extend_value, byte_value}
use Rattle.bv_terms.specs.Shapes.{Shape, Const, Var, Not, Neg, Bin, Extract, ZeroExtend, SignExtend, Ite, ByteSelect, children}
use Rattle.bv_terms.specs.Values.{node_value, node_width, term_at, value_at, width_at}
use Rattle.bv_terms.specs.Values.{Assignment as TermAssignment}
use Rattle.bv_terms.specs.Variables.{Occurs, Inside}
use Rattle.clause_store.specs.declared.lit.Lit.{Lit}
use Rattle.clause_store.specs.Literals.{Assignment, literal_value, Satisfies}
use Rattle.clause_store.specs.Formula.{Formula, Grows, IsKnown}
use Rattle.clause_store.specs.UnitRule.{Partial, AllAtRest}
use Rattle.clause_store.proofs.Members.{All-from_contains, Contains-head, Contains-tail}
use Rattle.bit_clauses.specs.Circuit.{Decides, DecidesAll}
use Rattle.bit_clauses.specs.Bits.{Bits, run, Agrees, VariablesDecided, IsBuilt, AreBuilt, HasBits, IsOf, KeepsBits, TermExtension, IsBlasted}
use Rattle.bit_clauses.specs.Nodes.{lits_at, AreDecided, IsOperation, vector_in, width_in, SpellsNode}
use Rattle.bit_clauses.specs.Spelled.{spelled}
use Rattle.bit_clauses.proofs.Adders.{known_later}
use Rattle.bit_clauses.proofs.Circuits.{grows_none, grows_both, satisfies_older, rests_older}

-- ---- literals of older variables

literal_agrees : (w u : Assignment) (vars : ℕ) (l : Lit) → ((x : ℕ) → x < vars → u x ≡ w x) → l.var < vars → literal_value u l ≡ literal_value w l
literal_agrees w u vars l same h = ap (λ b. cond l.positive b (not b)) (same l.var h)

pub spelled_agrees : (w u : Assignment) (vars : ℕ) (lits : List Lit) → ((x : ℕ) → x < vars → u x ≡ w x) → IsKnown vars lits → spelled u lits ≡ spelled w lits
spelled_agrees w u vars [] same known = refl
spelled_agrees w u vars (l ∷ more) same known =
    let here = literal_agrees w u vars l same (All-contains (λ (k : Lit). k.var < vars) (l ∷ more) l known (Contains-head l more)) in
    let rest = spelled_agrees w u vars more same (All-from_contains (λ (k : Lit). k.var < vars) more (λ k listed. All-contains (λ (k : Lit). k.var < vars) (l ∷ more) k known (Contains-tail l more k listed))) in
    both_parts (literal_value u l) (literal_value w l) (spelled u more) (spelled w more) here rest
  where
    both_parts : (p q : Bool) (m n : ℕ) → p ≡ q → m ≡ n → bit_of p + 2 * m ≡ bit_of q + 2 * n
    both_parts p q m n e f = ap (λ b. bit_of b + 2 * m) e ∙ ap (λ k. bit_of q + 2 * k) f

pub run_known : (first count vars : ℕ) → first + count ≤ vars → IsKnown vars (run first count)
run_known first zero vars h = All-nil (λ (l : Lit). l.var < vars)
run_known first (suc count) vars h =
    All-push (λ (l : Lit). l.var < vars) (run first count) (record { var = first + count; positive = true })
    (run_known first count vars (omega (arith, h))) (omega (arith, h))

-- ---- what is known stays known

pub agrees_older : (old new : Bits) → KeepsBits old new → (t : TermAssignment) (w : Assignment) → Agrees new t w → Agrees old t w
agrees_older old new keeps t w a width number first e = a width number first (keeps.variables width number first e)

pub decided_older : (old new : Bits) (nodes : List Shape) (id : ℕ) → KeepsBits old new → (v : Partial) → VariablesDecided new v nodes id → VariablesDecided old v nodes id
decided_older old new nodes id keeps v d width number first occurs e = d width number first occurs (keeps.variables width number first e)

pub decided_inside : (b : Bits) (nodes : List Shape) (id child : ℕ) (node : Shape) (v : Partial) → slice_get nodes id ≡ Some node → Contains (children node) child
    → VariablesDecided b v nodes id → VariablesDecided b v nodes child
decided_inside b nodes id child node v found listed d width number first occurs e = d width number first (Inside id child node found listed occurs) e

pub built_later : (old new : Bits) (id : ℕ) → KeepsBits old new → IsBuilt old id → IsBuilt new id
built_later old new id keeps h = subst (λ (l : List Lit). 0 < length l) (sym (keeps.terms id h)) h

pub bits_later : (old new : Bits) (nodes : List Shape) (f g : Formula) (id : ℕ) → KeepsBits old new → Grows f g → IsBuilt old id → HasBits old nodes f id → HasBits new nodes g id
bits_later old new nodes f g id keeps grows built has =
    let same = keeps.terms id built in
    record {
      within = has.within;
      count = ap (λ (l : List Lit). length l) same ∙ has.count;
      narrow = subst (λ (l : List Lit). length l ≤ 64) (sym same) has.narrow;
      known = subst (IsKnown g.vars) (sym same) (known_later f.vars g.vars (lits_at old.terms id) grows.vars has.known);
      value = λ w t s a. ap (spelled w) same ∙ has.value w t (satisfies_older f g grows w s) (agrees_older old new keeps t w a);
      decided = λ v r d. subst (DecidesAll v) (sym same) (has.decided v (rests_older f g grows v r) (decided_older old new nodes id keeps v d));
      below = λ node found.
          All-from_contains (IsBuilt new) (children node) (λ c listed. built_later old new c keeps (All-contains (IsBuilt old) (children node) c (has.below node found) listed));
      variable = λ width number found.
          let its = has.variable width number found in
          record { first = its.first; found = keeps.variables width number its.first its.found; literals = same ∙ its.literals };
    }

pub same_found : (a b : Shape) → Some a ≡ Some b → a ≡ b
same_found a b e = cc

pub keeps_none : (b : Bits) → KeepsBits b b
keeps_none b = record { sure = λ l e. e; variables = λ width number first e. e; terms = λ id h. refl }

pub keeps_both : (a b c : Bits) → KeepsBits a b → KeepsBits b c → KeepsBits a c
keeps_both a b c k l = record {
  sure = λ s e. l.sure s (k.sure s e);
  variables = λ width number first e. l.variables width number first (k.variables width number first e);
  terms = λ id h. l.terms id (subst (λ (x : List Lit). 0 < length x) (sym (k.terms id h)) h) ∙ k.terms id h;
}

pub blasted_none : (b : Bits) (nodes : List Shape) (f : Formula) (root : ℕ) → IsOf b nodes f → IsBlasted b b nodes f f root
blasted_none b nodes f root of = record {
  known = of;
  grows = grows_none f;
  keeps = keeps_none b;
  extends = λ w t s a. record { extended = w; agrees = λ x h. refl; satisfies = s; spells = a };
  decides = λ v r d x low high. absurd (omega arith);
}

pub blasted_both : (a b c : Bits) (nodes : List Shape) (f g h : Formula) (root : ℕ) → IsBlasted a b nodes f g root → IsBlasted b c nodes g h root → IsBlasted a c nodes f h root
blasted_both a b c nodes f g h root one two = record {
  known = two.known;
  grows = grows_both f g h one.grows two.grows;
  keeps = keeps_both a b c one.keeps two.keeps;
  extends = λ w t s e.
      let first = one.extends w t s e in
      let second = two.extends first.extended t first.satisfies first.spells in
      record {
        extended = second.extended;
        agrees = λ x k. second.agrees x (omega (arith, k, one.grows.vars)) ∙ first.agrees x k;
        satisfies = second.satisfies;
        spells = second.spells;
      };
  decides = λ v r d x low high. elim (cases_lt x g.vars) [
    | inl k ↦ one.decides v (rests_older g h two.grows v r) (decided_older b c nodes root two.keeps v d) x low k
    | inr k ↦ two.decides v r d x k high
  ];
}

-- ---- a node stands on its children alone

pub first_child : {X : Type 0} (P : X → Type 0) (x : X) (xs : List X) → All P (x ∷ xs) → P x
first_child P x xs all = All-contains P (x ∷ xs) x all (Contains-head x xs)

pub other_children : {X : Type 0} (P : X → Type 0) (x : X) (xs : List X) → All P (x ∷ xs) → All P xs
other_children P x xs all = All-from_contains P xs (λ y listed. All-contains P (x ∷ xs) y all (Contains-tail x xs y listed))

pub same_width : (p q : ℕ → ℕ) (node : Shape) → All (λ c. p c ≡ q c) (children node) → node_width p node ≡ node_width q node
same_width p q (Const width value) h = refl
same_width p q (Var width number) h = refl
same_width p q (Not of) h = first_child (λ c. p c ≡ q c) of [] h
same_width p q (Neg of) h = first_child (λ c. p c ≡ q c) of [] h
same_width p q (Bin op left right) h =
    ap (λ n. bin_width op n (p right)) (first_child (λ c. p c ≡ q c) left (right ∷ []) h)
    ∙ ap (λ n. bin_width op (q left) n) (first_child (λ c. p c ≡ q c) right [] (other_children (λ c. p c ≡ q c) left (right ∷ []) h))
same_width p q (Extract of high low) h = refl
same_width p q (ZeroExtend of width) h = refl
same_width p q (SignExtend of width) h = refl
same_width p q (Ite test first second) h =
    first_child (λ c. p c ≡ q c) first (second ∷ []) (other_children (λ c. p c ≡ q c) test (first ∷ second ∷ []) h)
same_width p q (ByteSelect first bytes index) h = refl

pub same_value : (t : TermAssignment) (p q : ℕ → BitVector) (node : Shape) → All (λ c. p c ≡ q c) (children node) → node_value t p node ≡ node_value t q node
same_value t p q (Const width value) h = refl
same_value t p q (Var width number) h = refl
same_value t p q (Not of) h = ap not_value (first_child (λ c. p c ≡ q c) of [] h)
same_value t p q (Neg of) h = ap neg_value (first_child (λ c. p c ≡ q c) of [] h)
same_value t p q (Bin op left right) h =
    ap (λ a. bin_value op a (p right)) (first_child (λ c. p c ≡ q c) left (right ∷ []) h)
    ∙ ap (λ b. bin_value op (q left) b) (first_child (λ c. p c ≡ q c) right [] (other_children (λ c. p c ≡ q c) left (right ∷ []) h))
same_value t p q (Extract of high low) h = ap (λ a. extract_value a high low) (first_child (λ c. p c ≡ q c) of [] h)
same_value t p q (ZeroExtend of width) h = ap (λ (a : BitVector). a.value) (first_child (λ c. p c ≡ q c) of [] h)
same_value t p q (SignExtend of width) h = ap (λ a. sign_extend_value a width) (first_child (λ c. p c ≡ q c) of [] h)
same_value t p q (Ite test first second) h =
    let more = other_children (λ c. p c ≡ q c) test (first ∷ second ∷ []) h in
    ap (λ (a : BitVector). cond (nat_eq a.value 1) (p first).value (p second).value) (first_child (λ c. p c ≡ q c) test (first ∷ second ∷ []) h)
    ∙ ap (λ (a : BitVector). cond (nat_eq (q test).value 1) a.value (p second).value) (first_child (λ c. p c ≡ q c) first (second ∷ []) more)
    ∙ ap (λ (a : BitVector). cond (nat_eq (q test).value 1) (q first).value a.value) (first_child (λ c. p c ≡ q c) second [] (other_children (λ c. p c ≡ q c) first (second ∷ []) more))
same_value t p q (ByteSelect first bytes index) h = ap (λ (a : BitVector). byte_value first bytes a.value) (first_child (λ c. p c ≡ q c) index [] h)

-- ---- the literals of one term more

abbrev pub with_term : Bits → ℕ → List Lit → Bits
with_term b id out = record b { terms = set b.terms id out }

keeps_term : (b : Bits) (id : ℕ) (out : List Lit) → length (lits_at b.terms id) ≡ 0 → KeepsBits b (with_term b id out)
keeps_term b id out free = record {
  sure = λ l e. e;
  variables = λ width number first e. e;
  terms = λ j built. get_or-set_other b.terms id j out [] (λ (e : j ≡ id). omega (arith, built, ap (λ n. length (lits_at b.terms n)) e, free));
}

-- one term more, by what is known of its literals
pub term_more : (b : Bits) (nodes : List Shape) (f g : Formula) (id root : ℕ) (out : List Lit) → IsOf b nodes f → Grows f g → id < length b.terms → length (lits_at b.terms id) ≡ 0
    → HasBits (with_term b id out) nodes g id
    → ((w : Assignment) (t : TermAssignment) → Satisfies w f.clauses → Agrees b t w → TermExtension b t f.vars w g.clauses)
    → ((v : Partial) → AllAtRest v g.clauses → VariablesDecided b v nodes root → (x : ℕ) → f.vars ≤ x → x < g.vars → IsSome (v x))
    → IsBlasted b (with_term b id out) nodes f g root
term_more b nodes f g id root out of grows room free has extends decides =
    let keeps = keeps_term b id out free in
    record {
      known = record {
        sure = λ l e. record {
          known = omega (arith, (of.sure l e).known, grows.vars);
          clause = subst (λ (cs : List (List Lit)). Contains cs (l ∷ [])) (sym grows.clauses) (Contains-append_left f.clauses grows.more (l ∷ []) (of.sure l e).clause);
        };
        variables = λ width number first e. omega (arith, of.variables width number first e, grows.vars);
        terms = λ j built. elim (cases_eq j id) [
          | inl e ↦ subst (λ n. HasBits (with_term b id out) nodes g n) (sym e) has
          | inr other ↦
              let before : IsBuilt b j = subst (λ (l : List Lit). 0 < length l) (get_or-set_other b.terms id j out [] other) built in
              bits_later b (with_term b id out) nodes f g j keeps grows before (of.terms j before)
        ];
      };
      grows = grows;
      keeps = keeps;
      extends = λ w t s a.
          let e = extends w t s a in
          record { extended = e.extended; agrees = e.agrees; satisfies = e.satisfies; spells = e.spells };
      decides = decides;
    }

-- the literals of a node that is no variable
pub operation_more : (b : Bits) (nodes : List Shape) (f g : Formula) (id root : ℕ) (node : Shape) (sure : Lit) (out : List Lit)
    → IsOf b nodes f → b.sure ≡ Some sure → id < length nodes → id < length b.terms → length (lits_at b.terms id) ≡ 0
    → slice_get nodes id ≡ Some node → IsOperation node → width_at nodes id ≡ node_width (width_at nodes) node → width_at nodes id ≤ 64
    → ((t : TermAssignment) → value_at t nodes id ≡ node_value t (term_at t nodes) node)
    → AreBuilt b node → ((width number : ℕ) → Occurs nodes width number id → Occurs nodes width number root)
    → SpellsNode f g b.terms sure node out
    → ((w : Assignment) → Satisfies w g.clauses → literal_value w sure ≡ true) → ((v : Partial) → AllAtRest v g.clauses → Decides v sure)
    → TermAssignment
    → IsBlasted b (with_term b id out) nodes f g root
operation_more b nodes f g id root node sure out of is_sure within room free found operation width narrow value built inside spells surely decided any =
    let grows = (spells any).circuit.grows in
    let keeps = keeps_term b id out free in
    let here : lits_at (set b.terms id out) id ≡ out = get_or-set_same b.terms id out [] room in
    let total : length (lits_at (set b.terms id out) id) ≡ width_at nodes id =
    ap (λ (l : List Lit). length l) here ∙ (spells any).count
    ∙ same_width (width_in b.terms) (width_at nodes) node (All-from_contains (λ c. width_in b.terms c ≡ width_at nodes c) (children node) (λ c listed. (of.terms c (All-contains (IsBuilt b) (children node) c built listed)).count)) ∙ sym width in
    let has : (c : ℕ) → Contains (children node) c → HasBits b nodes f c = λ c listed. of.terms c (All-contains (IsBuilt b) (children node) c built listed) in
    let given : (v : Partial) → AllAtRest v g.clauses → VariablesDecided b v nodes id → AreDecided b.terms v node =
    λ v r d. All-from_contains (λ c. DecidesAll v (lits_at b.terms c)) (children node) (λ c listed. (has c listed).decided v (rests_older f g grows v r) (decided_inside b nodes id c node v found listed d)) in
    let at_root : (v : Partial) → VariablesDecided b v nodes root → VariablesDecided b v nodes id = λ v d w n first occurs e. d w n first (inside w n occurs) e in
    term_more b nodes f g id root out of grows room free
    (record {
      within = within;
      count = total;
      narrow = omega (arith, total, narrow);
      known = subst (IsKnown g.vars) (sym here) (spells any).known;
      value = λ w t s a.
          let old = satisfies_older f g grows w s in
          ap (spelled w) here ∙ (spells t).circuit.means w s (surely w s)
          ∙ same_value t (vector_in b.terms w) (term_at t nodes) node
          (All-from_contains (λ c. vector_in b.terms w c ≡ term_at t nodes c) (children node)
          (λ c listed. ap (λ n. bits n (spelled w (lits_at b.terms c))) (has c listed).count ∙ ap (λ n. bits (width_at nodes c) n) ((has c listed).value w t old a)))
          ∙ sym (value t);
      decided = λ v r d. subst (DecidesAll v) (sym here) ((spells any).circuit.gives v r (given v r d, decided v r));
      below = λ other at.
          All-from_contains (IsBuilt (with_term b id out)) (children other) (λ c listed.
          built_later b (with_term b id out) c keeps (All-contains (IsBuilt b) (children node) c built (subst (λ n. Contains (children n) c) (same_found other node (sym at ∙ found)) listed)));
      variable = λ w n at. absurd (subst IsOperation (same_found node (Var w n) (sym found ∙ at)) operation);
    })
    (λ w t s a.
    let e = (spells any).circuit.extends w s in
    record {
      extended = e.extended;
      agrees = e.agrees;
      satisfies = e.satisfies;
      spells = λ n k first found_first. spelled_agrees w e.extended f.vars (run first n) e.agrees (run_known first n f.vars (of.variables n k first found_first)) ∙ a n k first found_first;
    })
    (λ v r d. (spells any).circuit.decides v r (given v r (at_root v d), decided v r))
