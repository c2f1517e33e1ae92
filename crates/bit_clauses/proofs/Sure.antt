-- A literal that a clause of one literal makes true, and what more terms keep.
use Rattle.std.proofs.Common.{◌≡◌, ℕ, ◌+◌, ◌<◌, true, false, cond, not, Some, None, List, [], ◌∷◌, ◌++◌, nat_lt, Option, refl, sym, ◌∙◌, ap, subst, arith, inl, inr}
use Rattle.std.specs.Prelude.{IsSome, Contains}
use Rattle.std.proofs.lemmas.Bool.Decides.{nat_tests}
use Rattle.std.proofs.lemmas.Option.{none-some, same_Some, slice_get_within}
use Rattle.std.proofs.lemmas.List.Elements.{All-push, All-contains, Contains-append_left, Contains-append_right}
use Rattle.bv_terms.specs.Shapes.{Shape, Var, children}
use Rattle.bv_terms.specs.Values.{KeepsTerms}
use Rattle.bv_terms.specs.Variables.{Occurs, Here, Inside}
use Rattle.clause_store.specs.declared.lit.Lit.{Lit}
use Rattle.clause_store.specs.Literals.{Assignment, literal_value, IsTrueUnder, Satisfies}
use Rattle.clause_store.specs.Formula.{Formula, Grows, AllKnown}
use Rattle.clause_store.specs.Laws.{SatisfiedAlike}
use Rattle.clause_store.specs.UnitRule.{Partial, MakesTrue, IsAtRest, AllAtRest}
use Rattle.clause_store.proofs.Members.{Contains-head, Contains-nil, Contains-cons_cases, Any-from_contains}
use Rattle.bit_clauses.specs.Bits.{Bits, run, first_of, IsBuilt, IsOf, IsSure, KeepsBits, IsBlasted}
use Rattle.bit_clauses.specs.Circuit.{Decides}
use Rattle.bit_clauses.proofs.Blasted.{bits_later, keeps_none, spelled_agrees, run_known}

only_one : (l k : Lit) → Contains (l ∷ []) k → l ≡ k
only_one l k listed = elim (Contains-cons_cases l [] k listed) [ inl e ↦ e | inr h ↦ absurd (Contains-nil k h) ]

pub sure_true : (f : Formula) (sure : Lit) → IsSure f sure → (w : Assignment) → Satisfies w f.clauses → literal_value w sure ≡ true
sure_true f sure is w s =
    let some = All-contains (IsTrueUnder w) f.clauses (sure ∷ []) s is.clause in
    subst (λ (l : Lit). literal_value w l ≡ true) (sym (only_one sure some.1 (some.0, some.2, some.3))) some.4

pub sure_decided : (f : Formula) (sure : Lit) → IsSure f sure → (v : Partial) → AllAtRest v f.clauses → Decides v sure
sure_decided f sure is v r = elim (All-contains (IsAtRest v) f.clauses (sure ∷ []) r is.clause) [
  | inl some ↦
      let made : MakesTrue v sure = subst (MakesTrue v) (sym (only_one sure some.1 (some.0, some.2, some.3))) some.4 in
      subst IsSome (sym made) refl
  | inr two ↦ absurd (two.differ (sym (only_one sure two.one two.one_listed) ∙ only_one sure two.other two.other_listed))
]

pub sure_later : (f g : Formula) (sure : Lit) → Grows f g → IsSure f sure → IsSure g sure
sure_later f g sure grows is = record {
  known = omega (arith, is.known, grows.vars);
  clause = subst (λ (cs : List (List Lit)). Contains cs (sure ∷ [])) (sym grows.clauses) (Contains-append_left f.clauses grows.more (sure ∷ []) is.clause);
}

abbrev pub with_sure : Bits → Lit → Bits
with_sure b l = record b { sure = Some l }

abbrev pub one_clause : Formula → Lit → Formula
one_clause f l = record { vars = f.vars + 1; clauses = f.clauses ++ (l ∷ []) ∷ [] }

abbrev raised : Assignment → ℕ → Assignment
raised w vars = λ x. cond (nat_lt x vars) (w x) true

raised_older : (w : Assignment) (vars x : ℕ) → x < vars → raised w vars x ≡ w x
raised_older w vars x h =
    let e : nat_lt x vars ≡ true = grind (arith, nat_tests, h) in
    ap (λ b. cond b (w x) true) e

raised_new : (w : Assignment) (vars : ℕ) → raised w vars vars ≡ true
raised_new w vars =
    let e : nat_lt vars vars ≡ false = grind (arith, nat_tests) in
    ap (λ b. cond b (w vars) true) e

pub sure_new : (b : Bits) (nodes : List Shape) (f : Formula) (root : ℕ) (l : Lit) → SatisfiedAlike → AllKnown f → IsOf b nodes f → b.sure ≡ None → l.var ≡ f.vars → l.positive ≡ true
    → IsBlasted b (with_sure b l) nodes f (one_clause f l) root
sure_new b nodes f root l alike all_known of free at positive =
    let g = one_clause f l in
    let keeps : KeepsBits b (with_sure b l) = record { sure = λ k e. absurd (none-some k (sym free ∙ e)); variables = λ w n first e. e; terms = λ id h. refl } in
    let grows : Grows f g = record { vars = omega arith; more = (l ∷ []) ∷ []; clauses = refl } in
    let is : IsSure g l = record { known = omega (arith, at); clause = Contains-append_right f.clauses ((l ∷ []) ∷ []) (l ∷ []) (Contains-head (l ∷ []) []) } in
    record {
      known = record {
        sure = λ k e. subst (IsSure g) (same_Some l k e) is;
        variables = λ w n first e. omega (arith, of.variables w n first e);
        terms = λ id built. bits_later b (with_sure b l) nodes f g id keeps grows built (of.terms id built);
      };
      grows = grows;
      keeps = keeps;
      extends = λ w t s a.
          let u = raised w f.vars in
          let older : (y : ℕ) → y < f.vars → u y ≡ w y = λ y h. raised_older w f.vars y h in
          let here : literal_value u l ≡ true = ap (λ b. cond b (u l.var) (not (u l.var))) positive ∙ ap u at ∙ raised_new w f.vars in
          record {
            extended = u;
            agrees = older;
            satisfies = All-push (IsTrueUnder u) f.clauses (l ∷ []) (alike f w u all_known older s) (Any-from_contains (λ k. literal_value u k ≡ true) (l ∷ []) l (Contains-head l []) here);
            spells = λ n k first e. spelled_agrees w u f.vars (run first n) older (run_known first n f.vars (of.variables n k first e)) ∙ a n k first e;
          };
      decides = λ v r d x low high.
          let last : l.var ≡ x = omega (arith, at, low, high) in
          subst (λ n. IsSome (v n)) last (sure_decided g l is v r);
    }

-- ---- further terms and clauses keep what is known

occurs_later : (nodes more : List Shape) (width number id : ℕ) → KeepsTerms nodes more → Occurs nodes width number id → Occurs more width number id
occurs_later nodes more width number at keeps (Here id found) = Here id (keeps.node id (slice_get_within nodes id (Var width number) found) ∙ found)
occurs_later nodes more width number at keeps (Inside id child node found listed o) =
    Inside id child node (keeps.node id (slice_get_within nodes id node found) ∙ found) listed (occurs_later nodes more width number child keeps o)

pub known_later : (b : Bits) (nodes more : List Shape) (f g : Formula) → KeepsTerms nodes more → Grows f g → IsOf b nodes f → IsOf b more g
known_later b nodes more f g keeps grows of = record {
  sure = λ l e. sure_later f g l grows (of.sure l e);
  variables = λ w n first e. omega (arith, of.variables w n first e, grows.vars);
  terms = λ id built.
      let has = bits_later b b nodes f g id (keeps_none b) grows built (of.terms id built) in
      record {
        within = omega (arith, has.within, keeps.grows);
        count = has.count ∙ sym (keeps.width id has.within);
        narrow = has.narrow;
        known = has.known;
        value = λ w t s a. has.value w t s a ∙ sym (keeps.value t id has.within);
        decided = λ v r d. has.decided v r (λ w n first o e. d w n first (occurs_later nodes more w n id keeps o) e);
        below = λ node at. has.below node (sym (keeps.node id has.within) ∙ at);
        variable = λ w n at. has.variable w n (sym (keeps.node id has.within) ∙ at);
      };
}

pub nothing_known : (nodes : List Shape) (f : Formula) → IsOf (record { sure = None; variables = []; terms = [] }) nodes f
nothing_known nodes f = record {
  sure = λ l e. absurd (none-some l e);
  variables = λ width number first e. absurd (none-some first e);
  terms = λ id built. absurd (nothing id built);
}
  where
    nothing : (id : ℕ) → IsBuilt (record { sure = None; variables = []; terms = [] }) id → ⊥
    nothing id built = omega (arith, built)

-- ---- variables

pub variables_built : (b : Bits) (nodes : List Shape) (f : Formula) (width number id : ℕ) → IsOf b nodes f → IsBuilt b id → Occurs nodes width number id
    → IsSome (first_of b.variables width number)
variables_built b nodes f width number at of built (Here id found) =
    let its = (of.terms id built).variable width number found in
    subst (λ (x : Option ℕ). IsSome x) (sym its.found) refl
variables_built b nodes f width number at of built (Inside id child node found listed o) =
    variables_built b nodes f width number child of (All-contains (IsBuilt b) (children node) child ((of.terms id built).below node found) listed) o
