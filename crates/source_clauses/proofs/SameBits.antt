-- Where the clauses of two bits say that they are the same.
use Rattle.std.proofs.Common.{◌≡◌, ℕ, ◌<◌, ◌⊎◌, Bool, true, false, List, [], ◌∷◌, length, sym, ◌∙◌, subst, inl, inr}
use Rattle.std.specs.Prelude.{Contains}
use Rattle.std.proofs.lemmas.List.Elements.{All-contains, All-append, Contains-append_right}
use Rattle.clause_store.specs.declared.lit.Lit.{Lit}
use Rattle.clause_store.specs.Literals.{Assignment, opposite, literal_value, IsTrueUnder, Satisfies}
use Rattle.clause_store.specs.UnitRule.{Partial, IsGiven, IsAtRest, AllAtRest}
use Rattle.clause_store.specs.Formula.{Formula}
use Rattle.clause_store.proofs.Members.{Contains-head, Contains-tail, Contains-cons_cases, All-from_contains}
use Rattle.clause_store.proofs.Rest.{decided, rest-decided, given-decided, given-opposite, one_value, last_of_two}
use Rattle.clause_store.proofs.Rooting.{given_from_value, value_from_given}
use Rattle.order_clauses.specs.Clauses.{Adds}
use Rattle.order_clauses.proofs.Added.{adds_grows}
use Rattle.source_clauses.specs.Sees.{bit_at}
use Rattle.source_clauses.specs.Same.{same_bit, SameClause, AreSame, AddsSame}
use Rattle.source_clauses.proofs.Conditional.{two_true, sole, true_of_opposite}
use Rattle.source_clauses.proofs.Sound.{not_value}

has_same : (old new : Formula) (bits read : List Lit) → Adds old new (SameClause bits read) → (b : ℕ) → b < length read → (k : List Lit)
    → Contains (same_bit (bit_at bits b) (bit_at read b)) k → Contains new.clauses k
has_same old new bits read adds b b_in k listed =
    subst (λ (cs : List (List Lit)). Contains cs k) (sym adds.clauses)
    (Contains-append_right old.clauses adds.more k (adds.each k (record { at = b; within = b_in; kind = listed })))

-- a bit's value is the other's
same_given : (old new : Formula) (bits read : List Lit) → Adds old new (SameClause bits read) → (v : Partial) → AllAtRest v new.clauses
    → (b : ℕ) → b < length read → (p : Bool) → IsGiven v (bit_at bits b) p → IsGiven v (bit_at read b) p
same_given old new bits read adds v rest b b_in true g =
    last_of_two v (opposite (bit_at bits b)) (bit_at read b)
    (All-contains (IsAtRest v) new.clauses (opposite (bit_at bits b) ∷ bit_at read b ∷ []) rest
    (has_same old new bits read adds b b_in (opposite (bit_at bits b) ∷ bit_at read b ∷ [])
    (Contains-head (opposite (bit_at bits b) ∷ bit_at read b ∷ []) ((bit_at bits b ∷ opposite (bit_at read b) ∷ []) ∷ []))))
    (given-opposite v (bit_at bits b) true g)
same_given old new bits read adds v rest b b_in false g =
    last_of_two v (bit_at bits b) (opposite (bit_at read b))
    (All-contains (IsAtRest v) new.clauses (bit_at bits b ∷ opposite (bit_at read b) ∷ []) rest
    (has_same old new bits read adds b b_in (bit_at bits b ∷ opposite (bit_at read b) ∷ [])
    (Contains-tail (opposite (bit_at bits b) ∷ bit_at read b ∷ []) ((bit_at bits b ∷ opposite (bit_at read b) ∷ []) ∷ [])
    (bit_at bits b ∷ opposite (bit_at read b) ∷ []) (Contains-head (bit_at bits b ∷ opposite (bit_at read b) ∷ []) []))))
    g

same_true : (w : Assignment) (bit read : Lit) → literal_value w read ≡ literal_value w bit → (k : List Lit) → Contains (same_bit bit read) k → IsTrueUnder w k
same_true w bit read e k listed = by_clause (Contains-cons_cases (opposite bit ∷ read ∷ []) ((bit ∷ opposite read ∷ []) ∷ []) k listed)
  where
    by_clause : ((opposite bit ∷ read ∷ []) ≡ k) ⊎ Contains ((bit ∷ opposite read ∷ []) ∷ []) k → IsTrueUnder w k
    by_clause (inl same) =
        subst (λ (c : List Lit). IsTrueUnder w c) same (two_true w (opposite bit) read (λ f. e ∙ true_of_opposite w bit f))
    by_clause (inr rest) = sole w (bit ∷ opposite read ∷ []) (two_true w bit (opposite read) (λ f. not_value w read (e ∙ f))) k rest

pub same_added : (old new : Formula) (bits read : List Lit) → Adds old new (SameClause bits read) → AddsSame old new bits read
same_added old new bits read adds =
    record {
      grows = adds_grows old new (SameClause bits read) adds;
      vars = adds.vars;
      sound =
          λ w sat b b_in.
          one_value (decided w) (bit_at read b) (literal_value w (bit_at read b)) (literal_value w (bit_at bits b)) (given-decided w (bit_at read b))
          (same_given old new bits read adds (decided w) (rest-decided w new.clauses sat) b b_in (literal_value w (bit_at bits b)) (given-decided w (bit_at bits b)));
      complete =
          λ w sat same.
          subst (λ (cs : List (List Lit)). Satisfies w cs) (sym adds.clauses)
          (All-append (IsTrueUnder w) old.clauses adds.more sat
          (All-from_contains (IsTrueUnder w) adds.more (λ k listed. of_kind w same k (adds.only k listed))));
      reads =
          λ v rest b b_in some.
          let given = given_from_value v (bit_at bits b) some in
          value_from_given v (bit_at read b) given.0 (same_given old new bits read adds v rest b b_in given.0 given.1);
    }
  where
    of_kind : (w : Assignment) → AreSame w bits read → (k : List Lit) → SameClause bits read k → IsTrueUnder w k
    of_kind w same k kind = same_true w (bit_at bits kind.at) (bit_at read kind.at) (same kind.at kind.within) k kind.kind
