-- Clauses loaded one after the other.
use Rattle.std.proofs.Common.{◌≡◌, ℕ, ◌+◌, Option, Some, List, [], ◌∷◌, ◌++◌, take, slice_get, sym, ◌∙◌, ap, subst, add-one, append_assoc}
use Rattle.std.specs.Prelude.{Contains}
use Rattle.std.proofs.lemmas.List.Elements.{All-contains, All-nil}
use Rattle.clause_store.specs.declared.lit.Lit.{Lit}
use Rattle.clause_store.specs.UnitRule.{MakesFalse, IsAtRest, Follows}
use Rattle.clause_store.proofs.Rest.{rest-not_false}
use Rattle.sat_trail.specs.Watching.{Watched}
use Rattle.sat_trail.specs.Loading.{IsHolding, IsAdded}
use Rattle.sat_trail.proofs.Listing.{take-more_get}

pub holding-more : (old w : Watched) (clauses : List (List Lit)) (at : ℕ) (clause : List Lit) (more : Option Watched) (new : Watched) → IsHolding old w (old.clauses ++ take at clauses) → slice_get clauses at ≡ Some clause
    → IsAdded w clause more → more ≡ Some new → IsHolding old new (old.clauses ++ take (at + 1) clauses)
holding-more old w clauses at clause more new before found added is =
    let here : IsHolding w new (w.clauses ++ clause ∷ []) = subst (λ (o : Option Watched). IsAdded w clause o) is added in
    record {
      same_vars = here.same_vars ∙ before.same_vars;
      holds =
          here.holds ∙ ap (λ (cs : List (List Lit)). cs ++ clause ∷ []) before.holds ∙ append_assoc old.clauses (take at clauses) (clause ∷ [])
          ∙ ap (λ (cs : List (List Lit)). old.clauses ++ cs) (sym (take-more_get clauses at clause found))
          ∙ ap (λ (n : ℕ). old.clauses ++ take n clauses) (sym (add-one at));
    }

-- with an empty clause everything follows
pub empty-follows : (clauses : List (List Lit)) → Contains clauses [] → Follows clauses []
empty-follows clauses listed v line rest = rest-not_false v [] (All-contains (IsAtRest v) clauses [] rest listed) (All-nil (MakesFalse v))
