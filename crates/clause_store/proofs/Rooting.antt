-- Literals that some variables decide.
use Rattle.std.proofs.Common.{◌⊎◌, Bool, true, false, Option, sym, ◌∙◌, ap, inl, inr}
use Rattle.std.specs.Prelude.{IsSome, is_some}
use Rattle.std.proofs.lemmas.Bool.{false≢true}
use Rattle.std.proofs.lemmas.List.Elements.{All-contains}
use Rattle.clause_store.specs.declared.lit.Lit.{Lit}
use Rattle.clause_store.specs.UnitRule.{Partial, MakesTrue, MakesFalse, LeavesOpen, IsGiven}
use Rattle.clause_store.specs.Rooted.{RootsAreRooted, RootedStays}
use Rattle.clause_store.proofs.Growth.{older_at_rest}
use Rattle.clause_store.proofs.Rest.{lit_cases}

pub given_from_value : (v : Partial) (l : Lit) → IsSome (v l.var) → (b : Bool) × IsGiven v l b
given_from_value v l some = go (lit_cases v l)
  where
    go : MakesTrue v l ⊎ MakesFalse v l ⊎ LeavesOpen v l → (b : Bool) × IsGiven v l b
    go (inl t) = (true, t)
    go (inr (inl f)) = (false, f)
    go (inr (inr o)) = absurd (false≢true (ap (λ (x : Option Bool). is_some x) (sym o) ∙ some))

pub value_from_given : (v : Partial) (l : Lit) (b : Bool) → IsGiven v l b → IsSome (v l.var)
value_from_given v l true g = ap (λ (x : Option Bool). is_some x) g
value_from_given v l false g = ap (λ (x : Option Bool). is_some x) g

pub roots : RootsAreRooted
roots clauses of l listed v rest values = All-contains (λ x. IsSome (v x)) of l.var values listed

pub rooted_stays : RootedStays
rooted_stays old new of l grows rooted v rest values = rooted v (older_at_rest old new v grows rest) values
