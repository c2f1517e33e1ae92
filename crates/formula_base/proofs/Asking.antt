-- Steps of accesses, found one after another.
use Rattle.std.specs.Prelude.{◌≡◌, ℕ, ◌+◌, ◌<◌, Bool, List, [], ◌∷◌, ◌++◌, length, MatchOption, Option, Some, None, if◌then◌else◌}
use Rattle.std.proofs.Common.{sym, subst}
use Rattle.odr_log.specs.declared.log.Pos.{Pos}
use Rattle.race_set.specs.declared.shape.AccessShape.{AccessShape}
use Rattle.race_set.specs.Accesses.{shape_at}
use Rattle.race_set.specs.Needs.{AreNeeded}
use Rattle.race_set.proofs.Kept.{needed_more}

pub one_more : (shapes : List AccessShape) (test : ℕ → Bool) (k : ℕ) (item : Option Pos) (p : Pos) (old new : List Pos) → k < length shapes
    → item ≡ (if test k then Some (shape_at shapes k).pos else None) → item ≡ Some p → new ≡ old ++ p ∷ []
    → AreNeeded shapes test k old → AreNeeded shapes test (k + 1) new
one_more shapes test k item p old new within e is pushed =
    needed_more shapes test k item old new within e (subst (λ (o : Option Pos). MatchOption o (new ≡ old) (λ q. new ≡ old ++ q ∷ [])) (sym is) pushed)

pub none_more : (shapes : List AccessShape) (test : ℕ → Bool) (k : ℕ) (item : Option Pos) (old new : List Pos) → k < length shapes
    → item ≡ (if test k then Some (shape_at shapes k).pos else None) → item ≡ None → new ≡ old
    → AreNeeded shapes test k old → AreNeeded shapes test (k + 1) new
none_more shapes test k item old new within e is same =
    needed_more shapes test k item old new within e (subst (λ (o : Option Pos). MatchOption o (new ≡ old) (λ q. new ≡ old ++ q ∷ [])) (sym is) same)
