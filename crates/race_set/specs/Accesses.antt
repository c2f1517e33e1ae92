-- Lists of accesses of a log.
use Rattle.std.specs.Prelude.{◌≡◌, ◌≢◌, ℕ, ◌<◌, false, List, length, get_or, None, All, AllPairs}
use Rattle.odr_log.specs.declared.log.Log.{Log}
use Rattle.odr_log.specs.declared.log.Pos.{Pos}
use Rattle.rv_model.specs.RecordedOrder.{Counted}
use Rattle.race_set.specs.declared.shape.AccessShape.{AccessShape}

-- the access with a number
abbrev pub shape_at : List AccessShape → ℕ → AccessShape
shape_at shapes i =
    get_or shapes i (record { pos = record { thread = 0; step = 0 }; reads = false; writes = false; place = None; link = None })

-- the log counts each of them
abbrev pub AreCounted : Log → List AccessShape → Type 0
AreCounted log shapes = All (λ x. Counted log x.pos) shapes

-- no two of them are the same step
abbrev pub AreDifferent : List AccessShape → Type 0
AreDifferent shapes = AllPairs (λ x y. x.pos ≢ y.pos) shapes

-- one step is that of an access which stands in the list before that of another
pub record IsListedBefore (shapes : List AccessShape) (p q : Pos) : Type 0 where
  pub first : ℕ
  pub second : ℕ
  pub less : first < second
  pub within : second < length shapes
  pub first_is : (shape_at shapes first).pos ≡ p
  pub second_is : (shape_at shapes second).pos ≡ q
