-- What a read byte comes from in one run: in one order of the accesses, with some of the writes that may take place.
use Rattle.std.specs.Prelude.{◌≡◌, ◌≢◌, ◌⊎◌, Bool, true, false, ℕ, List, Option, Some, None, Contains}
use Rattle.odr_log.specs.declared.log.Log.{Log}
use Rattle.odr_log.specs.declared.log.Pos.{Pos}
use Rattle.rv_model.specs.RecordedOrder.{RecordedOrder}
use Rattle.race_set.specs.declared.shape.AccessShape.{AccessShape}
use Rattle.race_set.specs.Bytes.{may_write, surely_writes}

-- the step of an access
pub record IsAccess (shapes : List AccessShape) (p : Pos) : Type 0 where
  pub access : AccessShape
  pub listed : Contains shapes access
  pub is : access.pos ≡ p

-- a strict total order of the accesses that agrees with the recorded order
pub record IsTotal (log : Log) (shapes : List AccessShape) (before : Pos → Pos → Bool) : Type 0 where
  pub irreflexive : (p : Pos) → IsAccess shapes p → before p p ≡ false
  pub transitive : (p q r : Pos) → IsAccess shapes p → IsAccess shapes q → IsAccess shapes r
      → before p q ≡ true → before q r ≡ true → before p r ≡ true
  pub total : (p q : Pos) → IsAccess shapes p → IsAccess shapes q → p ≢ q → (before p q ≡ true) ⊎ (before q p ≡ true)
  pub agrees : (p q : Pos) → IsAccess shapes p → IsAccess shapes q → RecordedOrder log p q → before p q ≡ true

-- Which accesses write a byte: all that surely do and any of those that may. A linked store-conditional may fail, and an
-- access without a place may be anywhere.
pub record AreWrites (shapes : List AccessShape) (byte : ℕ) (writes : Pos → Bool) : Type 0 where
  pub may : (access : AccessShape) → Contains shapes access → writes access.pos ≡ true → may_write byte access ≡ true
  pub surely : (access : AccessShape) → Contains shapes access → surely_writes byte access ≡ true → writes access.pos ≡ true

-- one write stands before the reader, and each other one before the reader stands before that
pub record IsNewest (shapes : List AccessShape) (before : Pos → Pos → Bool) (writes : Pos → Bool) (reader writer : Pos) : Type 0 where
  pub access : IsAccess shapes writer
  pub takes_place : writes writer ≡ true
  pub older : before writer reader ≡ true
  pub newest : (p : Pos) → IsAccess shapes p → writes p ≡ true → before p reader ≡ true → p ≢ writer → before p writer ≡ true

-- the reader sees the newest write before it, the initial byte where there is none
abbrev pub Sees : List AccessShape → (Pos → Pos → Bool) → (Pos → Bool) → Pos → Option Pos → Type 0
Sees shapes before writes reader None = (p : Pos) → IsAccess shapes p → writes p ≡ true → before p reader ≡ true → ⊥
Sees shapes before writes reader (Some writer) = IsNewest shapes before writes reader writer

-- A reader sees a byte from the same write, or from none, in every order that agrees and whichever writes take place.
abbrev pub IsFixed : Log → List AccessShape → ℕ → Pos → Option Pos → Type 0
IsFixed log shapes byte reader writer =
    (before : Pos → Pos → Bool) (writes : Pos → Bool) → IsTotal log shapes before → AreWrites shapes byte writes
    → Sees shapes before writes reader writer
