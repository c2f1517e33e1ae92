-- What the recorded order decides is seen in every run.
use Rattle.std.proofs.Common.{◌≡◌, ◌≢◌, ℕ, ◌<◌, ◌⊎◌, Bool, true, List, length, refl, sym, ◌∙◌, ap, subst, inl, inr}
use Rattle.std.specs.Prelude.{Some, None}
use Rattle.std.proofs.lemmas.Bool.{false≢true}
use Rattle.odr_log.specs.declared.log.Log.{Log}
use Rattle.odr_log.specs.declared.log.Pos.{Pos}
use Rattle.race_set.specs.declared.shape.AccessShape.{AccessShape}
use Rattle.race_set.specs.Bytes.{may_write}
use Rattle.race_set.specs.Accesses.{shape_at}
use Rattle.race_set.specs.Places.{IsInitial, IsWrite}
use Rattle.race_set.specs.Runs.{IsAccess, IsTotal, AreWrites, IsFixed}
use Rattle.race_set.proofs.NewestWrite.{after_cases, passed_cases}
use Rattle.race_set.proofs.Numbers.{listed_at, number_of_listed}
use Rattle.race_set.proofs.Recorded.{Tells}

pub access_at : (shapes : List AccessShape) (i : ℕ) → i < length shapes → IsAccess shapes (shape_at shapes i).pos
access_at shapes i within = record { access = shape_at shapes i; listed = listed_at shapes i within; is = refl }

-- an access by its number
pub record IsNumber (shapes : List AccessShape) (p : Pos) (i : ℕ) : Type 0 where
  pub within : i < length shapes
  pub is : (shape_at shapes i).pos ≡ p

pub number_at : (shapes : List AccessShape) (p : Pos) → IsAccess shapes p → (i : ℕ) × IsNumber shapes p i
number_at shapes p a =
    let n = number_of_listed shapes a.access a.listed in
    (n.0, record { within = n.1; is = ap (λ (z : AccessShape). z.pos) n.2 ∙ a.is })

module _ (log : Log) (shapes : List AccessShape) (recorded : ℕ → ℕ → Bool) (told : Tells log shapes recorded) (byte x : ℕ) (x_in : x < length shapes) where
  may_at : (writes : Pos → Bool) → AreWrites shapes byte writes → (p : Pos) (i : ℕ) → IsNumber shapes p i → writes p ≡ true → may_write byte (shape_at shapes i) ≡ true
  may_at writes are p i n w = are.may (shape_at shapes i) (listed_at shapes i n.within) (subst (λ (q : Pos). writes q ≡ true) (sym n.is) w)

  -- what is recorded after the reader isn't before it
  not_before : (before : Pos → Pos → Bool) → IsTotal log shapes before → (p : Pos) (i : ℕ) → IsNumber shapes p i
      → before p (shape_at shapes x).pos ≡ true → (i ≡ x) ⊎ (recorded x i ≡ true) → ⊥
  not_before before total p i n older (inl same) =
      let here : p ≡ (shape_at shapes x).pos = sym n.is ∙ ap (λ (k : ℕ). (shape_at shapes k).pos) same in
      false≢true (sym (total.irreflexive (shape_at shapes x).pos (access_at shapes x x_in)) ∙ subst (λ (q : Pos). before q (shape_at shapes x).pos ≡ true) here older)
  not_before before total p i n older (inr after) =
      let reader : Pos = (shape_at shapes x).pos in
      let other : Pos = (shape_at shapes i).pos in
      let back : before other reader ≡ true = subst (λ (q : Pos). before q reader ≡ true) (sym n.is) older in
      let forth : before reader other ≡ true = total.agrees reader other (access_at shapes x x_in) (access_at shapes i n.within) (told.says x i after) in
      false≢true (sym (total.irreflexive reader (access_at shapes x x_in))
      ∙ total.transitive reader other reader (access_at shapes x x_in) (access_at shapes i n.within) (access_at shapes x x_in) forth back)

  pub initial_fixed : IsInitial shapes recorded byte x → IsFixed log shapes byte (shape_at shapes x).pos None
  initial_fixed initial before writes total are p access w older =
      let n = number_at shapes p access in
      not_before before total p n.0 n.1 older (after_cases recorded x n.0 (initial n.0 n.1.within (may_at writes are p n.0 n.1 w)))

  pub write_fixed : (y : ℕ) → IsWrite shapes recorded byte x y → IsFixed log shapes byte (shape_at shapes x).pos (Some (shape_at shapes y).pos)
  write_fixed y write before writes total are =
      record {
        access = access_at shapes y write.within;
        takes_place = are.surely (shape_at shapes y) (listed_at shapes y write.within) write.writes;
        older = total.agrees (shape_at shapes y).pos (shape_at shapes x).pos (access_at shapes y write.within) (access_at shapes x x_in) (told.says y x write.older);
        newest = λ p access w older differ. newest p (number_at shapes p access) w older differ;
      }
    where
      newest : (p : Pos) → (i : ℕ) × IsNumber shapes p i → writes p ≡ true → before p (shape_at shapes x).pos ≡ true → p ≢ (shape_at shapes y).pos
          → before p (shape_at shapes y).pos ≡ true
      newest p n w older differ = go (passed_cases recorded x y n.0 (write.passed n.0 n.1.within (may_at writes are p n.0 n.1 w)))
        where
          go : ((y ≡ n.0) ⊎ (recorded n.0 y ≡ true)) ⊎ ((n.0 ≡ x) ⊎ (recorded x n.0 ≡ true)) → before p (shape_at shapes y).pos ≡ true
          go (inl (inl same)) = absurd (differ (sym n.1.is ∙ ap (λ (k : ℕ). (shape_at shapes k).pos) (sym same)))
          go (inl (inr earlier)) =
              subst (λ (q : Pos). before q (shape_at shapes y).pos ≡ true) n.1.is
              (total.agrees (shape_at shapes n.0).pos (shape_at shapes y).pos (access_at shapes n.0 n.1.within) (access_at shapes y write.within) (told.says n.0 y earlier))
          go (inr after) = absurd (not_before before total p n.0 n.1 older after)
