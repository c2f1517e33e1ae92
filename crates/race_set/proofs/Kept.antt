-- Lists into which a walk over the accesses puts some item of each.
use Rattle.std.proofs.Common.{◌≡◌, ◌≢◌, ℕ, ◌<◌, ◌≤◌, ◌+◌, ◌⊎◌, Bool, true, false, List, [], ◌∷◌, ◌++◌, length, get_or, Option, Some, None, refl, sym, ◌∙◌, ap, subst, inl, inr, arith}
use Rattle.std.specs.Prelude.{Contains, MatchOption, IfSome, IfNone, if◌then◌else◌}
use Rattle.std.proofs.lemmas.Bool.{false≢true}
use Rattle.std.proofs.lemmas.Option.{same_Some}
use Rattle.std.proofs.lemmas.List.Elements.{Contains-get_or, Contains-push, Contains-push_cases, Contains-append_left}
use Rattle.std.proofs.lemmas.List.Quantifiers.{all_pairs_push}
use Rattle.odr_log.specs.declared.log.Pos.{Pos}
use Rattle.order_clauses.proofs.Counts.{split-below}
use Rattle.race_set.specs.declared.outcome.Outcome.{Outcome}
use Rattle.race_set.specs.declared.shape.AccessShape.{AccessShape}
use Rattle.race_set.specs.declared.shape.Span.{Span}
use Rattle.race_set.specs.Accesses.{AreDifferent, IsListedBefore, shape_at}
use Rattle.race_set.specs.Outcomes.{IsOpenOutcome, AreOutcomes}
use Rattle.race_set.specs.Needs.{AreNeeded}
use Rattle.race_set.proofs.Numbers.{no_shape, same_number}

-- ---- open outcomes

same_outcome : (a b : Outcome) → a.conditional ≡ b.conditional → a.reserved ≡ b.reserved → a.place ≡ b.place → a ≡ b
same_outcome a b e f g =
    ap (λ (x : ℕ). let o : Outcome = record { conditional = x; reserved = a.reserved; place = a.place } in o) e
    ∙ ap (λ (x : ℕ). let o : Outcome = record { conditional = b.conditional; reserved = x; place = a.place } in o) f
    ∙ ap (λ (x : Option Span). let o : Outcome = record { conditional = b.conditional; reserved = b.reserved; place = x } in o) g

-- a store-conditional has one outcome at most
one_outcome : (shapes : List AccessShape) (recorded : ℕ → ℕ → Bool) → AreDifferent shapes → (a b : Outcome) → a.conditional ≡ b.conditional
    → IsOpenOutcome shapes recorded a → IsOpenOutcome shapes recorded b → a ≡ b
one_outcome shapes recorded differ a b same is_a is_b =
    same_outcome a b same reserved (is_a.place ∙ ap (λ (k : ℕ). (shape_at shapes k).place) reserved ∙ sym is_b.place)
  where
    reserved : a.reserved ≡ b.reserved
    reserved =
        same_number shapes differ a.reserved b.reserved is_a.reserved is_b.reserved
        (same_Some (shape_at shapes a.reserved).pos (shape_at shapes b.reserved).pos
        (sym is_a.link ∙ ap (λ (k : ℕ). (shape_at shapes k).link) same ∙ is_b.link))

pub outcomes_none : (shapes : List AccessShape) (recorded : ℕ → ℕ → Bool) → AreOutcomes shapes recorded 0 []
outcomes_none shapes recorded = record { only = λ o h. absurd (omega (arith, h.1)); each = λ differ o h. absurd (omega (arith, h)) }

pub outcomes_more : (shapes : List AccessShape) (recorded : ℕ → ℕ → Bool) (k : ℕ) (item : Option Outcome) (old new : List Outcome)
    → IfSome item (λ o. (o.conditional ≡ k) × IsOpenOutcome shapes recorded o)
    → IfNone item (AreDifferent shapes → (o : Outcome) → o.conditional ≡ k → IsOpenOutcome shapes recorded o → ⊥)
    → MatchOption item (new ≡ old) (λ o. new ≡ old ++ o ∷ []) → AreOutcomes shapes recorded k old → AreOutcomes shapes recorded (k + 1) new
outcomes_more shapes recorded k None old new some none e are =
    subst (λ (os : List Outcome). AreOutcomes shapes recorded (k + 1) os) (sym e)
    (record { only = are.only; each = λ differ o below is. go differ o is (split-below o.conditional k (omega (arith, below))) })
  where
    go : AreDifferent shapes → (o : Outcome) → IsOpenOutcome shapes recorded o → (o.conditional < k) ⊎ (o.conditional ≡ k) → Contains old o
    go differ o is (inl less) = are.each differ o less is
    go differ o is (inr same) = absurd (none differ o same is)
outcomes_more shapes recorded k (Some x) old new some none e are =
    subst (λ (os : List Outcome). AreOutcomes shapes recorded (k + 1) os) (sym e)
    (record {
      only = λ o h. only o (Contains-push_cases old x o h);
      each = λ differ o below is. go differ o is (split-below o.conditional k (omega (arith, below)));
    })
  where
    only : (o : Outcome) → Contains old o ⊎ (x ≡ o) → IsOpenOutcome shapes recorded o
    only o (inl h) = are.only o h
    only o (inr same) = subst (λ (t : Outcome). IsOpenOutcome shapes recorded t) same some.1

    go : AreDifferent shapes → (o : Outcome) → IsOpenOutcome shapes recorded o → (o.conditional < k) ⊎ (o.conditional ≡ k) → Contains (old ++ x ∷ []) o
    go differ o is (inl less) = Contains-append_left old (x ∷ []) o (are.each differ o less is)
    go differ o is (inr same) =
        subst (λ (t : Outcome). Contains (old ++ x ∷ []) t) (one_outcome shapes recorded differ x o (some.0 ∙ sym same) some.1 is) (Contains-push old x)

pub outcomes_all : (shapes : List AccessShape) (recorded : ℕ → ℕ → Bool) (k : ℕ) (outcomes : List Outcome) → length shapes ≤ k
    → AreOutcomes shapes recorded k outcomes → AreOutcomes shapes recorded (length shapes) outcomes
outcomes_all shapes recorded k outcomes done are = record { only = are.only; each = λ differ o below is. are.each differ o (omega (arith, below, done)) is }

-- ---- needed positions

pub needed_none : (shapes : List AccessShape) (test : ℕ → Bool) → AreNeeded shapes test 0 []
needed_none shapes test =
    record {
      only = λ p h. absurd (omega (arith, h.1));
      each = λ i h. absurd (omega (arith, h));
      once = λ differ i j d h k. absurd (omega (arith, k));
      order = λ i j d h k. absurd (omega (arith, k));
    }

module _ (shapes : List AccessShape) (test : ℕ → Bool) (k : ℕ) (within : k < length shapes) (old : List Pos) (are : AreNeeded shapes test k old) where
  needed_left : test k ≡ false → AreNeeded shapes test (k + 1) old
  needed_left f =
      record {
        only = λ p h. let o = are.only p h in (o.0, omega (arith, o.1), o.2, o.3);
        each = λ i below e. go i e (split-below i k (omega (arith, below)));
        once = are.once;
        order = are.order;
      }
    where
      go : (i : ℕ) → test i ≡ true → (i < k) ⊎ (i ≡ k) → Contains old (shape_at shapes i).pos
      go i e (inl less) = are.each i less e
      go i e (inr same) = absurd (false≢true (sym f ∙ subst (λ (t : ℕ). test t ≡ true) same e))

  needed_taken : test k ≡ true → AreNeeded shapes test (k + 1) (old ++ (shape_at shapes k).pos ∷ [])
  needed_taken t =
      record {
        only = λ p h. only p (Contains-push_cases old (shape_at shapes k).pos p h);
        each = λ i below e. go i e (split-below i k (omega (arith, below)));
        once = λ differ. all_pairs_push (λ (p q : Pos). p ≢ q) old (shape_at shapes k).pos (are.once differ) (λ j d j_in same. apart differ j d j_in same);
        order = all_pairs_push (IsListedBefore shapes) old (shape_at shapes k).pos are.order (λ j d j_in. earlier (get_or old j d) (are.only (get_or old j d) (Contains-get_or old j d j_in)));
      }
    where
      earlier : (p : Pos) → (i : ℕ) × (i < k) × (test i ≡ true) × ((shape_at shapes i).pos ≡ p) → IsListedBefore shapes p (shape_at shapes k).pos
      earlier p o = record { first = o.0; second = k; less = o.1; within = within; first_is = o.3; second_is = refl }

      only : (p : Pos) → Contains old p ⊎ ((shape_at shapes k).pos ≡ p) → (i : ℕ) × (i < k + 1) × (test i ≡ true) × ((shape_at shapes i).pos ≡ p)
      only p (inl h) = let o = are.only p h in (o.0, omega (arith, o.1), o.2, o.3)
      only p (inr same) = (k, omega arith, t, same)

      go : (i : ℕ) → test i ≡ true → (i < k) ⊎ (i ≡ k) → Contains (old ++ (shape_at shapes k).pos ∷ []) (shape_at shapes i).pos
      go i e (inl less) = Contains-append_left old ((shape_at shapes k).pos ∷ []) (shape_at shapes i).pos (are.each i less e)
      go i e (inr same) =
          subst (λ (n : ℕ). Contains (old ++ (shape_at shapes k).pos ∷ []) (shape_at shapes n).pos) (sym same) (Contains-push old (shape_at shapes k).pos)

      apart : AreDifferent shapes → (j : ℕ) (d : Pos) → j < length old → get_or old j d ≡ (shape_at shapes k).pos → ⊥
      apart differ j d j_in same =
          let o = are.only (get_or old j d) (Contains-get_or old j d j_in) in
          differ o.0 k no_shape o.1 within (o.3 ∙ same)

pub needed_more : (shapes : List AccessShape) (test : ℕ → Bool) (k : ℕ) (item : Option Pos) (old new : List Pos) → k < length shapes
    → item ≡ (if test k then Some (shape_at shapes k).pos else None) → MatchOption item (new ≡ old) (λ p. new ≡ old ++ p ∷ [])
    → AreNeeded shapes test k old → AreNeeded shapes test (k + 1) new
needed_more shapes test k item old new within e put are = go (test k) refl (subst (λ (o : Option Pos). MatchOption o (new ≡ old) (λ p. new ≡ old ++ p ∷ [])) e put)
  where
    go : (b : Bool) → test k ≡ b → MatchOption (if b then Some (shape_at shapes k).pos else None) (new ≡ old) (λ p. new ≡ old ++ p ∷ []) → AreNeeded shapes test (k + 1) new
    go true t same = subst (λ (ps : List Pos). AreNeeded shapes test (k + 1) ps) (sym same) (needed_taken shapes test k within old are t)
    go false f same = subst (λ (ps : List Pos). AreNeeded shapes test (k + 1) ps) (sym same) (needed_left shapes test k within old are f)

pub needed_all : (shapes : List AccessShape) (test : ℕ → Bool) (k : ℕ) (positions : List Pos) → k ≤ length shapes → length shapes ≤ k
    → AreNeeded shapes test k positions → AreNeeded shapes test (length shapes) positions
needed_all shapes test k positions within done are =
    record {
      only = λ p h. let o = are.only p h in (o.0, omega (arith, o.1, within), o.2, o.3);
      each = λ i below e. are.each i (omega (arith, below, done)) e;
      once = are.once;
      order = are.order;
    }
