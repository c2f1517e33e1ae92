-- Total orders that put an access between two others.
use Rattle.std.proofs.Common.{◌≡◌, ◌≢◌, ℕ, ◌<◌, ◌+◌, ◌⊎◌, Bool, true, false, not, ◌&&◌, ◌||◌, refl, sym, ◌∙◌, subst, inl, inr, arith}
use Rattle.std.specs.Prelude.{nat_eq}
use Rattle.std.proofs.lemmas.Bool.{false≢true, and_parts, and_from, or_cases, or_left, or_right, or_from, not-true, not_from_false, false_from_ne_true, eqb-true, eq-eqb}
use Rattle.order_clauses.specs.Orders.{IsStrict, IsTotalAbove}
use Rattle.order_clauses.proofs.Extends.{each_extends}

-- some total order keeps a strict one
pub some_total : (n : ℕ) (recorded : ℕ → ℕ → Bool) → IsStrict recorded → recorded (n + 1) n ≡ false → (lt : ℕ → ℕ → Bool) × IsTotalAbove n recorded lt
some_total n recorded strict f =
    let made = each_extends n recorded strict n (n + 1) (λ e. omega (arith, e)) f in
    (made.0, made.1)

-- what one order keeps another keeps
pub keeps_less : (n : ℕ) (lt more total : ℕ → ℕ → Bool) → ((a b : ℕ) → lt a b ≡ true → more a b ≡ true) → IsTotalAbove n more total → IsTotalAbove n lt total
keeps_less n lt more total less above =
    record { strict = above.strict; keeps = λ a b a_in b_in e. above.keeps a b a_in b_in (less a b e); all = above.all }

module _ (recorded : ℕ → ℕ → Bool) (strict : IsStrict recorded) (y z : ℕ) where
  -- up to one of two
  up_to : ℕ → ℕ → Bool
  up_to v u = nat_eq u v || recorded u v

  low : ℕ → Bool
  low u = up_to y u || up_to z u

  -- the order that also has all that stand up to one of the two before all others
  pub lowered : ℕ → ℕ → Bool
  lowered u v = (low u && not (low v)) || recorded u v

  up_to-cases : (v u : ℕ) → up_to v u ≡ true → (u ≡ v) ⊎ (recorded u v ≡ true)
  unfolding up_to
  up_to-cases v u e = go (or_cases (nat_eq u v) (recorded u v) e)
    where
      go : (nat_eq u v ≡ true) ⊎ (recorded u v ≡ true) → (u ≡ v) ⊎ (recorded u v ≡ true)
      go (inl same) = inl (eqb-true u v same)
      go (inr h) = inr h

  up_to-down : (v t u : ℕ) → recorded t u ≡ true → up_to v u ≡ true → up_to v t ≡ true
  unfolding up_to
  up_to-down v t u e h = or_right (nat_eq t v) (recorded t v) (go (up_to-cases v u h))
    where
      go : (u ≡ v) ⊎ (recorded u v ≡ true) → recorded t v ≡ true
      go (inl same) = subst (λ (k : ℕ). recorded t k ≡ true) same e
      go (inr later) = strict.transitive t u v e later

  low-down : (t u : ℕ) → recorded t u ≡ true → low u ≡ true → low t ≡ true
  unfolding low
  low-down t u e h = go (or_cases (up_to y u) (up_to z u) h)
    where
      go : (up_to y u ≡ true) ⊎ (up_to z u ≡ true) → low t ≡ true
      go (inl a) = or_left (up_to y t) (up_to z t) (up_to-down y t u e a)
      go (inr b) = or_right (up_to y t) (up_to z t) (up_to-down z t u e b)

  abbrev Low : ℕ → ℕ → Type 0
  Low u v = ((low u ≡ true) × (low v ≡ false)) ⊎ (recorded u v ≡ true)

  lowered-from : (u v : ℕ) → lowered u v ≡ true → Low u v
  unfolding lowered
  lowered-from u v e = go (or_cases (low u && not (low v)) (recorded u v) e)
    where
      go : ((low u && not (low v)) ≡ true) ⊎ (recorded u v ≡ true) → Low u v
      go (inl both) = let parts = and_parts (low u) (not (low v)) both in inl (parts.0, not-true (low v) parts.1)
      go (inr h) = inr h

  lowered-to : (u v : ℕ) → Low u v → lowered u v ≡ true
  unfolding lowered
  lowered-to u v (inl both) = or_left (low u && not (low v)) (recorded u v) (and_from (low u) (not (low v)) both.0 (not_from_false (low v) both.1))
  lowered-to u v (inr h) = or_right (low u && not (low v)) (recorded u v) h

  not_low-up : (u v : ℕ) → recorded u v ≡ true → low u ≡ false → low v ≡ false
  not_low-up u v e f = false_from_ne_true (low v) (λ h. false≢true (sym f ∙ low-down u v e h))

  pub lowered-strict : IsStrict lowered
  lowered-strict =
      record {
        irreflexive = λ a. false_from_ne_true (lowered a a) (λ e. self a (lowered-from a a e));
        transitive = λ a b c e f. lowered-to a c (joined a b c (lowered-from a b e) (lowered-from b c f));
      }
    where
      self : (a : ℕ) → Low a a → ⊥
      self a (inl both) = false≢true (sym both.1 ∙ both.0)
      self a (inr h) = false≢true (sym (strict.irreflexive a) ∙ h)

      joined : (a b c : ℕ) → Low a b → Low b c → Low a c
      joined a b c (inl one) (inl two) = absurd (false≢true (sym one.1 ∙ two.0))
      joined a b c (inl one) (inr two) = inl (one.0, not_low-up b c two one.1)
      joined a b c (inr one) (inl two) = inl (low-down a b one two.0, two.1)
      joined a b c (inr one) (inr two) = inr (strict.transitive a b c one two)

  pub lowered-keeps : (u v : ℕ) → recorded u v ≡ true → lowered u v ≡ true
  lowered-keeps u v e = lowered-to u v (inr e)

  is_not_up_to : (v x : ℕ) → x ≢ v → recorded x v ≡ false → up_to v x ≡ false
  unfolding up_to
  is_not_up_to v x differ f = or_from (nat_eq x v) (recorded x v) (false_from_ne_true (nat_eq x v) (λ e. differ (eqb-true x v e))) f

  is_low-first : low y ≡ true
  unfolding low up_to
  is_low-first = or_left (up_to y y) (up_to z y) (or_left (nat_eq y y) (recorded y y) (eq-eqb y y refl))

  is_low-second : low z ≡ true
  unfolding low up_to
  is_low-second = or_right (up_to y z) (up_to z z) (or_left (nat_eq z z) (recorded z z) (eq-eqb z z refl))

  not_low : (x : ℕ) → x ≢ y → recorded x y ≡ false → x ≢ z → recorded x z ≡ false → low x ≡ false
  unfolding low
  not_low x from_y after_y from_z after_z = or_from (up_to y x) (up_to z x) (is_not_up_to y x from_y after_y) (is_not_up_to z x from_z after_z)

  -- one that is after neither is after both
  pub lowered-last : (x : ℕ) → x ≢ y → recorded x y ≡ false → x ≢ z → recorded x z ≡ false → lowered z x ≡ true
  lowered-last x from_y after_y from_z after_z = lowered-to z x (inl (is_low-second, not_low x from_y after_y from_z after_z))

  -- among the two nothing is added
  pub lowered-same : recorded z y ≡ false → lowered z y ≡ false
  lowered-same f = false_from_ne_true (lowered z y) (λ e. go (lowered-from z y e))
    where
      go : Low z y → ⊥
      go (inl both) = false≢true (sym both.1 ∙ is_low-first)
      go (inr h) = false≢true (sym f ∙ h)

-- a total order in which z stands after y and before x
pub record IsBetween (n : ℕ) (recorded : ℕ → ℕ → Bool) (y z x : ℕ) : Type 0 where
  pub lt : ℕ → ℕ → Bool
  pub total : IsTotalAbove n recorded lt
  pub first : lt y z ≡ true
  pub second : lt z x ≡ true

pub some_between : (n : ℕ) (recorded : ℕ → ℕ → Bool) → IsStrict recorded → (y z x : ℕ) → z < n → x < n → y ≢ z → recorded z y ≡ false → x ≢ y → recorded x y ≡ false
    → x ≢ z → recorded x z ≡ false → IsBetween n recorded y z x
some_between n recorded strict y z x z_in x_in apart not_back from_y after_y from_z after_z =
    let more = lowered recorded strict y z in
    let made = each_extends n more (lowered-strict recorded strict y z) y z apart (lowered-same recorded strict y z not_back) in
    record {
      lt = made.0;
      total = keeps_less n recorded more made.0 (lowered-keeps recorded strict y z) made.1;
      first = made.2;
      second = made.1.keeps z x z_in x_in (lowered-last recorded strict y z x from_y after_y from_z after_z);
    }
