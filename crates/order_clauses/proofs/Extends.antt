-- Each strict order extends to a total one.
use Rattle.std.proofs.Common.{◌≡◌, ◌≢◌, ℕ, zero, suc, ◌<◌, ◌⊎◌, Bool, true, false, ◌&&◌, ◌||◌, eqb, refl, sym, ◌∙◌, ap, subst, inl, inr, arith}
use Rattle.std.proofs.lemmas.Bool.{false≢true, eq-eqb, and_parts, and_from, or_left, false_from_ne_true}
use Rattle.std.proofs.lemmas.Bool.Decides.{eqb_tells}
use Rattle.order_clauses.specs.Orders.{IsStrict}
use Rattle.order_clauses.specs.Laws.{EachOrderExtends}
use Rattle.order_clauses.proofs.Counts.{split-below}

or_from_right : (p q : Bool) → q ≡ true → p || q ≡ true
or_from_right true q e = refl
or_from_right false q e = e

-- at or before

abbrev Upto : (ℕ → ℕ → Bool) → ℕ → ℕ → Type 0
Upto lt x y = (x ≡ y) ⊎ (lt x y ≡ true)

abbrev is_upto : (ℕ → ℕ → Bool) → ℕ → ℕ → Bool
is_upto lt x y = eqb x y || lt x y

upto-from : (lt : ℕ → ℕ → Bool) (x y : ℕ) → is_upto lt x y ≡ true → Upto lt x y
upto-from lt x y e = go (eqb_tells x y)
  where
    go : ((eqb x y ≡ true) × (x ≡ y)) ⊎ ((eqb x y ≡ false) × (x ≢ y)) → Upto lt x y
    go (inl same) = inl same.1
    go (inr other) = inr (ap (λ (b : Bool). b || lt x y) (sym other.0) ∙ e)

upto-to : (lt : ℕ → ℕ → Bool) (x y : ℕ) → Upto lt x y → is_upto lt x y ≡ true
upto-to lt x y (inl e) = or_left (eqb x y) (lt x y) (eq-eqb x y e)
upto-to lt x y (inr h) = or_from_right (eqb x y) (lt x y) h

upto-then : (lt : ℕ → ℕ → Bool) → IsStrict lt → (x y z : ℕ) → Upto lt x y → Upto lt y z → Upto lt x z
upto-then lt strict x y z (inl e) q = subst (λ (t : ℕ). Upto lt t z) (sym e) q
upto-then lt strict x y z (inr p) (inl e) = inr (subst (λ (t : ℕ). lt x t ≡ true) e p)
upto-then lt strict x y z (inr p) (inr q) = inr (strict.transitive x y z p q)

-- the order with one pair more
with_pair : (ℕ → ℕ → Bool) → ℕ → ℕ → ℕ → ℕ → Bool
with_pair lt a b x y = lt x y || (is_upto lt x a && is_upto lt b y)

abbrev Way : (ℕ → ℕ → Bool) → ℕ → ℕ → ℕ → ℕ → Type 0
Way lt a b x y = (lt x y ≡ true) ⊎ (Upto lt x a × Upto lt b y)

way-from : (lt : ℕ → ℕ → Bool) (a b x y : ℕ) → with_pair lt a b x y ≡ true → Way lt a b x y
unfolding with_pair
way-from lt a b x y e = go (lt x y) refl
  where
    go : (t : Bool) → lt x y ≡ t → Way lt a b x y
    go true h = inl h
    go false f =
        let parts = and_parts (is_upto lt x a) (is_upto lt b y) (ap (λ (p : Bool). p || (is_upto lt x a && is_upto lt b y)) (sym f) ∙ e) in
        inr (upto-from lt x a parts.0, upto-from lt b y parts.1)

way-to : (lt : ℕ → ℕ → Bool) (a b x y : ℕ) → Way lt a b x y → with_pair lt a b x y ≡ true
unfolding with_pair
way-to lt a b x y (inl h) = or_left (lt x y) (is_upto lt x a && is_upto lt b y) h
way-to lt a b x y (inr both) =
    or_from_right (lt x y) (is_upto lt x a && is_upto lt b y) (and_from (is_upto lt x a) (is_upto lt b y) (upto-to lt x a both.0) (upto-to lt b y both.1))

not_back : (lt : ℕ → ℕ → Bool) (a b : ℕ) → a ≢ b → lt b a ≡ false → Upto lt b a → ⊥
not_back lt a b differ f (inl e) = differ (sym e)
not_back lt a b differ f (inr h) = false≢true (sym f ∙ h)

with_pair-strict : (lt : ℕ → ℕ → Bool) → IsStrict lt → (a b : ℕ) → a ≢ b → lt b a ≡ false → IsStrict (with_pair lt a b)
with_pair-strict lt strict a b differ f =
    record {
      irreflexive = λ x. false_from_ne_true (with_pair lt a b x x) (λ e. self x (way-from lt a b x x e));
      transitive = λ x y z p q. way-to lt a b x z (joined x y z (way-from lt a b x y p) (way-from lt a b y z q));
    }
  where
    self : (x : ℕ) → Way lt a b x x → ⊥
    self x (inl h) = false≢true (sym (strict.irreflexive x) ∙ h)
    self x (inr both) = not_back lt a b differ f (upto-then lt strict b x a both.1 both.0)

    joined : (x y z : ℕ) → Way lt a b x y → Way lt a b y z → Way lt a b x z
    joined x y z (inl p) (inl q) = inl (strict.transitive x y z p q)
    joined x y z (inl p) (inr q) = inr (upto-then lt strict x y a (inr p) q.0, q.1)
    joined x y z (inr p) (inl q) = inr (p.0, upto-then lt strict b y z p.1 (inr q))
    joined x y z (inr p) (inr q) = absurd (not_back lt a b differ f (upto-then lt strict b y a p.1 q.0))

-- a strict order that keeps another
record IsMore (lt more : ℕ → ℕ → Bool) : Type 0 where
  strict : IsStrict more
  keeps : (x y : ℕ) → lt x y ≡ true → more x y ≡ true

abbrev OneWay : (ℕ → ℕ → Bool) → ℕ → ℕ → Type 0
OneWay lt x y = (lt x y ≡ true) ⊎ (lt y x ≡ true)

one_way-kept : (lt more : ℕ → ℕ → Bool) → IsMore lt more → (x y : ℕ) → OneWay lt x y → OneWay more x y
one_way-kept lt more is_more x y (inl h) = inl (is_more.keeps x y h)
one_way-kept lt more is_more x y (inr h) = inr (is_more.keeps y x h)

more_then : (lt between more : ℕ → ℕ → Bool) → IsMore lt between → IsMore between more → IsMore lt more
more_then lt between more one two = record { strict = two.strict; keeps = λ x y h. two.keeps x y (one.keeps x y h) }

with_pair-more : (lt : ℕ → ℕ → Bool) → IsStrict lt → (a b : ℕ) → a ≢ b → lt b a ≡ false → IsMore lt (with_pair lt a b)
with_pair-more lt strict a b differ f =
    record { strict = with_pair-strict lt strict a b differ f; keeps = λ x y h. way-to lt a b x y (inl h) }

settled : (lt : ℕ → ℕ → Bool) → IsStrict lt → (a b : ℕ) → a ≢ b → (more : ℕ → ℕ → Bool) × IsMore lt more × OneWay more a b
settled lt strict a b differ = go (lt b a) refl
  where
    go : (t : Bool) → lt b a ≡ t → (more : ℕ → ℕ → Bool) × IsMore lt more × OneWay more a b
    go true h = (lt, record { strict = strict; keeps = λ x y p. p }, inr h)
    go false f = (with_pair lt a b, with_pair-more lt strict a b differ f, inl (way-to lt a b a b (inr (inl refl, inl refl))))

row_settled : (k : ℕ) (lt : ℕ → ℕ → Bool) → IsStrict lt → (i : ℕ)
    → (more : ℕ → ℕ → Bool) × IsMore lt more × ((j : ℕ) → j < k → i ≢ j → OneWay more i j)
row_settled zero lt strict i = (lt, record { strict = strict; keeps = λ x y p. p }, λ j h. absurd (omega (arith, h)))
row_settled (suc k) lt strict i = go (row_settled k lt strict i) (eqb_tells i k)
  where
    go : (more : ℕ → ℕ → Bool) × IsMore lt more × ((j : ℕ) → j < k → i ≢ j → OneWay more i j) → ((eqb i k ≡ true) × (i ≡ k)) ⊎ ((eqb i k ≡ false) × (i ≢ k))
        → (more : ℕ → ℕ → Bool) × IsMore lt more × ((j : ℕ) → j < suc k → i ≢ j → OneWay more i j)
    go some (inl same) = (some.0, some.1, λ j h differ. each j differ (split-below j k h))
      where
        each : (j : ℕ) → i ≢ j → (j < k) ⊎ (j ≡ k) → OneWay some.0 i j
        each j differ (inl b) = some.2 j b differ
        each j differ (inr e) = absurd (differ (same.1 ∙ sym e))
    go some (inr other) =
        let last = settled some.0 some.1.strict i k other.1 in
        (last.0, more_then lt some.0 last.0 some.1 last.1, λ j h differ. each last.0 last.1 last.2 j differ (split-below j k h))
      where
        each : (more : ℕ → ℕ → Bool) → IsMore some.0 more → OneWay more i k → (j : ℕ) → i ≢ j → (j < k) ⊎ (j ≡ k) → OneWay more i j
        each more is_more last j differ (inl b) = one_way-kept some.0 more is_more i j (some.2 j b differ)
        each more is_more last j differ (inr e) = subst (λ (t : ℕ). OneWay more i t) (sym e) last

all_settled : (n k : ℕ) (lt : ℕ → ℕ → Bool) → IsStrict lt
    → (more : ℕ → ℕ → Bool) × IsMore lt more × ((i j : ℕ) → i < k → j < n → i ≢ j → OneWay more i j)
all_settled n zero lt strict = (lt, record { strict = strict; keeps = λ x y p. p }, λ i j h. absurd (omega (arith, h)))
all_settled n (suc k) lt strict = go (all_settled n k lt strict)
  where
    go : (more : ℕ → ℕ → Bool) × IsMore lt more × ((i j : ℕ) → i < k → j < n → i ≢ j → OneWay more i j)
        → (more : ℕ → ℕ → Bool) × IsMore lt more × ((i j : ℕ) → i < suc k → j < n → i ≢ j → OneWay more i j)
    go some =
        let last = row_settled n some.0 some.1.strict k in
        (last.0, more_then lt some.0 last.0 some.1 last.1, λ i j h b differ. each last.0 last.1 last.2 i j b differ (split-below i k h))
      where
        each : (more : ℕ → ℕ → Bool) → IsMore some.0 more → ((j : ℕ) → j < n → k ≢ j → OneWay more k j) → (i j : ℕ) → j < n → i ≢ j
            → (i < k) ⊎ (i ≡ k) → OneWay more i j
        each more is_more last i j b differ (inl h) = one_way-kept some.0 more is_more i j (some.2 i j h b differ)
        each more is_more last i j b differ (inr e) =
            subst (λ (t : ℕ). OneWay more t j) (sym e) (last j b (subst (λ (t : ℕ). t ≢ j) e differ))

pub each_extends : EachOrderExtends
each_extends n lt strict a b differ f =
    let with_one = with_pair lt a b in
    let one : IsMore lt with_one = with_pair-more lt strict a b differ f in
    let all = all_settled n n with_one one.strict in
    let more : IsMore lt all.0 = more_then lt with_one all.0 one all.1 in (
      all.0,
      record { strict = more.strict; keeps = λ x y _ _ h. more.keeps x y h; all = λ x y p q d. all.2 x y p q d },
      all.1.keeps a b (way-to lt a b a b (inr (inl refl, inl refl))),
    )
