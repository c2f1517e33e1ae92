-- The recorded order and an order of chosen accesses lie in one strict order.
use Rattle.std.proofs.Common.{◌≡◌, ℕ, ◌<◌, ◌⊎◌, Bool, true, false, ◌&&◌, ◌||◌, refl, sym, ◌∙◌, subst, inl, inr}
use Rattle.std.specs.Prelude.{nat_eq}
use Rattle.std.proofs.lemmas.Bool.{false≢true, and_parts, and_from, or_cases, or_left, or_right, false_from_ne_true, eqb-true, eq-eqb}
use Rattle.order_clauses.specs.Orders.{IsStrict}
use Rattle.order_clauses.proofs.Counts.{find-below}
use Rattle.order_clauses.proofs.Extends.{each_extends}
use Rattle.race_set.specs.Laws.{IsOrderOfChosen, IsMerge, OrdersMerge}

-- ---- a test whether some number below a bound passes

abbrev Search : ℕ → (ℕ → Bool) → Type 0
Search n test = ((m : ℕ) × (m < n) × (test m ≡ true)) ⊎ ((m : ℕ) → m < n → test m ≡ false)

is_found : (n : ℕ) (test : ℕ → Bool) → Search n test → Bool
is_found n test (inl some) = true
is_found n test (inr none) = false

is_found-from : (n : ℕ) (test : ℕ → Bool) (s : Search n test) → is_found n test s ≡ true → (m : ℕ) × (m < n) × (test m ≡ true)
unfolding is_found
is_found-from n test (inl some) e = some
is_found-from n test (inr none) e = absurd (false≢true e)

is_found-to : (n : ℕ) (test : ℕ → Bool) (s : Search n test) (m : ℕ) → m < n → test m ≡ true → is_found n test s ≡ true
unfolding is_found
is_found-to n test (inl some) m below e = refl
is_found-to n test (inr none) m below e = absurd (false≢true (sym (none m below) ∙ e))

exists_below : ℕ → (ℕ → Bool) → Bool
exists_below n test = is_found n test (find-below n test)

exists-from : (n : ℕ) (test : ℕ → Bool) → exists_below n test ≡ true → (m : ℕ) × (m < n) × (test m ≡ true)
unfolding exists_below
exists-from n test e = is_found-from n test (find-below n test) e

exists-to : (n : ℕ) (test : ℕ → Bool) (m : ℕ) → m < n → test m ≡ true → exists_below n test ≡ true
unfolding exists_below
exists-to n test m below e = is_found-to n test (find-below n test) m below e

module _ (n : ℕ) (recorded : ℕ → ℕ → Bool) (chosen : ℕ → Bool) (above : ℕ → ℕ → Bool) (strict : IsStrict recorded) (order : IsOrderOfChosen n recorded chosen above) where
  is_upto : ℕ → ℕ → Bool
  is_upto a b = nat_eq a b || recorded a b

  abbrev Upto : ℕ → ℕ → Type 0
  Upto a b = (a ≡ b) ⊎ (recorded a b ≡ true)

  upto-from : (a b : ℕ) → is_upto a b ≡ true → Upto a b
  unfolding is_upto
  upto-from a b e = go (or_cases (nat_eq a b) (recorded a b) e)
    where
      go : (nat_eq a b ≡ true) ⊎ (recorded a b ≡ true) → Upto a b
      go (inl same) = inl (eqb-true a b same)
      go (inr h) = inr h

  upto-to : (a b : ℕ) → Upto a b → is_upto a b ≡ true
  unfolding is_upto
  upto-to a b (inl same) = or_left (nat_eq a b) (recorded a b) (eq-eqb a b same)
  upto-to a b (inr h) = or_right (nat_eq a b) (recorded a b) h

  upto-then : (a b c : ℕ) → Upto a b → Upto b c → Upto a c
  upto-then a b c (inl e) q = subst (λ (t : ℕ). Upto t c) (sym e) q
  upto-then a b c (inr p) (inl e) = inr (subst (λ (t : ℕ). recorded a t ≡ true) e p)
  upto-then a b c (inr p) (inr q) = inr (strict.transitive a b c p q)

  -- one stands before another through two chosen ones
  record Via (a b : ℕ) : Type 0 where
    first : ℕ
    second : ℕ
    start : Upto a first
    middle : above first second ≡ true
    end : Upto second b

  via_test : ℕ → ℕ → ℕ → ℕ → Bool
  via_test a b c d = is_upto a c && (above c d && is_upto d b)

  is_via : ℕ → ℕ → Bool
  is_via a b = exists_below n (λ c. exists_below n (λ d. via_test a b c d))

  via-from : (a b : ℕ) → is_via a b ≡ true → Via a b
  unfolding is_via via_test
  via-from a b e =
      let outer = exists-from n (λ c. exists_below n (λ d. via_test a b c d)) e in
      let inner = exists-from n (λ d. via_test a b outer.0 d) outer.2 in
      let one = and_parts (is_upto a outer.0) (above outer.0 inner.0 && is_upto inner.0 b) inner.2 in
      let two = and_parts (above outer.0 inner.0) (is_upto inner.0 b) one.1 in
      record { first = outer.0; second = inner.0; start = upto-from a outer.0 one.0; middle = two.0; end = upto-from inner.0 b two.1 }

  via-to : (a b : ℕ) → Via a b → is_via a b ≡ true
  unfolding is_via via_test
  via-to a b v =
      exists-to n (λ c. exists_below n (λ d. via_test a b c d)) v.first (order.first_below v.first v.second v.middle)
      (exists-to n (λ d. via_test a b v.first d) v.second (order.second_below v.first v.second v.middle)
      (and_from (is_upto a v.first) (above v.first v.second && is_upto v.second b) (upto-to a v.first v.start)
      (and_from (above v.first v.second) (is_upto v.second b) v.middle (upto-to v.second b v.end))))

  merged : ℕ → ℕ → Bool
  merged a b = recorded a b || is_via a b

  abbrev Way : ℕ → ℕ → Type 0
  Way a b = (recorded a b ≡ true) ⊎ Via a b

  way-from : (a b : ℕ) → merged a b ≡ true → Way a b
  unfolding merged
  way-from a b e = go (or_cases (recorded a b) (is_via a b) e)
    where
      go : (recorded a b ≡ true) ⊎ (is_via a b ≡ true) → Way a b
      go (inl h) = inl h
      go (inr h) = inr (via-from a b h)

  way-to : (a b : ℕ) → Way a b → merged a b ≡ true
  unfolding merged
  way-to a b (inl h) = or_left (recorded a b) (is_via a b) h
  way-to a b (inr v) = or_right (recorded a b) (is_via a b) (via-to a b v)

  -- among the chosen what is recorded is in their order
  chosen_upto : (a b : ℕ) → chosen a ≡ true → chosen b ≡ true → Upto a b → (a ≡ b) ⊎ (above a b ≡ true)
  chosen_upto a b ca cb (inl same) = inl same
  chosen_upto a b ca cb (inr h) = inr (order.keeps a b ca cb h)

  above_before : (a b c : ℕ) → (a ≡ b) ⊎ (above a b ≡ true) → above b c ≡ true → above a c ≡ true
  above_before a b c (inl same) e = subst (λ (t : ℕ). above t c ≡ true) (sym same) e
  above_before a b c (inr h) e = order.strict.transitive a b c h e

  above_after : (a b c : ℕ) → above a b ≡ true → (b ≡ c) ⊎ (above b c ≡ true) → above a c ≡ true
  above_after a b c e (inl same) = subst (λ (t : ℕ). above a t ≡ true) same e
  above_after a b c e (inr h) = order.strict.transitive a b c e h

  via_both : (a b c : ℕ) → Via a b → Via b c → Via a c
  via_both a b c v w =
      let between : Upto v.second w.first = upto-then v.second b w.first v.end w.start in
      let chosen_between : (v.second ≡ w.first) ⊎ (above v.second w.first ≡ true) =
      chosen_upto v.second w.first (order.second_chosen v.first v.second v.middle) (order.first_chosen w.first w.second w.middle) between in
      record {
        first = v.first;
        second = w.second;
        start = v.start;
        middle = above_after v.first v.second w.second v.middle (inr (above_before v.second w.first w.second chosen_between w.middle));
        end = w.end;
      }

  way_then : (a b c : ℕ) → Way a b → Way b c → Way a c
  way_then a b c (inl p) (inl q) = inl (strict.transitive a b c p q)
  way_then a b c (inl p) (inr w) =
      inr (record { first = w.first; second = w.second; start = upto-then a b w.first (inr p) w.start; middle = w.middle; end = w.end })
  way_then a b c (inr v) (inl q) =
      inr (record { first = v.first; second = v.second; start = v.start; middle = v.middle; end = upto-then v.second b c v.end (inr q) })
  way_then a b c (inr v) (inr w) = inr (via_both a b c v w)

  way_itself : (a : ℕ) → Way a a → ⊥
  way_itself a (inl h) = false≢true (sym (strict.irreflexive a) ∙ h)
  way_itself a (inr v) =
      let back : Upto v.second v.first = upto-then v.second a v.first v.end v.start in
      let closed : above v.first v.first ≡ true =
      above_after v.first v.second v.first v.middle
      (chosen_upto v.second v.first (order.second_chosen v.first v.second v.middle) (order.first_chosen v.first v.second v.middle) back) in
      false≢true (sym (order.strict.irreflexive v.first) ∙ closed)

  way_chosen : (a b : ℕ) → chosen a ≡ true → chosen b ≡ true → Way a b → above a b ≡ true
  way_chosen a b ca cb (inl h) = order.keeps a b ca cb h
  way_chosen a b ca cb (inr v) =
      above_before a v.first b (chosen_upto a v.first ca (order.first_chosen v.first v.second v.middle) v.start)
      (above_after v.first v.second b v.middle (chosen_upto v.second b (order.second_chosen v.first v.second v.middle) cb v.end))

  is_merge : IsMerge recorded above chosen merged
  is_merge =
      record {
        strict =
            record {
              irreflexive = λ a. false_from_ne_true (merged a a) (λ e. way_itself a (way-from a a e));
              transitive = λ a b c e f. way-to a c (way_then a b c (way-from a b e) (way-from b c f));
            };
        keeps_recorded = λ a b e. way-to a b (inl e);
        keeps_above = λ a b e. way-to a b (inr (record { first = a; second = b; start = inl refl; middle = e; end = inl refl }));
        adds_nothing = λ a b ca cb e. way_chosen a b ca cb (way-from a b e);
      }

pub orders_merge : OrdersMerge
orders_merge n recorded chosen above strict order =
    let lt = merged n recorded chosen above strict order in
    let is = is_merge n recorded chosen above strict order in
    (lt, is, λ a b apart f. each_extends n lt is.strict a b apart f)
