-- Each total order that keeps the recorded pairs is spelled by an assignment that satisfies the order clauses.
use Rattle.std.proofs.Common.{◌≡◌, ◌≢◌, ℕ, ◌<◌, ◌+◌, ◌-◌, ◌⊎◌, Bool, true, false, not, cond, List, [], ◌∷◌, refl, sym, ◌∙◌, ap, subst, inl, inr, arith}
use Rattle.std.specs.Prelude.{nat_lt}
use Rattle.std.proofs.lemmas.Bool.{false≢true, cond-true, cond-false, lt-ltb, ltb-true, false_from_ne_true}
use Rattle.clause_store.specs.declared.lit.Lit.{Lit}
use Rattle.clause_store.specs.Literals.{Assignment, literal_value, IsTrueUnder}
use Rattle.clause_store.proofs.Members.{Contains-head, Contains-tail, Any-from_contains}
use Rattle.order_clauses.specs.declared.order_lit.OrderLit.{OrderLit}
use Rattle.order_clauses.specs.declared.order_lit.OrderLit.TheVariants as order_lit
use Rattle.order_clauses.specs.declared.pair.Pair.{Pair}
use Rattle.order_clauses.specs.Literals.{spelled}
use Rattle.order_clauses.specs.Orders.{IsStrictBelow, IsTotalBelow}
use Rattle.order_clauses.specs.Tables.{pair_at, IsOpened, IsTable}
use Rattle.order_clauses.specs.Clauses.{TripleClause, NeighbourClauses, RingClauses, OrderClause}
use Rattle.order_clauses.proofs.Counts.{lower-first}
use Rattle.order_clauses.proofs.Known.{recorded-once}

-- an assignment, and from a variable on the order of the pairs
pub with_order : ℕ → List Pair → (ℕ → ℕ → Bool) → Assignment → Assignment
with_order first pairs lt w x = cond (nat_lt x first) (w x) (lt (pair_at pairs (x - first)).first (pair_at pairs (x - first)).second)

pub with_order-below : (first : ℕ) (pairs : List Pair) (lt : ℕ → ℕ → Bool) (w : Assignment) (x : ℕ) → x < first → with_order first pairs lt w x ≡ w x
unfolding with_order
with_order-below first pairs lt w x below =
    cond-true (nat_lt x first) (w x) (lt (pair_at pairs (x - first)).first (pair_at pairs (x - first)).second) (lt-ltb x first below)

with_order-at : (first : ℕ) (pairs : List Pair) (lt : ℕ → ℕ → Bool) (w : Assignment) (k : ℕ)
    → with_order first pairs lt w (first + k) ≡ lt (pair_at pairs k).first (pair_at pairs k).second
unfolding with_order
with_order-at first pairs lt w k =
    let x : ℕ = first + k in
    let back : x - first ≡ k = omega arith in
    cond-false (nat_lt x first) (w x) (lt (pair_at pairs (x - first)).first (pair_at pairs (x - first)).second)
    (false_from_ne_true (nat_lt x first) (λ e. omega (arith, ltb-true x first e)))
    ∙ ap (λ (j : ℕ). lt (pair_at pairs j).first (pair_at pairs j).second) back

other_way : (n : ℕ) (recorded lt : ℕ → ℕ → Bool) → IsTotalBelow n recorded lt → (a b : ℕ) → a < n → b < n → a ≢ b → not (lt a b) ≡ lt b a
other_way n recorded lt total a b a_in b_in differ = go (lt a b) refl
  where
    back : lt a b ≡ false → (lt a b ≡ true) ⊎ (lt b a ≡ true) → true ≡ lt b a
    back f (inl t) = absurd (false≢true (sym f ∙ t))
    back f (inr h) = sym h

    go : (t : Bool) → lt a b ≡ t → not (lt a b) ≡ lt b a
    go true h = ap (λ (b : Bool). not b) h ∙ sym (recorded-once n lt total.strict a b a_in b_in h)
    go false f = ap (λ (b : Bool). not b) f ∙ back f (total.all a b a_in b_in differ)

pub spells_order : (n : ℕ) (recorded : ℕ → ℕ → Bool) (lit : ℕ → ℕ → OrderLit) (first : ℕ) (pairs : List Pair)
    → IsStrictBelow n recorded → IsTable n recorded lit first pairs → (lt : ℕ → ℕ → Bool) → IsTotalBelow n recorded lt → (w : Assignment)
    → (a b : ℕ) → a < n → b < n → a ≢ b → spelled (with_order first pairs lt w) (lit a b) ≡ lt a b
spells_order n recorded lit first pairs strict table lt total w a b a_in b_in differ = go (recorded a b) refl (recorded b a) refl
  where
    u : Assignment
    u = with_order first pairs lt w

    value : (k x y : ℕ) → IsOpened n recorded lit first pairs k x y → u (first + k) ≡ lt x y
    value k x y o = with_order-at first pairs lt w k ∙ ap (λ (p : Pair). lt p.first p.second) o.pair

    by_pair : recorded a b ≡ false → recorded b a ≡ false → (a < b) ⊎ (b < a) → spelled u (lit a b) ≡ lt a b
    by_pair f g (inl lower) =
        let some = table.opened a b lower b_in f g in
        ap (λ (o : OrderLit). spelled u o) some.2.forth ∙ value some.0 a b some.2
    by_pair f g (inr lower) =
        let some = table.opened b a lower a_in g f in
        ap (λ (o : OrderLit). spelled u o) some.2.back ∙ ap (λ (t : Bool). not t) (value some.0 b a some.2)
        ∙ other_way n recorded lt total b a b_in a_in (λ e. differ (sym e))

    go : (t : Bool) → recorded a b ≡ t → (s : Bool) → recorded b a ≡ s → spelled u (lit a b) ≡ lt a b
    go true h s g = ap (λ (o : OrderLit). spelled u o) (table.always a b differ h) ∙ sym (total.keeps a b a_in b_in h)
    go false h true g =
        ap (λ (o : OrderLit). spelled u o) (table.never a b differ h g)
        ∙ sym (recorded-once n lt total.strict b a b_in a_in (total.keeps b a b_in a_in g))
    go false h false g = by_pair h g (lower-first a b differ)

-- clauses with a true literal

true_of_two : (u : Assignment) (p q : Lit) → (literal_value u p ≡ true) ⊎ (literal_value u q ≡ true) → IsTrueUnder u (p ∷ q ∷ [])
true_of_two u p q (inl h) = Any-from_contains (λ l. literal_value u l ≡ true) (p ∷ q ∷ []) p (Contains-head p (q ∷ [])) h
true_of_two u p q (inr h) = Any-from_contains (λ l. literal_value u l ≡ true) (p ∷ q ∷ []) q (Contains-tail p (q ∷ []) q (Contains-head q [])) h

true_of_three : (u : Assignment) (p q r : Lit) → (literal_value u p ≡ true) ⊎ ((literal_value u q ≡ true) ⊎ (literal_value u r ≡ true))
    → IsTrueUnder u (p ∷ q ∷ r ∷ [])
true_of_three u p q r (inl h) = Any-from_contains (λ l. literal_value u l ≡ true) (p ∷ q ∷ r ∷ []) p (Contains-head p (q ∷ r ∷ [])) h
true_of_three u p q r (inr (inl h)) =
    Any-from_contains (λ l. literal_value u l ≡ true) (p ∷ q ∷ r ∷ []) q (Contains-tail p (q ∷ r ∷ []) q (Contains-head q (r ∷ []))) h
true_of_three u p q r (inr (inr h)) =
    Any-from_contains (λ l. literal_value u l ≡ true) (p ∷ q ∷ r ∷ []) r
    (Contains-tail p (q ∷ r ∷ []) r (Contains-tail q (r ∷ []) r (Contains-head r []))) h

-- an assignment that spells a total order
pub record Spelling (n : ℕ) (recorded : ℕ → ℕ → Bool) (lit : ℕ → ℕ → OrderLit) (lt : ℕ → ℕ → Bool) (u : Assignment) : Type 0 where
  pub total : IsTotalBelow n recorded lt
  pub own : (a b : ℕ) (l : Lit) → lit a b ≡ order_lit.Is l → a ≢ b
  pub spells : (a b : ℕ) → a < n → b < n → a ≢ b → spelled u (lit a b) ≡ lt a b

literal_true : (n : ℕ) (recorded : ℕ → ℕ → Bool) (lit : ℕ → ℕ → OrderLit) (lt : ℕ → ℕ → Bool) (u : Assignment) → Spelling n recorded lit lt u
    → (a b : ℕ) → a < n → b < n → (l : Lit) → lit a b ≡ order_lit.Is l → lt a b ≡ true → literal_value u l ≡ true
literal_true n recorded lit lt u s a b a_in b_in l e h =
    sym (ap (λ (o : OrderLit). spelled u o) e) ∙ s.spells a b a_in b_in (s.own a b l e) ∙ h

neighbours_true : (n : ℕ) (recorded : ℕ → ℕ → Bool) (lit : ℕ → ℕ → OrderLit) (lt : ℕ → ℕ → Bool) (u : Assignment) → Spelling n recorded lit lt u
    → (c : List Lit) → NeighbourClauses n recorded lit c → IsTrueUnder u c
neighbours_true n recorded lit lt u s c kind =
    let a = kind.at in
    let b = kind.kind.at in
    let x = kind.kind.kind.clause.at in
    let a_in = kind.within in
    let b_in = kind.kind.within in
    let x_in = kind.kind.kind.clause.within in
    let pair = kind.kind.kind.clause.kind in
    let before : lt a b ≡ true = s.total.keeps a b a_in b_in kind.kind.kind.neighbours.before in
    subst (λ (d : List Lit). IsTrueUnder u d) (sym pair.clause)
    (true_of_two u pair.one pair.other (either_way a b x a_in b_in x_in pair.one pair.other pair.is_one pair.is_other before))
  where
    either_way : (a b x : ℕ) → a < n → b < n → x < n → (p q : Lit) → lit x b ≡ order_lit.Is p → lit a x ≡ order_lit.Is q → lt a b ≡ true
        → (literal_value u p ≡ true) ⊎ (literal_value u q ≡ true)
    either_way a b x a_in b_in x_in p q e f before = go (s.total.all a x a_in x_in (s.own a x q f))
      where
        go : (lt a x ≡ true) ⊎ (lt x a ≡ true) → (literal_value u p ≡ true) ⊎ (literal_value u q ≡ true)
        go (inl h) = inr (literal_true n recorded lit lt u s a x a_in x_in q f h)
        go (inr h) = inl (literal_true n recorded lit lt u s x b x_in b_in p e (s.total.strict.transitive x a b x_in a_in b_in h before))

ring_true : (n : ℕ) (recorded : ℕ → ℕ → Bool) (lit : ℕ → ℕ → OrderLit) (lt : ℕ → ℕ → Bool) (u : Assignment) → Spelling n recorded lit lt u
    → (a b x : ℕ) → a < n → b < n → x < n → (c : List Lit) → TripleClause (lit b a) (lit x b) (lit a x) c → IsTrueUnder u c
ring_true n recorded lit lt u s a b x a_in b_in x_in c t =
    subst (λ (d : List Lit). IsTrueUnder u d) (sym t.clause)
    (true_of_three u t.one t.other t.third
    (first_way (s.total.all b a b_in a_in (s.own b a t.one t.is_one)) (s.total.all x b x_in b_in (s.own x b t.other t.is_other))
    (s.total.all a x a_in x_in (s.own a x t.third t.is_third))))
  where
    first_way : (lt b a ≡ true) ⊎ (lt a b ≡ true) → (lt x b ≡ true) ⊎ (lt b x ≡ true) → (lt a x ≡ true) ⊎ (lt x a ≡ true)
        → (literal_value u t.one ≡ true) ⊎ ((literal_value u t.other ≡ true) ⊎ (literal_value u t.third ≡ true))
    first_way (inl h) _ _ = inl (literal_true n recorded lit lt u s b a b_in a_in t.one t.is_one h)
    first_way (inr _) (inl h) _ = inr (inl (literal_true n recorded lit lt u s x b x_in b_in t.other t.is_other h))
    first_way (inr _) (inr _) (inl h) = inr (inr (literal_true n recorded lit lt u s a x a_in x_in t.third t.is_third h))
    first_way (inr ab) (inr bx) (inr xa) =
        let ax : lt a x ≡ true = s.total.strict.transitive a b x a_in b_in x_in ab bx in
        absurd (false≢true (sym (s.total.strict.irreflexive a a_in) ∙ s.total.strict.transitive a x a a_in x_in a_in ax xa))

rings_true : (n : ℕ) (recorded : ℕ → ℕ → Bool) (lit : ℕ → ℕ → OrderLit) (lt : ℕ → ℕ → Bool) (u : Assignment) → Spelling n recorded lit lt u
    → (c : List Lit) → RingClauses n lit c → IsTrueUnder u c
rings_true n recorded lit lt u s c kind =
    let i = kind.at in
    let j = kind.kind.at in
    let k = kind.kind.kind.at in
    let i_in : i < n = kind.within in
    let j_in : j < n = omega (arith, kind.kind.within, i_in) in
    let k_in : k < n = omega (arith, kind.kind.kind.within, j_in) in
    go i j k i_in j_in k_in kind.kind.kind.kind
  where
    go : (i j k : ℕ) → i < n → j < n → k < n → TripleClause (lit j i) (lit k j) (lit i k) c ⊎ TripleClause (lit k i) (lit j k) (lit i j) c → IsTrueUnder u c
    go i j k i_in j_in k_in (inl t) = ring_true n recorded lit lt u s i j k i_in j_in k_in c t
    go i j k i_in j_in k_in (inr t) = ring_true n recorded lit lt u s i k j i_in k_in j_in c t

pub order_true : (n : ℕ) (recorded : ℕ → ℕ → Bool) (lit : ℕ → ℕ → OrderLit) (lt : ℕ → ℕ → Bool) (u : Assignment) → Spelling n recorded lit lt u
    → (c : List Lit) → OrderClause n recorded lit c → IsTrueUnder u c
order_true n recorded lit lt u s c (inl near) = neighbours_true n recorded lit lt u s c near
order_true n recorded lit lt u s c (inr ring) = rings_true n recorded lit lt u s c ring
