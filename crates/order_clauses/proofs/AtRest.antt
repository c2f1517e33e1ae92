-- Where the unit rule has nothing to do, what is known is a strict order.
use Rattle.std.proofs.Common.{◌≡◌, ◌≢◌, ℕ, ◌<◌, ◌⊎◌, Bool, true, false, eqb, List, [], ◌∷◌, refl, sym, subst, inl, inr}
use Rattle.std.specs.Prelude.{Contains}
use Rattle.std.proofs.lemmas.Bool.{false_from_ne_true}
use Rattle.std.proofs.lemmas.Bool.Decides.{eqb_tells}
use Rattle.clause_store.specs.declared.lit.Lit.{Lit}
use Rattle.clause_store.specs.Literals.{opposite}
use Rattle.clause_store.specs.UnitRule.{Partial, MakesTrue, MakesFalse, IsAtRest}
use Rattle.clause_store.proofs.Members.{Contains-cons_cases, Contains-nil}
use Rattle.clause_store.proofs.Rest.{forced, last_of_two, given-opposite}
use Rattle.order_clauses.specs.declared.order_lit.OrderLit.{OrderLit}
use Rattle.order_clauses.specs.declared.order_lit.OrderLit.TheVariants as order_lit
use Rattle.order_clauses.specs.declared.pair.Pair.{Pair}
use Rattle.order_clauses.specs.Literals.{known_before}
use Rattle.order_clauses.specs.Orders.{IsStrict, IsStrictBelow}
use Rattle.order_clauses.specs.Tables.{IsTable}
use Rattle.order_clauses.specs.Clauses.{PairClause, TripleClause, AreNeighbours, NeighbourClause, RingClause, OrderClause}
use Rattle.order_clauses.proofs.Counts.{lower-first}
use Rattle.order_clauses.proofs.Chains.{along}
use Rattle.order_clauses.proofs.Known.{Known, known-parts, known-from, known-literal, Opening, Ways, way, recorded-known, literal-known, literal-differ, against, known-once}

-- literals of clauses, whatever their order

first_of_two : (v : Partial) (a b : Lit) → IsAtRest v (a ∷ b ∷ []) → MakesFalse v b → MakesTrue v a
first_of_two v a b rest fb = forced v (a ∷ b ∷ []) a rest (λ k listed. go k (Contains-cons_cases a (b ∷ []) k listed))
  where
    last : (k : Lit) → (b ≡ k) ⊎ Contains [] k → (k ≡ a) ⊎ MakesFalse v k
    last k (inl e) = inr (subst (λ (l : Lit). MakesFalse v l) e fb)
    last k (inr none) = absurd (Contains-nil k none)

    go : (k : Lit) → (a ≡ k) ⊎ Contains (b ∷ []) k → (k ≡ a) ⊎ MakesFalse v k
    go k (inl e) = inl (sym e)
    go k (inr listed) = last k (Contains-cons_cases b [] k listed)

one_of_three : (v : Partial) (a b c l : Lit) → (a ≡ l) ⊎ MakesFalse v a → (b ≡ l) ⊎ MakesFalse v b → (c ≡ l) ⊎ MakesFalse v c
    → IsAtRest v (a ∷ b ∷ c ∷ []) → MakesTrue v l
one_of_three v a b c l fa fb fc rest = forced v (a ∷ b ∷ c ∷ []) l rest (λ k listed. first k (Contains-cons_cases a (b ∷ c ∷ []) k listed))
  where
    moved : (m k : Lit) → (m ≡ l) ⊎ MakesFalse v m → m ≡ k → (k ≡ l) ⊎ MakesFalse v k
    moved m k h e = subst (λ (x : Lit). (x ≡ l) ⊎ MakesFalse v x) e h

    third : (k : Lit) → (c ≡ k) ⊎ Contains [] k → (k ≡ l) ⊎ MakesFalse v k
    third k (inl e) = moved c k fc e
    third k (inr none) = absurd (Contains-nil k none)

    second : (k : Lit) → (b ≡ k) ⊎ Contains (c ∷ []) k → (k ≡ l) ⊎ MakesFalse v k
    second k (inl e) = moved b k fb e
    second k (inr listed) = third k (Contains-cons_cases c [] k listed)

    first : (k : Lit) → (a ≡ k) ⊎ Contains (b ∷ c ∷ []) k → (k ≡ l) ⊎ MakesFalse v k
    first k (inl e) = moved a k fa e
    first k (inr listed) = second k (Contains-cons_cases b (c ∷ []) k listed)

-- the order clauses of a table at rest
pub record Resting (n : ℕ) (recorded : ℕ → ℕ → Bool) (lit : ℕ → ℕ → OrderLit) (first : ℕ) (pairs : List Pair) (v : Partial) : Type 0 where
  pub strict : IsStrictBelow n recorded
  pub table : IsTable n recorded lit first pairs
  pub rested : (c : List Lit) → OrderClause n recorded lit c → IsAtRest v c

pair_rests : (n : ℕ) (recorded : ℕ → ℕ → Bool) (lit : ℕ → ℕ → OrderLit) (first : ℕ) (pairs : List Pair) (v : Partial) → Resting n recorded lit first pairs v
    → (a b x : ℕ) → a < n → b < n → x < n → AreNeighbours n recorded a b → (p q : Lit) → lit x b ≡ order_lit.Is p → lit a x ≡ order_lit.Is q
    → IsAtRest v (p ∷ q ∷ [])
pair_rests n recorded lit first pairs v ctx a b x a_in b_in x_in near p q e f =
    let pair : PairClause (lit x b) (lit a x) (p ∷ q ∷ []) = record { one = p; other = q; is_one = e; is_other = f; clause = refl } in
    let of_b : NeighbourClause n recorded lit a b (p ∷ q ∷ []) =
    record { neighbours = near; clause = record { at = x; within = x_in; kind = pair } }
    in
    ctx.rested (p ∷ q ∷ []) (inl (record { at = a; within = a_in; kind = record { at = b; within = b_in; kind = of_b } }))

ring_rests : (n : ℕ) (recorded : ℕ → ℕ → Bool) (lit : ℕ → ℕ → OrderLit) (first : ℕ) (pairs : List Pair) (v : Partial) → Resting n recorded lit first pairs v
    → (i j k : ℕ) → i < n → j < i → k < j → (c : List Lit) → RingClause lit i j k c → IsAtRest v c
ring_rests n recorded lit first pairs v ctx i j k i_in j_in k_in c ring =
    ctx.rested c (inr (record { at = i; within = i_in; kind = record { at = j; within = j_in; kind = record { at = k; within = k_in; kind = ring } } }))

triple : (x y z : OrderLit) (p q r : Lit) → x ≡ order_lit.Is p → y ≡ order_lit.Is q → z ≡ order_lit.Is r → TripleClause x y z (p ∷ q ∷ r ∷ [])
triple x y z p q r e f g = record { one = p; other = q; third = r; is_one = e; is_other = f; is_third = g; clause = refl }

-- b doesn't stand before a, nor x before b: so a stands before x
ring_closed : (n : ℕ) (recorded : ℕ → ℕ → Bool) (lit : ℕ → ℕ → OrderLit) (first : ℕ) (pairs : List Pair) (v : Partial) → Resting n recorded lit first pairs v
    → (a b x : ℕ) → a < n → b < n → x < n → (p q r : Lit) → lit b a ≡ order_lit.Is p → lit x b ≡ order_lit.Is q → lit a x ≡ order_lit.Is r
    → MakesFalse v p → MakesFalse v q → MakesTrue v r
ring_closed n recorded lit first pairs v ctx a b x a_in b_in x_in p q r e f g fp fq =
    go
    (lower-first b a (literal-differ n recorded lit first pairs ctx.table b a p e))
    (lower-first x b (literal-differ n recorded lit first pairs ctx.table x b q f))
    (lower-first a x (literal-differ n recorded lit first pairs ctx.table a x r g))
  where
    go : (b < a) ⊎ (a < b) → (x < b) ⊎ (b < x) → (a < x) ⊎ (x < a) → MakesTrue v r
    go (inl ba) (inl xb) _ =
        one_of_three v p q r r (inr fp) (inr fq) (inl refl)
        (ring_rests n recorded lit first pairs v ctx a b x a_in ba xb (p ∷ q ∷ r ∷ []) (inl (triple (lit b a) (lit x b) (lit a x) p q r e f g)))
    go (inl ba) (inr bx) (inl ax) =
        one_of_three v r p q r (inl refl) (inr fp) (inr fq)
        (ring_rests n recorded lit first pairs v ctx x a b x_in ax ba (r ∷ p ∷ q ∷ []) (inl (triple (lit a x) (lit b a) (lit x b) r p q g e f)))
    go (inl ba) (inr bx) (inr xa) =
        one_of_three v p q r r (inr fp) (inr fq) (inl refl)
        (ring_rests n recorded lit first pairs v ctx a x b a_in xa bx (p ∷ q ∷ r ∷ []) (inr (triple (lit b a) (lit x b) (lit a x) p q r e f g)))
    go (inr ab) (inl xb) (inl ax) =
        one_of_three v q r p r (inr fq) (inl refl) (inr fp)
        (ring_rests n recorded lit first pairs v ctx b x a b_in xb ax (q ∷ r ∷ p ∷ []) (inl (triple (lit x b) (lit a x) (lit b a) q r p f g e)))
    go (inr ab) (inl xb) (inr xa) =
        one_of_three v q r p r (inr fq) (inl refl) (inr fp)
        (ring_rests n recorded lit first pairs v ctx b a x b_in ab xa (q ∷ r ∷ p ∷ []) (inr (triple (lit x b) (lit a x) (lit b a) q r p f g e)))
    go (inr ab) (inr bx) _ =
        one_of_three v r p q r (inl refl) (inr fp) (inr fq)
        (ring_rests n recorded lit first pairs v ctx x b a x_in bx ab (r ∷ p ∷ q ∷ []) (inr (triple (lit a x) (lit b a) (lit x b) r p q g e f)))

-- a recorded neighbour of what is known to stand before x stands before x, or is it

abbrev Down : ℕ → (ℕ → ℕ → OrderLit) → Partial → ℕ → ℕ → Type 0
Down n lit v x y = Known n lit v y x ⊎ (y ≡ x)

abbrev Up : ℕ → (ℕ → ℕ → OrderLit) → Partial → ℕ → ℕ → Type 0
Up n lit v x y = Known n lit v x y ⊎ (x ≡ y)

down_one : (n : ℕ) (recorded : ℕ → ℕ → Bool) (lit : ℕ → ℕ → OrderLit) (first : ℕ) (pairs : List Pair) (v : Partial) → Resting n recorded lit first pairs v
    → (x : ℕ) → x < n → (a b : ℕ) → a < n → b < n → AreNeighbours n recorded a b → Down n lit v x b → Down n lit v x a
down_one n recorded lit first pairs v ctx x x_in a b a_in b_in near (inr e) =
    inl (subst (λ (t : ℕ). Known n lit v a t) e (recorded-known n recorded lit first pairs ctx.strict ctx.table v a b a_in b_in near.before))
down_one n recorded lit first pairs v ctx x x_in a b a_in b_in near (inl k) = go (eqb_tells a x)
  where
    by_clause : (o : Opening lit a x) → (m : Opening lit b x) → Known n lit v a x
    by_clause o m =
        literal-known n recorded lit first pairs ctx.table v a x a_in x_in o.literal o.forth
        (last_of_two v (opposite m.literal) o.literal
        (pair_rests n recorded lit first pairs v ctx a b x a_in b_in x_in near (opposite m.literal) o.literal m.back o.forth)
        (given-opposite v m.literal true (known-literal n lit v b x m.literal k m.forth)))

    with_open : Opening lit a x → Ways recorded lit b x → Known n lit v a x
    with_open o (inl r) =
        recorded-known n recorded lit first pairs ctx.strict ctx.table v a x a_in x_in (ctx.strict.transitive a b x a_in b_in x_in near.before r)
    with_open o (inr (inl r)) = absurd (against n recorded lit first pairs ctx.strict ctx.table v x b r k)
    with_open o (inr (inr m)) = by_clause o m

    by_way : Ways recorded lit a x → Known n lit v a x
    by_way (inl r) = recorded-known n recorded lit first pairs ctx.strict ctx.table v a x a_in x_in r
    by_way (inr (inl r)) =
        absurd (against n recorded lit first pairs ctx.strict ctx.table v x b (ctx.strict.transitive x a b x_in a_in b_in r near.before) k)
    by_way (inr (inr o)) = with_open o (way n recorded lit first pairs ctx.table b x b_in x_in k.differ)

    go : ((eqb a x ≡ true) × (a ≡ x)) ⊎ ((eqb a x ≡ false) × (a ≢ x)) → Down n lit v x a
    go (inl same) = inr same.1
    go (inr other) = inl (by_way (way n recorded lit first pairs ctx.table a x a_in x_in other.1))

up_one : (n : ℕ) (recorded : ℕ → ℕ → Bool) (lit : ℕ → ℕ → OrderLit) (first : ℕ) (pairs : List Pair) (v : Partial) → Resting n recorded lit first pairs v
    → (x : ℕ) → x < n → (a b : ℕ) → a < n → b < n → AreNeighbours n recorded a b → Up n lit v x a → Up n lit v x b
up_one n recorded lit first pairs v ctx x x_in a b a_in b_in near (inr e) =
    inl (subst (λ (t : ℕ). Known n lit v t b) (sym e) (recorded-known n recorded lit first pairs ctx.strict ctx.table v a b a_in b_in near.before))
up_one n recorded lit first pairs v ctx x x_in a b a_in b_in near (inl k) = go (eqb_tells x b)
  where
    by_clause : (o : Opening lit x b) → (m : Opening lit x a) → Known n lit v x b
    by_clause o m =
        literal-known n recorded lit first pairs ctx.table v x b x_in b_in o.literal o.forth
        (first_of_two v o.literal (opposite m.literal)
        (pair_rests n recorded lit first pairs v ctx a b x a_in b_in x_in near o.literal (opposite m.literal) o.forth m.back)
        (given-opposite v m.literal true (known-literal n lit v x a m.literal k m.forth)))

    with_open : Opening lit x b → Ways recorded lit x a → Known n lit v x b
    with_open o (inl r) =
        recorded-known n recorded lit first pairs ctx.strict ctx.table v x b x_in b_in (ctx.strict.transitive x a b x_in a_in b_in r near.before)
    with_open o (inr (inl r)) = absurd (against n recorded lit first pairs ctx.strict ctx.table v a x r k)
    with_open o (inr (inr m)) = by_clause o m

    by_way : Ways recorded lit x b → Known n lit v x b
    by_way (inl r) = recorded-known n recorded lit first pairs ctx.strict ctx.table v x b x_in b_in r
    by_way (inr (inl r)) =
        absurd (against n recorded lit first pairs ctx.strict ctx.table v a x (ctx.strict.transitive a b x a_in b_in x_in near.before r) k)
    by_way (inr (inr o)) = with_open o (way n recorded lit first pairs ctx.table x a x_in a_in k.differ)

    go : ((eqb x b ≡ true) × (x ≡ b)) ⊎ ((eqb x b ≡ false) × (x ≢ b)) → Up n lit v x b
    go (inl same) = inr same.1
    go (inr other) = inl (by_way (way n recorded lit first pairs ctx.table x b x_in b_in other.1))

down : (n : ℕ) (recorded : ℕ → ℕ → Bool) (lit : ℕ → ℕ → OrderLit) (first : ℕ) (pairs : List Pair) (v : Partial) → Resting n recorded lit first pairs v
    → (a b x : ℕ) → a < n → recorded a b ≡ true → Known n lit v b x → Known n lit v a x
down n recorded lit first pairs v ctx a b x a_in r k =
    go
    (along n recorded ctx.strict (λ s t. Down n lit v x t → Down n lit v x s)
    (down_one n recorded lit first pairs v ctx x k.right)
    (λ s m t one two d. one (two d))
    a b a_in k.left r (inl k))
  where
    go : Down n lit v x a → Known n lit v a x
    go (inl h) = h
    go (inr e) = absurd (against n recorded lit first pairs ctx.strict ctx.table v x b (subst (λ (t : ℕ). recorded t b ≡ true) e r) k)

up : (n : ℕ) (recorded : ℕ → ℕ → Bool) (lit : ℕ → ℕ → OrderLit) (first : ℕ) (pairs : List Pair) (v : Partial) → Resting n recorded lit first pairs v
    → (x a b : ℕ) → b < n → Known n lit v x a → recorded a b ≡ true → Known n lit v x b
up n recorded lit first pairs v ctx x a b b_in k r =
    go
    (along n recorded ctx.strict (λ s t. Up n lit v x s → Up n lit v x t)
    (up_one n recorded lit first pairs v ctx x k.left)
    (λ s m t one two d. two (one d))
    a b k.right b_in r (inl k))
  where
    go : Up n lit v x b → Known n lit v x b
    go (inl h) = h
    go (inr e) = absurd (against n recorded lit first pairs ctx.strict ctx.table v a x (subst (λ (t : ℕ). recorded a t ≡ true) (sym e) r) k)

known-then : (n : ℕ) (recorded : ℕ → ℕ → Bool) (lit : ℕ → ℕ → OrderLit) (first : ℕ) (pairs : List Pair) (v : Partial) → Resting n recorded lit first pairs v
    → (a b x : ℕ) → Known n lit v a b → Known n lit v b x → Known n lit v a x
known-then n recorded lit first pairs v ctx a b x k h =
    first_way (way n recorded lit first pairs ctx.table a b k.left k.right k.differ) (way n recorded lit first pairs ctx.table b x h.left h.right h.differ)
  where
    differ : a ≢ x
    differ e = known-once n recorded lit first pairs ctx.strict ctx.table v a b k (subst (λ (t : ℕ). Known n lit v b t) (sym e) h)

    last_way : Opening lit a b → Opening lit b x → Ways recorded lit a x → Known n lit v a x
    last_way o m (inl r) = recorded-known n recorded lit first pairs ctx.strict ctx.table v a x k.left h.right r
    last_way o m (inr (inl r)) =
        absurd (known-once n recorded lit first pairs ctx.strict ctx.table v a b k (up n recorded lit first pairs v ctx b x a k.left h r))
    last_way o m (inr (inr l)) =
        literal-known n recorded lit first pairs ctx.table v a x k.left h.right l.literal l.forth
        (ring_closed n recorded lit first pairs v ctx a b x k.left k.right h.right (opposite o.literal) (opposite m.literal) l.literal o.back m.back l.forth
        (given-opposite v o.literal true (known-literal n lit v a b o.literal k o.forth))
        (given-opposite v m.literal true (known-literal n lit v b x m.literal h m.forth)))

    first_way : Ways recorded lit a b → Ways recorded lit b x → Known n lit v a x
    first_way (inl r) _ = down n recorded lit first pairs v ctx a b x k.left r h
    first_way (inr (inl r)) _ = absurd (against n recorded lit first pairs ctx.strict ctx.table v b a r k)
    first_way (inr (inr o)) (inl r) = up n recorded lit first pairs v ctx a b x h.right k r
    first_way (inr (inr o)) (inr (inl r)) = absurd (against n recorded lit first pairs ctx.strict ctx.table v x b r h)
    first_way (inr (inr o)) (inr (inr m)) = last_way o m (way n recorded lit first pairs ctx.table a x k.left h.right differ)

pub rests_strict : (n : ℕ) (recorded : ℕ → ℕ → Bool) (lit : ℕ → ℕ → OrderLit) (first : ℕ) (pairs : List Pair) (v : Partial) → Resting n recorded lit first pairs v
    → IsStrict (known_before n lit v)
rests_strict n recorded lit first pairs v ctx =
    record {
      irreflexive = λ a. false_from_ne_true (known_before n lit v a a) (λ e. (known-parts n lit v a a e).differ refl);
      transitive =
          λ a b c e f.
          known-from n lit v a c (known-then n recorded lit first pairs v ctx a b c (known-parts n lit v a b e) (known-parts n lit v b c f));
    }
