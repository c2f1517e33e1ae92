-- What is known of the order of two places.
use Rattle.std.proofs.Common.{◌≡◌, ◌≢◌, ℕ, ◌<◌, ◌+◌, ◌⊎◌, Bool, true, false, not, cond, ◌&&◌, Option, Some, None, List, refl, sym, ◌∙◌, ap, subst, inl, inr}
use Rattle.std.specs.Prelude.{nat_lt, nat_eq}
use Rattle.std.proofs.lemmas.Bool.{false≢true, eq-eqb, ne_eqb, and_parts, and_from, ltb-true, lt-ltb, not-true, false_from_ne_true}
use Rattle.clause_store.specs.declared.lit.Lit.{Lit}
use Rattle.clause_store.specs.Literals.{Assignment, opposite}
use Rattle.clause_store.specs.UnitRule.{Partial, MakesTrue}
use Rattle.clause_store.proofs.Rest.{true_not_false, given-opposite}
use Rattle.order_clauses.specs.declared.order_lit.OrderLit.{OrderLit}
use Rattle.order_clauses.specs.declared.order_lit.OrderLit.TheVariants as order_lit
use Rattle.order_clauses.specs.declared.pair.Pair.{Pair}
use Rattle.order_clauses.specs.Literals.{literal_of, spelled, is_value, is_known, all_given, known_before}
use Rattle.order_clauses.specs.Orders.{IsStrictBelow}
use Rattle.order_clauses.specs.Tables.{IsTable}
use Rattle.order_clauses.proofs.Counts.{lower-first}

abbrev is_literal : OrderLit → Bool
is_literal order_lit.Always = false
is_literal order_lit.Never = false
is_literal (order_lit.Is l) = true

pub never_is : (l : Lit) → order_lit.Never ≡ order_lit.Is l → ⊥
never_is l e = false≢true (ap (λ (o : OrderLit). is_literal o) e)

-- with all values given, what is known is what is true
given_value : (b p : Bool) → is_value (Some b) p ≡ cond p b (not b)
given_value true true = refl
given_value true false = refl
given_value false true = refl
given_value false false = refl

pub known_spelled : (w : Assignment) (o : OrderLit) → is_known (all_given w) o ≡ spelled w o
known_spelled w order_lit.Always = refl
known_spelled w order_lit.Never = refl
known_spelled w (order_lit.Is l) = given_value (w l.var) l.positive

value_is : (o : Option Bool) (b : Bool) → is_value o b ≡ true → o ≡ Some b
value_is None b e = absurd (false≢true e)
value_is (Some true) true e = refl
value_is (Some true) false e = absurd (false≢true e)
value_is (Some false) true e = absurd (false≢true e)
value_is (Some false) false e = refl

value_self : (b : Bool) → is_value (Some b) b ≡ true
value_self true = refl
value_self false = refl

is_value-of : (o : Option Bool) (b : Bool) → o ≡ Some b → is_value o b ≡ true
is_value-of o b e = subst (λ (p : Option Bool). is_value p b ≡ true) (sym e) (value_self b)

pub record Known (n : ℕ) (lit : ℕ → ℕ → OrderLit) (v : Partial) (a b : ℕ) : Type 0 where
  pub left : a < n
  pub right : b < n
  pub differ : a ≢ b
  pub known : is_known v (lit a b) ≡ true

pub known-parts : (n : ℕ) (lit : ℕ → ℕ → OrderLit) (v : Partial) (a b : ℕ) → known_before n lit v a b ≡ true → Known n lit v a b
known-parts n lit v a b e =
    let first = and_parts (nat_lt a n) (nat_lt b n && (not (nat_eq a b) && is_known v (lit a b))) e in
    let second = and_parts (nat_lt b n) (not (nat_eq a b) && is_known v (lit a b)) first.1 in
    let third = and_parts (not (nat_eq a b)) (is_known v (lit a b)) second.1 in
    record {
      left = ltb-true a n first.0;
      right = ltb-true b n second.0;
      differ = λ same. false≢true (sym (not-true (nat_eq a b) third.0) ∙ eq-eqb a b same);
      known = third.1;
    }

pub known-from : (n : ℕ) (lit : ℕ → ℕ → OrderLit) (v : Partial) (a b : ℕ) → Known n lit v a b → known_before n lit v a b ≡ true
known-from n lit v a b k =
    and_from (nat_lt a n) (nat_lt b n && (not (nat_eq a b) && is_known v (lit a b))) (lt-ltb a n k.left)
    (and_from (nat_lt b n) (not (nat_eq a b) && is_known v (lit a b)) (lt-ltb b n k.right)
    (and_from (not (nat_eq a b)) (is_known v (lit a b)) (ap (λ (t : Bool). not t) (ne_eqb a b k.differ)) k.known))

pub known-literal : (n : ℕ) (lit : ℕ → ℕ → OrderLit) (v : Partial) (a b : ℕ) (l : Lit) → Known n lit v a b → lit a b ≡ order_lit.Is l → MakesTrue v l
known-literal n lit v a b l k e =
    value_is (v l.var) l.positive (subst (λ (o : OrderLit). is_known v o ≡ true) e k.known)

-- two places, neither recorded to stand before the other
pub record Opening (lit : ℕ → ℕ → OrderLit) (a b : ℕ) : Type 0 where
  pub literal : Lit
  pub forth : lit a b ≡ order_lit.Is literal
  pub back : lit b a ≡ order_lit.Is (opposite literal)

abbrev pub Ways : (ℕ → ℕ → Bool) → (ℕ → ℕ → OrderLit) → ℕ → ℕ → Type 0
Ways recorded lit a b = (recorded a b ≡ true) ⊎ ((recorded b a ≡ true) ⊎ Opening lit a b)

section_way : (n : ℕ) (recorded : ℕ → ℕ → Bool) (lit : ℕ → ℕ → OrderLit) (first : ℕ) (pairs : List Pair) → IsTable n recorded lit first pairs
    → (a b : ℕ) → a < n → b < n → recorded a b ≡ false → recorded b a ≡ false → (a < b) ⊎ (b < a) → Opening lit a b
section_way n recorded lit first pairs table a b a_in b_in f g (inl lower) =
    let some = table.opened a b lower b_in f g in
    record { literal = literal_of (first + some.0) true; forth = some.2.forth; back = some.2.back }
section_way n recorded lit first pairs table a b a_in b_in f g (inr lower) =
    let some = table.opened b a lower a_in g f in
    record { literal = literal_of (first + some.0) false; forth = some.2.back; back = some.2.forth }

pub way : (n : ℕ) (recorded : ℕ → ℕ → Bool) (lit : ℕ → ℕ → OrderLit) (first : ℕ) (pairs : List Pair) → IsTable n recorded lit first pairs
    → (a b : ℕ) → a < n → b < n → a ≢ b → Ways recorded lit a b
way n recorded lit first pairs table a b a_in b_in differ = go (recorded a b) refl (recorded b a) refl
  where
    go : (t : Bool) → recorded a b ≡ t → (u : Bool) → recorded b a ≡ u → Ways recorded lit a b
    go true h u g = inl h
    go false h true g = inr (inl g)
    go false h false g = inr (inr (section_way n recorded lit first pairs table a b a_in b_in h g (lower-first a b differ)))

pub recorded-differ : (n : ℕ) (recorded : ℕ → ℕ → Bool) → IsStrictBelow n recorded → (a b : ℕ) → a < n → recorded a b ≡ true → a ≢ b
recorded-differ n recorded strict a b a_in r e =
    false≢true (sym (strict.irreflexive a a_in) ∙ subst (λ (t : ℕ). recorded a t ≡ true) (sym e) r)

pub recorded-once : (n : ℕ) (recorded : ℕ → ℕ → Bool) → IsStrictBelow n recorded → (a b : ℕ) → a < n → b < n → recorded a b ≡ true → recorded b a ≡ false
recorded-once n recorded strict a b a_in b_in r =
    false_from_ne_true (recorded b a) (λ s. false≢true (sym (strict.irreflexive a a_in) ∙ strict.transitive a b a a_in b_in a_in r s))

pub literal-differ : (n : ℕ) (recorded : ℕ → ℕ → Bool) (lit : ℕ → ℕ → OrderLit) (first : ℕ) (pairs : List Pair) → IsTable n recorded lit first pairs
    → (a b : ℕ) (l : Lit) → lit a b ≡ order_lit.Is l → a ≢ b
literal-differ n recorded lit first pairs table a b l e same =
    never_is l (sym (table.own a) ∙ subst (λ (t : ℕ). lit a t ≡ order_lit.Is l) (sym same) e)

pub literal-known : (n : ℕ) (recorded : ℕ → ℕ → Bool) (lit : ℕ → ℕ → OrderLit) (first : ℕ) (pairs : List Pair) → IsTable n recorded lit first pairs
    → (v : Partial) (a b : ℕ) → a < n → b < n → (l : Lit) → lit a b ≡ order_lit.Is l → MakesTrue v l → Known n lit v a b
literal-known n recorded lit first pairs table v a b a_in b_in l e t =
    record {
      left = a_in;
      right = b_in;
      differ = literal-differ n recorded lit first pairs table a b l e;
      known = subst (λ (o : OrderLit). is_known v o ≡ true) (sym e) (is_value-of (v l.var) l.positive t);
    }

pub recorded-known : (n : ℕ) (recorded : ℕ → ℕ → Bool) (lit : ℕ → ℕ → OrderLit) (first : ℕ) (pairs : List Pair)
    → IsStrictBelow n recorded → IsTable n recorded lit first pairs
    → (v : Partial) (a b : ℕ) → a < n → b < n → recorded a b ≡ true → Known n lit v a b
recorded-known n recorded lit first pairs strict table v a b a_in b_in r =
    let differ : a ≢ b = recorded-differ n recorded strict a b a_in r in
    record {
      left = a_in;
      right = b_in;
      differ = differ;
      known = subst (λ (o : OrderLit). is_known v o ≡ true) (sym (table.always a b differ r)) refl;
    }

-- what is recorded the other way round isn't known
pub against : (n : ℕ) (recorded : ℕ → ℕ → Bool) (lit : ℕ → ℕ → OrderLit) (first : ℕ) (pairs : List Pair)
    → IsStrictBelow n recorded → IsTable n recorded lit first pairs
    → (v : Partial) (a b : ℕ) → recorded a b ≡ true → Known n lit v b a → ⊥
against n recorded lit first pairs strict table v a b r k =
    false≢true
    (subst (λ (o : OrderLit). is_known v o ≡ true)
    (table.never b a k.differ (recorded-once n recorded strict a b k.right k.left r) r) k.known)

pub known-once : (n : ℕ) (recorded : ℕ → ℕ → Bool) (lit : ℕ → ℕ → OrderLit) (first : ℕ) (pairs : List Pair)
    → IsStrictBelow n recorded → IsTable n recorded lit first pairs
    → (v : Partial) (a b : ℕ) → Known n lit v a b → Known n lit v b a → ⊥
known-once n recorded lit first pairs strict table v a b k h = go (way n recorded lit first pairs table a b k.left k.right k.differ)
  where
    go : Ways recorded lit a b → ⊥
    go (inl r) = against n recorded lit first pairs strict table v a b r h
    go (inr (inl r)) = against n recorded lit first pairs strict table v b a r k
    go (inr (inr o)) =
        true_not_false v (opposite o.literal) (known-literal n lit v b a (opposite o.literal) h o.back)
        (given-opposite v o.literal true (known-literal n lit v a b o.literal k o.forth))
