-- Order clauses are the total orders, and what is open at rest goes both ways.
use Rattle.std.proofs.Common.{◌≡◌, ◌≢◌, ℕ, ◌<◌, ◌+◌, ◌⊎◌, Bool, true, false, List, ◌++◌, refl, sym, ◌∙◌, ap, subst, inl, inr, arith}
use Rattle.std.specs.Prelude.{Contains}
use Rattle.std.proofs.lemmas.Bool.{false≢true, false_from_ne_true}
use Rattle.std.proofs.lemmas.List.Elements.{All-append, All-contains, Contains-append_right}
use Rattle.clause_store.specs.declared.lit.Lit.{Lit}
use Rattle.clause_store.specs.Literals.{Assignment, opposite, literal_value, IsTrueUnder, Satisfies}
use Rattle.clause_store.specs.UnitRule.{Partial, IsAtRest, AllAtRest}
use Rattle.clause_store.specs.Formula.{Formula, AllKnown}
use Rattle.clause_store.proofs.Members.{All-from_contains}
use Rattle.clause_store.proofs.Agreement.{alike}
use Rattle.clause_store.proofs.Rest.{decided, rest-decided, true_decided, false_decided, given-opposite, open_not_true}
use Rattle.order_clauses.specs.declared.order_lit.OrderLit.{OrderLit}
use Rattle.order_clauses.specs.declared.pair.Pair.{Pair}
use Rattle.order_clauses.specs.Literals.{literal_of, spelled, all_given, known_before}
use Rattle.order_clauses.specs.Orders.{IsStrict, IsStrictBelow, IsTotalAbove, IsTotalBelow}
use Rattle.order_clauses.specs.Tables.{pair_at, IsTable, IsOpened, SpellsOrder}
use Rattle.order_clauses.specs.Clauses.{Adds, OrderClause}
use Rattle.order_clauses.specs.Laws.{TablesAreOrders, OpenGoesBothWays}
use Rattle.order_clauses.proofs.Extends.{each_extends}
use Rattle.order_clauses.proofs.Known.{Known, known-parts, known-from, known-literal, Opening, Ways, way, recorded-known, literal-known, literal-differ}
use Rattle.order_clauses.proofs.AtRest.{Resting, rests_strict}
use Rattle.order_clauses.proofs.Complete.{with_order, with_order-below, spells_order, Spelling, order_true}

rested : (n : ℕ) (recorded : ℕ → ℕ → Bool) (lit : ℕ → ℕ → OrderLit) (first : ℕ) (pairs : List Pair) (between new : Formula)
    → IsStrictBelow n recorded → IsTable n recorded lit first pairs → Adds between new (OrderClause n recorded lit)
    → (v : Partial) → AllAtRest v new.clauses → Resting n recorded lit first pairs v
rested n recorded lit first pairs between new strict table adds v rest =
    record {
      strict = strict;
      table = table;
      rested =
          λ c kind.
          All-contains (IsAtRest v) new.clauses c rest
          (subst (λ (cs : List (List Lit)). Contains cs c) (sym adds.clauses) (Contains-append_right between.clauses adds.more c (adds.each c kind)));
    }

one_way : (n : ℕ) (recorded : ℕ → ℕ → Bool) (lit : ℕ → ℕ → OrderLit) (first : ℕ) (pairs : List Pair)
    → IsStrictBelow n recorded → IsTable n recorded lit first pairs
    → (w : Assignment) (a b : ℕ) → a < n → b < n → a ≢ b → Known n lit (decided w) a b ⊎ Known n lit (decided w) b a
one_way n recorded lit first pairs strict table w a b a_in b_in differ = go (way n recorded lit first pairs table a b a_in b_in differ)
  where
    by_value : (o : Opening lit a b) → (t : Bool) → literal_value w o.literal ≡ t → Known n lit (decided w) a b ⊎ Known n lit (decided w) b a
    by_value o true h =
        inl (literal-known n recorded lit first pairs table (decided w) a b a_in b_in o.literal o.forth (true_decided w o.literal h))
    by_value o false h =
        inr
        (literal-known n recorded lit first pairs table (decided w) b a b_in a_in (opposite o.literal) o.back
        (given-opposite (decided w) o.literal false (false_decided w o.literal h)))

    go : Ways recorded lit a b → Known n lit (decided w) a b ⊎ Known n lit (decided w) b a
    go (inl r) = inl (recorded-known n recorded lit first pairs strict table (decided w) a b a_in b_in r)
    go (inr (inl r)) = inr (recorded-known n recorded lit first pairs strict table (decided w) b a b_in a_in r)
    go (inr (inr o)) = by_value o (literal_value w o.literal) refl

as_tests : (n : ℕ) (lit : ℕ → ℕ → OrderLit) (v : Partial) (a b : ℕ) → Known n lit v a b ⊎ Known n lit v b a
    → (known_before n lit v a b ≡ true) ⊎ (known_before n lit v b a ≡ true)
as_tests n lit v a b (inl k) = inl (known-from n lit v a b k)
as_tests n lit v a b (inr k) = inr (known-from n lit v b a k)

spelled_by : (n : ℕ) (recorded : ℕ → ℕ → Bool) (lit : ℕ → ℕ → OrderLit) (pairs : List Pair) (old between new : Formula)
    → AllKnown old → IsStrictBelow n recorded → IsTable n recorded lit old.vars pairs
    → between.clauses ≡ old.clauses → Adds between new (OrderClause n recorded lit)
    → (w : Assignment) → Satisfies w old.clauses → (lt : ℕ → ℕ → Bool) → IsTotalBelow n recorded lt → SpellsOrder n lit lt old.vars w new
spelled_by n recorded lit pairs old between new known strict table same adds w sat lt total =
    let u : Assignment = with_order old.vars pairs lt w in
    let agrees : (x : ℕ) → x < old.vars → u x ≡ w x = λ x below. with_order-below old.vars pairs lt w x below in
    let spells : (a b : ℕ) → a < n → b < n → a ≢ b → spelled u (lit a b) ≡ lt a b = spells_order n recorded lit old.vars pairs strict table lt total w in
    let spelling : Spelling n recorded lit lt u =
    record { total = total; own = λ a b l e. literal-differ n recorded lit old.vars pairs table a b l e; spells = spells }
    in
    record {
      extended = u;
      agrees = agrees;
      satisfies =
          subst (λ (cs : List (List Lit)). Satisfies u cs) (sym (adds.clauses ∙ ap (λ (cs : List (List Lit)). cs ++ adds.more) same))
          (All-append (IsTrueUnder u) old.clauses adds.more (alike old w u known agrees sat)
          (All-from_contains (IsTrueUnder u) adds.more (λ c listed. order_true n recorded lit lt u spelling c (adds.only c listed))));
      spells = spells;
    }

pub tables_orders : TablesAreOrders
tables_orders n recorded lit pairs old between new known strict table vars same adds =
    let resting : (v : Partial) → AllAtRest v new.clauses → Resting n recorded lit old.vars pairs v =
    λ v rest. rested n recorded lit old.vars pairs between new strict table adds v rest
    in
    let keeps : (v : Partial) (a b : ℕ) → a < n → b < n → recorded a b ≡ true → known_before n lit v a b ≡ true =
    λ v a b a_in b_in r. known-from n lit v a b (recorded-known n recorded lit old.vars pairs strict table v a b a_in b_in r)
    in
    let rests : (v : Partial) → AllAtRest v new.clauses → IsStrict (known_before n lit v) =
    λ v rest. rests_strict n recorded lit old.vars pairs v (resting v rest)
    in
    record {
      sound =
          λ w satisfied.
          record {
            strict = rests (all_given w) (rest-decided w new.clauses satisfied);
            keeps = keeps (all_given w);
            all = λ a b a_in b_in differ. as_tests n lit (all_given w) a b (one_way n recorded lit old.vars pairs strict table w a b a_in b_in differ);
          };
      complete = spelled_by n recorded lit pairs old between new known strict table same adds;
      keeps = keeps;
      rests = rests;
      either = λ v rest a b a_in b_in differ f. each_extends n (known_before n lit v) (rests v rest) a b differ f;
    }

pub goes_both_ways : OpenGoesBothWays
goes_both_ways n recorded lit first pairs old new table orders v rest k k_in is_open up = go up
  where
    a : ℕ
    a = (pair_at pairs k).first

    b : ℕ
    b = (pair_at pairs k).second

    o : IsOpened n recorded lit first pairs k a b
    o = table.listed k k_in

    a_in : a < n
    a_in = omega (arith, o.rising, o.within)

    differ : a ≢ b
    differ e = omega (arith, o.rising, e)

    not_forth : known_before n lit v a b ≡ false
    not_forth =
        false_from_ne_true (known_before n lit v a b)
        (λ e.
        open_not_true v (literal_of (first + k) true) is_open
        (known-literal n lit v a b (literal_of (first + k) true) (known-parts n lit v a b e) o.forth))

    not_back : known_before n lit v b a ≡ false
    not_back =
        false_from_ne_true (known_before n lit v b a)
        (λ e.
        open_not_true v (literal_of (first + k) false) is_open
        (known-literal n lit v b a (literal_of (first + k) false) (known-parts n lit v b a e) o.back))

    once : (total : ℕ → ℕ → Bool) → IsStrict total → total b a ≡ true → total a b ≡ false
    once total strict h = false_from_ne_true (total a b) (λ e. false≢true (sym (strict.irreflexive a) ∙ strict.transitive a b a e h))

    go : (up : Bool) → (total : ℕ → ℕ → Bool) × IsTotalAbove n (known_before n lit v) total × (total a b ≡ up)
    go true = orders.either v rest a b a_in o.within differ not_back
    go false =
        let some = orders.either v rest b a o.within a_in (λ e. differ (sym e)) not_forth in
        (some.0, some.1, once some.0 some.1.strict some.2)
