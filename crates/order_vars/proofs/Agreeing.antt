-- Assignments and values at rest are total orders of the chosen steps that agree with the recorded order.
use Rattle.std.proofs.Common.{◌≡◌, ◌≢◌, ℕ, suc, ◌<◌, Bool, true, false, List, length, refl, sym, ◌∙◌, arith}
use Rattle.std.proofs.lemmas.Bool.{false_from_ne_true}
use Rattle.odr_log.specs.declared.log.Log.{Log}
use Rattle.odr_log.specs.declared.log.Pos.{Pos}
use Rattle.clause_store.specs.Literals.{Assignment}
use Rattle.clause_store.specs.UnitRule.{Partial}
use Rattle.clause_store.specs.Formula.{Formula}
use Rattle.order_clauses.specs.declared.order_lit.OrderLit.{OrderLit}
use Rattle.order_clauses.specs.declared.ordered.OrderedTable.{OrderedTable}
use Rattle.order_clauses.specs.Literals.{spelled, all_given, known_before}
use Rattle.order_clauses.specs.Orders.{IsTotalAbove}
use Rattle.order_clauses.specs.Grid.{recorded_in, lit_in}
use Rattle.order_clauses.proofs.Extends.{each_extends}
use Rattle.order_clauses.proofs.Known.{known-parts, known-from, known_spelled}
use Rattle.order_clauses.proofs.TotalOrders.{goes_both_ways}
use Rattle.order_vars.specs.Chosen.{IsOrderVars, AgreesWith}
use Rattle.order_vars.specs.Laws.{Keeps, AssignmentsAreOrders, OrdersAreAssignments, RestIsAnOrder, OpenPairsGoBothWays}

same_test : (p q : Bool) → (p ≡ true → q ≡ true) → (q ≡ true → p ≡ true) → p ≡ q
same_test true q to from = sym (to refl)
same_test false true to from = from refl
same_test false false to from = refl

before_spelled : (n : ℕ) (lit : ℕ → ℕ → OrderLit) (w : Assignment) (i j : ℕ) → i < n → j < n → i ≢ j → spelled w (lit i j) ≡ known_before n lit (all_given w) i j
before_spelled n lit w i j i_in j_in differ =
    same_test (spelled w (lit i j)) (known_before n lit (all_given w) i j)
    (λ e.
    known-from n lit (all_given w) i j
    (record { left = i_in; right = j_in; differ = differ; known = known_spelled w (lit i j) ∙ e }))
    (λ e. sym (known_spelled w (lit i j)) ∙ (known-parts n lit (all_given w) i j e).known)

agrees_above : (log : Log) (chosen : List Pos) (ordered : OrderedTable) (old new : Formula) → IsOrderVars log chosen ordered old new
    → (lt total : ℕ → ℕ → Bool) → ((i j : ℕ) → i < length chosen → j < length chosen → recorded_in ordered.table i j ≡ true → lt i j ≡ true)
    → IsTotalAbove (length chosen) lt total → AgreesWith log chosen total
agrees_above log chosen ordered old new vars lt total above is_total =
    record {
      strict = is_total.strict;
      all = is_total.all;
      agrees = λ i j i_in j_in r. is_total.keeps i j i_in j_in (above i j i_in j_in ((vars.recorded i j i_in j_in).1 r));
    }

pub assignments_orders : AssignmentsAreOrders
assignments_orders log chosen ordered old new vars w satisfied =
    let n : ℕ = length chosen in
    let lt : ℕ → ℕ → Bool = known_before n (lit_in ordered.table) (all_given w) in (
      lt,
      agrees_above log chosen ordered old new vars (recorded_in ordered.table) lt (λ i j i_in j_in e. e) (vars.orders.sound w satisfied),
      before_spelled n (lit_in ordered.table) w,
    )

pub orders_assignments : OrdersAreAssignments
orders_assignments log chosen ordered old new vars w satisfied total agrees =
    vars.orders.complete w satisfied total
    (record {
      strict =
          record {
            irreflexive = λ a a_in. agrees.strict.irreflexive a;
            transitive = λ a b c a_in b_in c_in. agrees.strict.transitive a b c;
          };
      keeps = λ a b a_in b_in r. agrees.agrees a b a_in b_in ((vars.recorded a b a_in b_in).0 r);
      all = agrees.all;
    })

keeps_known : (chosen : List Pos) (ordered : OrderedTable) (v : Partial) (total : ℕ → ℕ → Bool)
    → IsTotalAbove (length chosen) (known_before (length chosen) (lit_in ordered.table) v) total → Keeps chosen ordered v total
keeps_known chosen ordered v total is_total i j i_in j_in differ known =
    is_total.keeps i j i_in j_in
    (known-from (length chosen) (lit_in ordered.table) v i j (record { left = i_in; right = j_in; differ = differ; known = known }))

-- two numbers that are no places
outside : (n : ℕ) (lit : ℕ → ℕ → OrderLit) (v : Partial) → known_before n lit v (suc n) n ≡ false
outside n lit v = false_from_ne_true (known_before n lit v (suc n) n) (λ e. beyond n (known-parts n lit v (suc n) n e).left)
  where
    beyond : (n : ℕ) → suc n < n → ⊥
    beyond n h = omega (arith, h)

differ_next : (n : ℕ) → n ≢ suc n
differ_next n e = omega (arith, e)

pub rest_order : RestIsAnOrder
rest_order log chosen ordered old new vars v rest =
    let n : ℕ = length chosen in
    let lt : ℕ → ℕ → Bool = known_before n (lit_in ordered.table) v in
    let some = each_extends n lt (vars.orders.rests v rest) n (suc n) (differ_next n) (outside n (lit_in ordered.table) v) in
    (some.0, agrees_above log chosen ordered old new vars lt some.0 (vars.orders.keeps v) some.1, keeps_known chosen ordered v some.0 some.1)

pub open_both_ways : OpenPairsGoBothWays
open_both_ways log chosen ordered old new vars v rest k k_in is_open up =
    let n : ℕ = length chosen in
    let lt : ℕ → ℕ → Bool = known_before n (lit_in ordered.table) v in
    let some =
    goes_both_ways n (recorded_in ordered.table) (lit_in ordered.table) old.vars ordered.table.pairs old new vars.table vars.orders v rest k k_in is_open up
    in
    (some.0, agrees_above log chosen ordered old new vars lt some.0 (vars.orders.keeps v) some.1, keeps_known chosen ordered v some.0 some.1, some.2)
