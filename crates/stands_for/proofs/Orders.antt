-- The order in which accesses stand in a schedule.
use Rattle.std.specs.Prelude.{◌≡◌, ◌≢◌, ℕ, ◌<◌, ◌&&◌, Bool, true, false, nat_lt, List, length, map}
use Rattle.std.proofs.Common.{inl, inr}
use Rattle.std.proofs.lemmas.Bool.{and_from, and_parts, false_from_ne_true, lt-ltb, ltb-true}
use Rattle.odr_log.specs.declared.log.Log.{Log}
use Rattle.rv_model.specs.RecordedOrder.{RecordedOrder}
use Rattle.order_clauses.specs.Orders.{IsStrict}
use Rattle.guided_walk.specs.Orders.{Distinct, In, Stands}
use Rattle.guided_walk.specs.Schedules.{places}
use Rattle.walk_orders.specs.Total.{Decides, IsTotal}
use Rattle.thread_terms.specs.declared.access.Access.{Access}
use Rattle.path_exec.specs.Paths.{position}
use Rattle.term_sources.specs.Law.{IsOrderBy}
use Rattle.term_sources.specs.Sees.{access_at}
use Rattle.term_sources.proofs.Listed.{one_number, pos_in}
use Rattle.fixed_reads.specs.Shapes.{IsTotalOf}
use Rattle.schedule_extract.proofs.Totals.{stands, stands_test, test_stands}
use Rattle.formula_parts.specs.Order.{IsOrder}

-- ---- the order of a schedule

-- one access stands before another
pub order_in : List Access → List ℕ → ℕ → ℕ → Bool
order_in accesses schedule x y =
    nat_lt x (length accesses) && (nat_lt y (length accesses) && stands (places schedule) (access_at accesses x).pos (access_at accesses y).pos)

record Says (accesses : List Access) (schedule : List ℕ) (x y : ℕ) : Type 0 where
  pub first : x < length accesses
  pub second : y < length accesses
  pub stand : Stands (places schedule) (access_at accesses x).pos (access_at accesses y).pos

says : (accesses : List Access) (schedule : List ℕ) (x y : ℕ) → order_in accesses schedule x y ≡ true → Says accesses schedule x y
unfolding order_in
says accesses schedule x y e =
    let test = stands (places schedule) (access_at accesses x).pos (access_at accesses y).pos in
    let one = and_parts (nat_lt x (length accesses)) (nat_lt y (length accesses) && test) e in
    let two = and_parts (nat_lt y (length accesses)) test one.1 in record {
      first = ltb-true x (length accesses) one.0;
      second = ltb-true y (length accesses) two.0;
      stand = test_stands (places schedule) (access_at accesses x).pos (access_at accesses y).pos two.1;
    }

said : (accesses : List Access) (schedule : List ℕ) (x y : ℕ) → Says accesses schedule x y → order_in accesses schedule x y ≡ true
unfolding order_in
said accesses schedule x y is =
    let test = stands (places schedule) (access_at accesses x).pos (access_at accesses y).pos in
    and_from (nat_lt x (length accesses)) (nat_lt y (length accesses) && test) (lt-ltb x (length accesses) is.first)
    (and_from (nat_lt y (length accesses)) test (lt-ltb y (length accesses) is.second) (stands_test (places schedule) (access_at accesses x).pos (access_at accesses y).pos is.stand))

-- the order is the one in which accesses stand
pub order_by : (accesses : List Access) (schedule : List ℕ) → IsOrderBy accesses (places schedule) (order_in accesses schedule)
order_by accesses schedule x y there in_list = (
  λ (e : order_in accesses schedule x y ≡ true). (says accesses schedule x y e).stand,
  λ (s : Stands (places schedule) (access_at accesses x).pos (access_at accesses y).pos). said accesses schedule x y (record { first = there; second = in_list; stand = s }),
)

-- where what a schedule decides of accesses is a total order that agrees, so is this
pub order_is : (log : Log) (accesses : List Access) (schedule : List ℕ) → Distinct (map position accesses) → IsTotal log (map position accesses) (Decides schedule)
    → IsOrder log accesses (order_in accesses schedule)
order_is log accesses schedule differ total = record { strict = strict; total = all } where
  there : (x : ℕ) → x < length accesses → In (access_at accesses x).pos (map position accesses)
  there x less = pos_in accesses x less

  never : (x : ℕ) → order_in accesses schedule x x ≡ false
  never x = false_from_ne_true (order_in accesses schedule x x)
      (λ (e : order_in accesses schedule x x ≡ true). let is = says accesses schedule x x e in total.no_ring (access_at accesses x).pos (there x is.first) is.stand)

  then_on : (x y z : ℕ) → order_in accesses schedule x y ≡ true → order_in accesses schedule y z ≡ true → order_in accesses schedule x z ≡ true
  then_on x y z e f =
      let one = says accesses schedule x y e in let two = says accesses schedule y z f in
      said accesses schedule x z (record {
        first = one.first;
        second = two.second;
        stand = total.transitive (access_at accesses x).pos (access_at accesses y).pos (access_at accesses z).pos (there x one.first) (there y one.second) (there z two.second) one.stand two.stand;
      })

  strict : IsStrict (order_in accesses schedule)
  strict = record { irreflexive = never; transitive = then_on }

  all : IsTotalOf log accesses (order_in accesses schedule)
  all = record {
    irreflexive = λ (x : ℕ) (less : x < length accesses). never x;
    transitive = λ (x y z : ℕ) (less_x : x < length accesses) (less_y : y < length accesses) (less_z : z < length accesses) e f. then_on x y z e f;
    total = λ (x y : ℕ) (less_x : x < length accesses) (less_y : y < length accesses) (other : x ≢ y).
        elim (total.total (access_at accesses x).pos (access_at accesses y).pos (there x less_x) (there y less_y)
        (λ (e : (access_at accesses x).pos ≡ (access_at accesses y).pos). other (one_number accesses x y differ less_x less_y e))) [
          | inl s ↦ inl (said accesses schedule x y (record { first = less_x; second = less_y; stand = s }))
          | inr s ↦ inr (said accesses schedule y x (record { first = less_y; second = less_x; stand = s }))
        ];
    agrees = λ (x y : ℕ) (less_x : x < length accesses) (less_y : y < length accesses) (recorded : RecordedOrder log (access_at accesses x).pos (access_at accesses y).pos).
        said accesses schedule x y (record { first = less_x; second = less_y; stand = total.agrees (access_at accesses x).pos (access_at accesses y).pos (there x less_x) (there y less_y) recorded });
  }
