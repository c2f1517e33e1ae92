-- The table of chosen steps: from cells to literals, and what a literal says.
use Rattle.std.proofs.Common.{◌≡◌, ◌≢◌, ◌↔◌, ◌⊎◌, ℕ, ◌<◌, Bool, true, false, List, length, sym, ◌∙◌, ap, subst, inl, inr, arith}
use Rattle.std.specs.Prelude.{All, AllPairs}
use Rattle.std.proofs.lemmas.Bool.{false≢true}
use Rattle.odr_log.specs.declared.log.Log.{Log}
use Rattle.odr_log.specs.declared.log.Pos.{Pos}
use Rattle.rv_model.specs.RecordedOrder.{Counted, RecordedOrder, One, InThread}
use Rattle.happens_before.specs.declared.table.ThreadCalls.{ThreadCalls}
use Rattle.happens_before.specs.Table.{IsOrderOf}
use Rattle.clause_store.specs.declared.lit.Lit.{Lit}
use Rattle.clause_store.specs.Formula.{Formula}
use Rattle.order_clauses.specs.declared.order_lit.OrderLit.{OrderLit}
use Rattle.order_clauses.specs.declared.order_lit.OrderLit.TheVariants as order_lit
use Rattle.order_clauses.specs.declared.ordered.OrderedTable.{OrderedTable}
use Rattle.order_clauses.specs.declared.table.Table.{Table}
use Rattle.order_clauses.specs.declared.pair.Pair.{Pair}
use Rattle.order_clauses.specs.Orders.{IsStrictBelow}
use Rattle.order_clauses.specs.Tables.{pair_at, IsTable, IsOpened, IsOrders}
use Rattle.order_clauses.specs.Grid.{recorded_at, recorded_in, lit_in}
use Rattle.order_clauses.specs.Ordered.{IsOrdered}
use Rattle.order_clauses.proofs.Counts.{lower-first}
use Rattle.order_clauses.proofs.Known.{Ways, way, recorded-once}
use Rattle.order_vars.specs.Chosen.{position, IsOrderVars, PairsAreOpen, ChosenOrder, IsLitOf}
use Rattle.order_vars.proofs.Strict.{Cells, counted_at, recorded_order, recorded_strict}

-- what the cells say, of each log that the order is of
abbrev pub Told : List ThreadCalls → List Pos → List Bool → Type 0
Told order chosen cells = (log : Log) → IsOrderOf order log → All (Counted log) chosen → Cells log chosen cells

-- a table's test of two places is that of its cells
recorded_by : (chosen : List Pos) (cells : List Bool) (table : Table) → table.count ≡ length chosen → table.recorded ≡ cells
    → (P : (ℕ → ℕ → Bool) → Type 0) → P (recorded_at cells (length chosen)) → P (recorded_in table)
recorded_by chosen cells table count recorded P holds =
    subst (λ (n : ℕ). P (recorded_at table.recorded n)) (sym count)
    (subst (λ (bs : List Bool). P (recorded_at bs (length chosen))) (sym recorded) holds)

pub chosen_ordered : (order : List ThreadCalls) (chosen : List Pos) (cells : List Bool) (old new : Formula) → Told order chosen cells
    → (ordered : OrderedTable) → IsOrdered (length chosen) cells old new ordered
    → (log : Log) → IsOrderOf order log → All (Counted log) chosen → IsOrderVars log chosen ordered old new
chosen_ordered order chosen cells old new told ordered is log is_order all =
    let n : ℕ = length chosen in
    let said : Cells log chosen cells = told log is_order all in
    let strict : IsStrictBelow n (recorded_in ordered.table) =
    recorded_by chosen cells ordered.table is.count is.recorded (λ lt. IsStrictBelow n lt) (recorded_strict log is_order.fit chosen all cells said)
    in
    record {
      count = is.count;
      first = is.first;
      recorded =
          recorded_by chosen cells ordered.table is.count is.recorded
          (λ lt. (i j : ℕ) → i < n → j < n → (lt i j ≡ true) ↔ RecordedOrder log (position chosen i) (position chosen j))
          (recorded_order log is_order.fit chosen all cells said);
      strict = strict;
      table = subst (λ (m : ℕ). IsTable m (recorded_in ordered.table) (lit_in ordered.table) old.vars ordered.table.pairs) is.count is.table;
      orders =
          subst (λ (m : ℕ). IsOrders m (recorded_in ordered.table) (lit_in ordered.table) old new) is.count
          (is.orders (subst (λ (m : ℕ). IsStrictBelow m (recorded_in ordered.table)) (sym is.count) strict));
    }

-- open pairs

-- two counted steps of one thread are recorded one way or the other, or are one step
in_thread : (log : Log) (p q : Pos) → Counted log p → Counted log q → p ≢ q → p.thread ≡ q.thread
    → RecordedOrder log p q ⊎ RecordedOrder log q p
in_thread log p q p_counted q_counted differ same = go (lower-first p.step q.step (λ e. differ (same_place p q same e)))
  where
    same_place : (p q : Pos) → p.thread ≡ q.thread → p.step ≡ q.step → p ≡ q
    same_place p q e f = ap (λ (t : ℕ). record { thread = t; step = p.step }) e ∙ ap (λ (s : ℕ). record { thread = q.thread; step = s }) f

    go : (p.step < q.step) ⊎ (q.step < p.step) → RecordedOrder log p q ⊎ RecordedOrder log q p
    go (inl h) = inl (One (record { from = p_counted; to = q_counted; edge = InThread same h }))
    go (inr h) = inr (One (record { from = q_counted; to = p_counted; edge = InThread (sym same) h }))

pub pairs_open : (log : Log) (chosen : List Pos) (ordered : OrderedTable) (old new : Formula) → All (Counted log) chosen
    → AllPairs (λ a b. a ≢ b) chosen → IsOrderVars log chosen ordered old new → PairsAreOpen log chosen ordered
pairs_open log chosen ordered old new all distinct vars k k_in =
    let pairs : List Pair = ordered.table.pairs in
    let i : ℕ = (pair_at pairs k).first in
    let j : ℕ = (pair_at pairs k).second in
    let o : IsOpened (length chosen) (recorded_in ordered.table) (lit_in ordered.table) old.vars pairs k i j = vars.table.listed k k_in in
    let i_in : i < length chosen = omega (arith, o.rising, o.within) in
    let not_before : RecordedOrder log (position chosen i) (position chosen j) → ⊥ =
    λ r. false≢true (sym o.not_before ∙ (vars.recorded i j i_in o.within).1 r)
    in
    let not_after : RecordedOrder log (position chosen j) (position chosen i) → ⊥ =
    λ r. false≢true (sym o.not_after ∙ (vars.recorded j i o.within i_in).1 r)
    in
    record {
      apart =
          λ same.
          neither (RecordedOrder log (position chosen i) (position chosen j)) (RecordedOrder log (position chosen j) (position chosen i)) not_before not_after
          (in_thread log (position chosen i) (position chosen j) (counted_at log chosen all i i_in) (counted_at log chosen all j o.within)
          (distinct i j (record { thread = 0; step = 0 }) o.rising o.within) same);
      unordered = not_before;
      unordered_back = not_after;
    }
  where
    neither : (A B : Type 0) → (A → ⊥) → (B → ⊥) → A ⊎ B → ⊥
    neither A B f g (inl a) = f a
    neither A B f g (inr b) = g b

-- what a literal says

abbrev is_sure : OrderLit → Bool
is_sure order_lit.Always = true
is_sure order_lit.Never = false
is_sure (order_lit.Is l) = false

abbrev is_literal : OrderLit → Bool
is_literal order_lit.Always = false
is_literal order_lit.Never = false
is_literal (order_lit.Is l) = true

always_not_never : order_lit.Always ≡ order_lit.Never → ⊥
always_not_never e = false≢true (sym (ap (λ (o : OrderLit). is_sure o) e))

literal_not_always : (l : Lit) → order_lit.Is l ≡ order_lit.Always → ⊥
literal_not_always l e = false≢true (ap (λ (o : OrderLit). is_sure o) e)

literal_not_never : (l : Lit) → order_lit.Is l ≡ order_lit.Never → ⊥
literal_not_never l e = false≢true (sym (ap (λ (o : OrderLit). is_literal o) e))

-- one of two chosen steps is recorded to stand before the other, or their literal is one of a variable
record Said (log : Log) (a b : Pos) (lit : OrderLit) : Type 0 where
  ways : RecordedOrder log a b ⊎ (RecordedOrder log b a ⊎ ((l : Lit) × (lit ≡ order_lit.Is l)))
  forth : RecordedOrder log a b → lit ≡ order_lit.Always
  back : RecordedOrder log b a → lit ≡ order_lit.Never

said_by : (log : Log) (chosen : List Pos) (ordered : OrderedTable) (old new : Formula) → IsOrderVars log chosen ordered old new
    → (i j : ℕ) → i < length chosen → j < length chosen → i ≢ j → Said log (position chosen i) (position chosen j) (lit_in ordered.table i j)
said_by log chosen ordered old new vars i j i_in j_in differ =
    record {
      ways = go (way n recorded lit old.vars ordered.table.pairs vars.table i j i_in j_in differ);
      forth = λ r. vars.table.always i j differ ((vars.recorded i j i_in j_in).1 r);
      back =
          λ r.
          let back_so : recorded j i ≡ true = (vars.recorded j i j_in i_in).1 r in
          vars.table.never i j differ (recorded-once n recorded vars.strict j i j_in i_in back_so) back_so;
    }
  where
    n : ℕ
    n = length chosen

    recorded : ℕ → ℕ → Bool
    recorded = recorded_in ordered.table

    lit : ℕ → ℕ → OrderLit
    lit = lit_in ordered.table

    go : Ways recorded lit i j
        → RecordedOrder log (position chosen i) (position chosen j)
        ⊎ (RecordedOrder log (position chosen j) (position chosen i) ⊎ ((l : Lit) × (lit i j ≡ order_lit.Is l)))
    go (inl r) = inl ((vars.recorded i j i_in j_in).0 r)
    go (inr (inl r)) = inr (inl ((vars.recorded j i j_in i_in).0 r))
    go (inr (inr o)) = inr (inr (o.literal, o.forth))

said_of : (log : Log) (order : ChosenOrder) (old new : Formula) (a b : Pos) (lit : OrderLit) → IsLitOf order a b lit
    → IsOrderVars log order.chosen order.ordered old new → a ≢ b → Said log a b lit
said_of log order old new a b lit is vars differ =
    let apart : is.i ≢ is.j =
    λ e. differ (sym is.is_a ∙ ap (λ (k : ℕ). position order.chosen k) e ∙ is.is_b)
    in
    subst (λ (p : Pos). Said log p b lit) is.is_a
    (subst (λ (q : Pos). Said log (position order.chosen is.i) q lit) is.is_b
    (subst (λ (l : OrderLit). Said log (position order.chosen is.i) (position order.chosen is.j) l) (sym is.literal)
    (said_by log order.chosen order.ordered old new vars is.i is.j is.i_in is.j_in apart)))

pub always_says : (order : ChosenOrder) (a b : Pos) (lit : OrderLit) → IsLitOf order a b lit → (log : Log) (old new : Formula)
    → IsOrderVars log order.chosen order.ordered old new → a ≢ b → (lit ≡ order_lit.Always) ↔ RecordedOrder log a b
always_says order a b lit is log old new vars differ =
    let said : Said log a b lit = said_of log order old new a b lit is vars differ in
    (λ e. go e said.ways said.back, said.forth)
  where
    go : lit ≡ order_lit.Always → RecordedOrder log a b ⊎ (RecordedOrder log b a ⊎ ((l : Lit) × (lit ≡ order_lit.Is l)))
        → (RecordedOrder log b a → lit ≡ order_lit.Never) → RecordedOrder log a b
    go e (inl r) back = r
    go e (inr (inl r)) back = absurd (always_not_never (sym e ∙ back r))
    go e (inr (inr some)) back = absurd (literal_not_always some.0 (sym some.1 ∙ e))

pub never_says : (order : ChosenOrder) (a b : Pos) (lit : OrderLit) → IsLitOf order a b lit → (log : Log) (old new : Formula)
    → IsOrderVars log order.chosen order.ordered old new → a ≢ b → (lit ≡ order_lit.Never) ↔ RecordedOrder log b a
never_says order a b lit is log old new vars differ =
    let said : Said log a b lit = said_of log order old new a b lit is vars differ in
    (λ e. go e said.ways said.forth, said.back)
  where
    go : lit ≡ order_lit.Never → RecordedOrder log a b ⊎ (RecordedOrder log b a ⊎ ((l : Lit) × (lit ≡ order_lit.Is l)))
        → (RecordedOrder log a b → lit ≡ order_lit.Always) → RecordedOrder log b a
    go e (inl r) forth = absurd (always_not_never (sym (forth r) ∙ e))
    go e (inr (inl r)) forth = r
    go e (inr (inr some)) forth = absurd (literal_not_never some.0 (sym some.1 ∙ e))
