-- A table's literals are of its own variables.
use Rattle.std.proofs.Common.{◌≡◌, ◌≢◌, ℕ, ◌<◌, ◌+◌, ◌⊎◌, Bool, true, false, List, ◌++◌, length, refl, sym, ◌∙◌, ap, subst, inl, inr, arith}
use Rattle.std.proofs.lemmas.Bool.{false≢true}
use Rattle.clause_store.specs.declared.lit.Lit.{Lit}
use Rattle.order_clauses.specs.declared.order_lit.OrderLit.{OrderLit}
use Rattle.order_clauses.specs.declared.order_lit.OrderLit.TheVariants as order_lit
use Rattle.order_clauses.specs.declared.pair.Pair.{Pair}
use Rattle.order_clauses.specs.declared.table.Table.{Table}
use Rattle.order_clauses.specs.Literals.{literal_of}
use Rattle.clause_store.specs.Formula.{Formula, AllKnown, Grows}
use Rattle.order_clauses.specs.Tables.{IsTable}
use Rattle.order_clauses.specs.Clauses.{Adds, OrderClause}
use Rattle.order_clauses.specs.Grid.{recorded_in, lit_in, IsSquare, IsKnownOrder, KnowsTable}
use Rattle.order_clauses.specs.Ordered.{IsOrdered}
use Rattle.order_clauses.proofs.TotalOrders.{tables_orders}
use Rattle.order_clauses.proofs.Added.{adds_grows}
use Rattle.order_clauses.proofs.Counts.{lower-first}
use Rattle.order_clauses.proofs.Known.{never_is, literal-differ}

abbrev var_or : ℕ → OrderLit → ℕ
var_or other order_lit.Always = other
var_or other order_lit.Never = other
var_or other (order_lit.Is l) = l.var

abbrev is_always : OrderLit → Bool
is_always order_lit.Always = true
is_always order_lit.Never = false
is_always (order_lit.Is l) = false

var_same : (l m : Lit) → order_lit.Is l ≡ order_lit.Is m → l.var ≡ m.var
var_same l m e = ap (λ (o : OrderLit). var_or 0 o) e

pub knows_table : (n : ℕ) (recorded : ℕ → ℕ → Bool) (lit : ℕ → ℕ → OrderLit) (first vars : ℕ) (pairs : List Pair)
    → IsTable n recorded lit first pairs → vars ≡ first + length pairs
    → (i j : ℕ) → i < n → j < n → IsKnownOrder vars (lit i j)
knows_table n recorded lit first vars pairs table is_vars i j i_in j_in l e = go (recorded i j) refl (recorded j i) refl
  where
    differ : i ≢ j
    differ = literal-differ n recorded lit first pairs table i j l e

    by_number : (k : ℕ) (up : Bool) → k < length pairs → lit i j ≡ order_lit.Is (literal_of (first + k) up) → l.var < vars
    by_number k up k_in f =
        let same : l.var ≡ first + k = var_same l (literal_of (first + k) up) (sym e ∙ f) in
        omega (arith, same, k_in, is_vars)

    by_order : recorded i j ≡ false → recorded j i ≡ false → (i < j) ⊎ (j < i) → l.var < vars
    by_order f g (inl lower) =
        let some = table.opened i j lower j_in f g in
        by_number some.0 true some.1 some.2.forth
    by_order f g (inr lower) =
        let some = table.opened j i lower i_in g f in
        by_number some.0 false some.1 some.2.back

    go : (t : Bool) → recorded i j ≡ t → (u : Bool) → recorded j i ≡ u → l.var < vars
    go true r u g = absurd (false≢true (sym (ap (λ (o : OrderLit). is_always o) (sym (table.always i j differ r) ∙ e))))
    go false f true g = absurd (never_is l (sym (table.never i j differ f g) ∙ e))
    go false f false g = by_order f g (lower-first i j differ)

pub tabled_known : (old between : Formula) (count : ℕ) (t : Table) → t.count ≡ count → IsTable count (recorded_in t) (lit_in t) old.vars t.pairs
    → between.vars ≡ old.vars + length t.pairs → KnowsTable between.vars t
tabled_known old between count t is_count table vars i j i_in j_in =
    knows_table t.count (recorded_in t) (lit_in t) old.vars between.vars t.pairs
    (subst (λ (n : ℕ). IsTable n (recorded_in t) (lit_in t) old.vars t.pairs) (sym is_count) table) vars i j i_in j_in

ordered_grows : (old between new : Formula) (pairs : List Pair) → between.vars ≡ old.vars + length pairs → between.clauses ≡ old.clauses
    → Grows between new → Grows old new
ordered_grows old between new pairs vars same grows =
    record {
      vars = omega (arith, vars, grows.vars);
      more = grows.more;
      clauses = grows.clauses ∙ ap (λ (cs : List (List Lit)). cs ++ grows.more) same;
    }

pub ordered_made : (old between new : Formula) (first count : ℕ) (recorded : List Bool) (t : Table) → AllKnown old → first ≡ old.vars
    → t.count ≡ count → t.recorded ≡ recorded → IsSquare t → IsTable count (recorded_in t) (lit_in t) old.vars t.pairs
    → between.vars ≡ old.vars + length t.pairs → between.clauses ≡ old.clauses
    → Adds between new (OrderClause t.count (recorded_in t) (lit_in t))
    → IsOrdered count recorded old new (record { first = first; table = t })
ordered_made old between new first count recorded t known is_first is_count is_recorded square table vars same adds =
    let tabled : IsTable t.count (recorded_in t) (lit_in t) old.vars t.pairs =
    subst (λ (n : ℕ). IsTable n (recorded_in t) (lit_in t) old.vars t.pairs) (sym is_count) table
    in
    record {
      first = is_first;
      count = is_count;
      recorded = is_recorded;
      square = square;
      table = tabled;
      grows = ordered_grows old between new t.pairs vars same (adds_grows between new (OrderClause t.count (recorded_in t) (lit_in t)) adds);
      vars = adds.vars ∙ vars;
      known = λ i j i_in j_in. knows_table t.count (recorded_in t) (lit_in t) old.vars new.vars t.pairs tabled (adds.vars ∙ vars) i j i_in j_in;
      orders = λ strict. tables_orders t.count (recorded_in t) (lit_in t) t.pairs old between new known strict tabled vars same adds;
    }
