-- Where the variables of the order have values, these decide an order of all accesses.
use Rattle.std.specs.Prelude.{◌≡◌, ◌≢◌, ◌⊎◌, ℕ, ◌<◌, ◌+◌, Bool, true, false, not, List, length, Option, Some, None, IsSome, refl}
use Rattle.std.proofs.Common.{sym, ◌∙◌, ap, subst, inl, inr, arith}
use Rattle.std.proofs.lemmas.Bool.{false≢true}
use Rattle.odr_log.specs.declared.log.Log.{Log}
use Rattle.odr_log.specs.declared.log.Pos.{Pos}
use Rattle.clause_store.specs.UnitRule.{Partial}
use Rattle.clause_store.specs.Formula.{Formula}
use Rattle.order_clauses.specs.declared.order_lit.OrderLit.{OrderLit}
use Rattle.order_clauses.specs.declared.order_lit.OrderLit.TheVariants as order_lit
use Rattle.order_clauses.specs.declared.ordered.OrderedTable.{OrderedTable}
use Rattle.order_clauses.specs.Grid.{lit_in, recorded_in}
use Rattle.order_clauses.specs.Literals.{is_known, is_value, literal_of}
use Rattle.order_clauses.specs.Orders.{IsStrict}
use Rattle.order_clauses.specs.Tables.{IsOpened}
use Rattle.order_clauses.proofs.Counts.{lower-first}
use Rattle.order_clauses.proofs.Known.{recorded-once}
use Rattle.order_vars.specs.Chosen.{AgreesWith, IsOrderVars}
use Rattle.order_vars.specs.Laws.{Keeps}
use Rattle.order_vars.proofs.Agreeing.{rest_order}
use Rattle.source_clauses.specs.Conditions.{IsDecided}
use Rattle.order_places.specs.Laws.{ValuesDecideOrders}
use Rattle.order_places.proofs.Placed.{Scene, apart_places, has_place, is_chosen, place, scene_of}
use Rattle.order_places.proofs.Merged.{IsWhole, Merging, merging_of, one_way, whole, whole_says}

-- literals of the order of chosen steps, values of all its variables, and an order that has what these make true
record Deciding : Type 0 where
  log : Log
  chosen : List Pos
  ordered : OrderedTable
  old : Formula
  new : Formula
  literals : IsOrderVars log chosen ordered old new
  v : Partial
  given : (k : ℕ) → k < length ordered.table.pairs → IsSome (v (old.vars + k))
  total : ℕ → ℕ → Bool
  strict : IsStrict total
  keeps : Keeps chosen ordered v total

abbrev lit : Deciding → ℕ → ℕ → OrderLit
lit d i j = lit_in d.ordered.table i j

abbrev recorded : Deciding → ℕ → ℕ → Bool
recorded d i j = recorded_in d.ordered.table i j

abbrev size : Deciding → ℕ
size d = length d.chosen

-- the literal says what the order does
abbrev Says : Deciding → ℕ → ℕ → Type 0
Says d i j = IsDecided d.v (lit d i j) (d.total i j)

-- ---- the literals of a variable with a value

value_of : (o : Option Bool) → IsSome o → (b : Bool) × (o ≡ Some b)
value_of None some = absurd (false≢true some)
value_of (Some b) some = (b, refl)

value_itself : (b : Bool) → is_value (Some b) b ≡ true
value_itself true = refl
value_itself false = refl

known_by : (v : Partial) (x : ℕ) (b : Bool) → v x ≡ Some b → is_known v (order_lit.Is (literal_of x b)) ≡ true
known_by v x b e = ap (λ (o : Option Bool). is_value o b) e ∙ value_itself b

decided_forth : (v : Partial) (x : ℕ) (b : Bool) → v x ≡ Some b → IsDecided v (order_lit.Is (literal_of x true)) b
decided_forth v x true e = e
decided_forth v x false e = e

decided_back : (v : Partial) (x : ℕ) (b : Bool) → v x ≡ Some b → IsDecided v (order_lit.Is (literal_of x false)) (not b)
decided_back v x true e = e
decided_back v x false e = e

says_by : (d : Deciding) (i j : ℕ) (o : OrderLit) (b : Bool) → lit d i j ≡ o → d.total i j ≡ b → IsDecided d.v o b → Says d i j
says_by d i j o b e f decided =
    subst (λ (l : OrderLit). IsDecided d.v l (d.total i j)) (sym e) (subst (λ (t : Bool). IsDecided d.v o t) (sym f) decided)

has_known : (d : Deciding) (i j : ℕ) (o : OrderLit) → i < size d → j < size d → i ≢ j → lit d i j ≡ o → is_known d.v o ≡ true → d.total i j ≡ true
has_known d i j o i_in j_in differ e known = d.keeps i j i_in j_in differ (ap (λ (l : OrderLit). is_known d.v l) e ∙ known)

-- ---- one variable for two places

differ_back : (i j : ℕ) → i ≢ j → j ≢ i
differ_back i j differ e = differ (sym e)

abbrev Opened : Deciding → ℕ → ℕ → ℕ → Type 0
Opened d k i j = IsOpened (size d) (recorded_in d.ordered.table) (lit_in d.ordered.table) d.old.vars d.ordered.table.pairs k i j

goes : (d : Deciding) (k i j : ℕ) → i < size d → j < size d → i ≢ j → Opened d k i j → (b : Bool) → d.v (d.old.vars + k) ≡ Some b → (d.total i j ≡ b) × (d.total j i ≡ not b)
goes d k i j i_in j_in differ is true e =
    let up : d.total i j ≡ true =
    has_known d i j (order_lit.Is (literal_of (d.old.vars + k) true)) i_in j_in differ is.forth (known_by d.v (d.old.vars + k) true e) in
    (up, one_way d.total d.strict i j up)
goes d k i j i_in j_in differ is false e =
    let down : d.total j i ≡ true =
    has_known d j i (order_lit.Is (literal_of (d.old.vars + k) false)) j_in i_in (differ_back i j differ) is.back (known_by d.v (d.old.vars + k) false e) in
    (one_way d.total d.strict j i down, down)

both_say : (d : Deciding) (k i j : ℕ) → k < length d.ordered.table.pairs → i < size d → j < size d → i ≢ j → Opened d k i j → Says d i j × Says d j i
both_say d k i j k_in i_in j_in differ is =
    let x : ℕ = d.old.vars + k in
    let value : (b : Bool) × (d.v x ≡ Some b) = value_of (d.v x) (d.given k k_in) in
    let way : (d.total i j ≡ value.0) × (d.total j i ≡ not value.0) = goes d k i j i_in j_in differ is value.0 value.1 in (
      says_by d i j (order_lit.Is (literal_of x true)) value.0 is.forth way.0 (decided_forth d.v x value.0 value.1),
      says_by d j i (order_lit.Is (literal_of x false)) (not value.0) is.back way.1 (decided_back d.v x value.0 value.1),
    )

open_says : (d : Deciding) (i j : ℕ) → i < size d → j < size d → i ≢ j → recorded d i j ≡ false → recorded d j i ≡ false → Says d i j
open_says d i j i_in j_in differ f g = elim (lower-first i j differ) [
  | inl lower ↦
      let some = d.literals.table.opened i j lower j_in f g in
      (both_say d some.0 i j some.1 i_in j_in differ some.2).0
  | inr higher ↦
      let some = d.literals.table.opened j i higher i_in g f in
      (both_say d some.0 j i some.1 j_in i_in (differ_back i j differ) some.2).1
]

-- ---- two places of which one is recorded to stand before the other

recorded_says : (d : Deciding) (i j : ℕ) → i < size d → j < size d → i ≢ j → recorded d i j ≡ true → Says d i j × Says d j i
recorded_says d i j i_in j_in differ r =
    let back : recorded d j i ≡ false = recorded-once (size d) (recorded_in d.ordered.table) d.literals.strict i j i_in j_in r in
    let always : lit d i j ≡ order_lit.Always = d.literals.table.always i j differ r in
    let up : d.total i j ≡ true = has_known d i j order_lit.Always i_in j_in differ always refl in (
      says_by d i j order_lit.Always true always up refl,
      says_by d j i order_lit.Never false (d.literals.table.never j i (differ_back i j differ) back r) (one_way d.total d.strict i j up) refl,
    )

says : (d : Deciding) (i j : ℕ) → i < size d → j < size d → i ≢ j → Says d i j
says d i j i_in j_in differ = go (recorded d i j) refl (recorded d j i) refl
  where
    go : (b : Bool) → recorded d i j ≡ b → (c : Bool) → recorded d j i ≡ c → Says d i j
    go true e c f = (recorded_says d i j i_in j_in differ e).0
    go false e true f = (recorded_says d j i j_in i_in (differ_back i j differ) f).1
    go false e false f = open_says d i j i_in j_in differ e f

pub values_decide : ValuesDecideOrders
values_decide image log walk accesses chosen at ordered access old new is_walk fit is v rest given =
    let s : Scene = scene_of log accesses chosen at ordered old new is in
    let some : (total : ℕ → ℕ → Bool) × AgreesWith log chosen total × Keeps chosen ordered v total = rest_order log chosen ordered old new is.literals v rest in
    let d : Deciding = record {
      log = log;
      chosen = chosen;
      ordered = ordered;
      old = old;
      new = new;
      literals = is.literals;
      v = v;
      given = given;
      total = some.0;
      strict = some.1.strict;
      keeps = some.2;
    } in
    let m : Merging = merging_of image log walk is_walk fit s some.0 some.1 in
    let all : (lt : ℕ → ℕ → Bool) × IsWhole m lt = whole m in (
      all.0,
      all.1.order,
      λ (x y : ℕ) (x_in : is_chosen s x ≡ true) (y_in : is_chosen s y ≡ true) (differ : x ≢ y).
          subst (λ (b : Bool). IsDecided v (lit_in ordered.table (place s x) (place s y)) b) (whole_says m all.0 all.1 x y x_in y_in differ)
          (says d (place s x) (place s y) (has_place s x x_in).first.within (has_place s y y_in).first.within (apart_places s x y x_in y_in differ)),
    )
