-- The order variables of a formula name open pairs of accesses.
use Rattle.std.specs.Prelude.{◌≡◌, ℕ, ◌+◌, ◌-◌, ◌<◌, ◌≤◌, ◌&&◌, Bool, true, false, nat_le, nat_lt, List, Contains, length, map, Option, Some, None, is_some, if◌then◌else◌, []}
use Rattle.std.proofs.Common.{sym, ◌∙◌, ap, subst, refl, arith}
use Rattle.std.proofs.lemmas.Bool.{and_parts, false≢true, leb-true, ltb-true}
use Rattle.std.proofs.lemmas.List.{get_or_default}
use Rattle.elf_image.specs.Layout.{Layout}
use Rattle.odr_log.specs.declared.log.Log.{Log}
use Rattle.odr_log.specs.declared.log.Pos.{Pos}
use Rattle.rv_model.specs.Walk.{Walk}
use Rattle.order_clauses.specs.declared.ordered.OrderedTable.{OrderedTable}
use Rattle.order_clauses.specs.Tables.{pair_at}
use Rattle.order_vars.specs.Chosen.{position as chosen_step}
use Rattle.bv_terms.specs.Shapes.{Shape}
use Rattle.clause_store.specs.Formula.{Formula as Clauses}
use Rattle.guided_walk.specs.Orders.{In}
use Rattle.walk_facts.specs.Steps.{IsAccess}
use Rattle.thread_terms.specs.declared.access.Access.{Access}
use Rattle.path_exec.specs.declared.paths.Paths.{Paths}
use Rattle.path_exec.specs.Paths.{position}
use Rattle.term_sources.proofs.Listed.{in_pos}
use Rattle.order_places.proofs.Placed.{Scene, has_place, place}
use Rattle.stands_for.specs.Law.{order_of, steps_of, variables_from}
use Rattle.stands_for.proofs.Variables.{from_all, from_only, pair_is}
use Rattle.formula_facts.specs.declared.known.Known.{Known}
use Rattle.formula_base.specs.Basis.{HasPaths, IsBase}
use Rattle.read_from.specs.Formulas.{AreOrdered, IsOpenPair, NameOpenPairs}

-- What is known of the accesses of a log's paths, with the clauses of their order, and nothing before them.
pub record Based : Type 0 where
  pub image : Layout
  pub log : Log
  pub walk : Walk
  pub nodes : List Shape
  pub paths : Paths
  pub also : List Pos
  pub known : Known
  pub clauses : Clauses
  pub has : HasPaths image log walk nodes paths
  pub accesses_are : known.accesses ≡ paths.accesses
  pub base : IsBase image log nodes also known (record { vars = 0; clauses = [] }) clauses

abbrev pub chosen_in : Based → List Pos
chosen_in b = b.known.vars.chosen

abbrev pub ordered_in : Based → OrderedTable
ordered_in b = b.known.vars.ordered

-- a chosen step is one of an access
step_is_access : (b : Based) (i : ℕ) → i < length (chosen_in b) → IsAccess b.log b.walk (chosen_step (chosen_in b) i)
step_is_access b i i_in =
    b.has.are.lists.only (chosen_step (chosen_in b) i)
    (subst (λ (xs : List Access). In (chosen_step (chosen_in b) i) (map position xs)) b.accesses_are (b.base.placed.are_chosen.listed i _ i_in))

open_pair : (b : Based) (k : ℕ) → k < length (ordered_in b).table.pairs → IsOpenPair b.log b.walk (steps_of (chosen_in b) (ordered_in b) k)
open_pair b k less =
    let opened = b.base.placed.literals.table.listed k less in
    let rising = opened.rising in
    let within = opened.within in record {
      first = step_is_access b (pair_at (ordered_in b).table.pairs k).first (omega (arith, rising, within));
      second = step_is_access b (pair_at (ordered_in b).table.pairs k).second within;
      unordered = b.base.pairs_open k less;
    }

named : (chosen : List Pos) (ordered : OrderedTable) (x : ℕ) (b : Bool) → (nat_le ordered.first x && nat_lt (x - ordered.first) (length ordered.table.pairs)) ≡ b
    → (pair : Pos × Pos) → (if b then Some (steps_of chosen ordered (x - ordered.first)) else None) ≡ Some pair → Contains (order_of chosen ordered).first x
named chosen ordered x false test pair e = absurd (false≢true (ap (λ (o : Option (Pos × Pos)). is_some o) e))
named chosen ordered x true test pair e =
    let parts = and_parts (nat_le ordered.first x) (nat_lt (x - ordered.first) (length ordered.table.pairs)) test in
    let low : ordered.first ≤ x = leb-true ordered.first x parts.0 in
    let high : x - ordered.first < length ordered.table.pairs = ltb-true (x - ordered.first) (length ordered.table.pairs) parts.1 in
    let back : ordered.first + (x - ordered.first) ≡ x = omega (arith, low) in
    subst (Contains (variables_from ordered.first (length ordered.table.pairs))) back (from_all ordered.first (length ordered.table.pairs) (x - ordered.first) high)

pub names : (b : Based) → NameOpenPairs b.log b.walk (order_of (chosen_in b) (ordered_in b))
names b = record {
  each = λ (x : ℕ) (has : Contains (variables_from (ordered_in b).first (length (ordered_in b).table.pairs)) x).
      let of = from_only (ordered_in b).first (length (ordered_in b).table.pairs) x has in (
        steps_of (chosen_in b) (ordered_in b) of.0,
        ap (λ (n : ℕ). (order_of (chosen_in b) (ordered_in b)).pair n) of.2 ∙ pair_is (chosen_in b) (ordered_in b) of.0 of.1,
        open_pair b of.0 of.1,
      );
  only = λ (x : ℕ) (pair : Pos × Pos) e.
      named (chosen_in b) (ordered_in b) x (nat_le (ordered_in b).first x && nat_lt (x - (ordered_in b).first) (length (ordered_in b).table.pairs)) refl pair e;
}

-- an access that is asked for is chosen
pub asked : (b : Based) → AreOrdered b.log b.walk b.also (chosen_in b)
asked b p also access =
    let listed : In p (map position b.known.accesses) =
    subst (λ (xs : List Access). In p (map position xs)) (sym b.accesses_are) (b.has.are.lists.all p access) in
    let of = in_pos b.known.accesses p listed in
    let s : Scene = record { accesses = b.known.accesses; chosen = chosen_in b; at = b.known.places; are = b.base.placed.are_chosen; places = b.base.placed.places } in
    let has = has_place s of.0 (b.base.asked of.0 of.1 (subst (Contains b.also) (sym of.2) also)) in
    (place s of.0, has.first.within, get_or_default (chosen_in b) (place s of.0) p _ has.first.within ∙ has.first.is ∙ of.2)
