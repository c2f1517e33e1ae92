-- A store-conditional by places of a table.
use Rattle.std.proofs.Common.{◌≡◌, ◌≢◌, ℕ, ◌<◌, Bool, true, List, sym, ◌∙◌, ap, subst, map}
use Rattle.std.specs.Prelude.{All}
use Rattle.std.proofs.lemmas.Bool.{false≢true}
use Rattle.std.proofs.lemmas.List.{get_or-map, length-map}
use Rattle.std.proofs.lemmas.List.Elements.{All-map, All-contains, All-weaker}
use Rattle.clause_store.specs.Literals.{Assignment}
use Rattle.clause_store.specs.UnitRule.{Partial}
use Rattle.clause_store.proofs.Members.{All-from_contains}
use Rattle.order_clauses.specs.declared.order_lit.OrderLit.{OrderLit}
use Rattle.order_clauses.specs.declared.table.Table.{Table}
use Rattle.order_clauses.specs.Literals.{spelled, all_given}
use Rattle.order_clauses.specs.Grid.{lit_in, IsKnownOrder}
use Rattle.order_clauses.proofs.Known.{known_spelled, known-parts, known-from}
use Rattle.source_clauses.proofs.Conditional.{one_decision}
use Rattle.source_clauses.proofs.Sound.{not_own}
use Rattle.outcome_clauses.specs.declared.store_conditional.StoreConditional.{StoreConditional}
use Rattle.outcome_clauses.specs.declared.placed.PlacedEnder.{PlacedEnder}
use Rattle.outcome_clauses.specs.declared.placed.PlacedConditional.{PlacedConditional}
use Rattle.outcome_clauses.specs.Succeeds.{Ends, Succeeds}
use Rattle.outcome_clauses.specs.Contract.{KnowsEnder, KnowsConditional, IsPlaced}
use Rattle.outcome_clauses.specs.Placed.{ender_in, conditional_in, IsWithin, KnowsPlaced, StandsBefore, EndsInOrder, SucceedsInOrder, PlacesDecide}
use Rattle.outcome_clauses.specs.Placed.{IsInOrder, OrdersPlace}

-- what is known of places is known of conditions
pub placed_knows : (vars : ℕ) (table : Table) (placed : PlacedConditional) (sc : StoreConditional) → sc ≡ conditional_in table placed
    → KnowsPlaced vars table placed → KnowsConditional vars sc
placed_knows vars table placed sc is knows =
    subst (λ (s : StoreConditional). KnowsConditional vars s) (sym is)
    record {
      same = knows.same;
      enders =
          All-map (KnowsEnder vars) (ender_in table placed) placed.enders
          (All-from_contains (λ e. KnowsEnder vars (ender_in table placed e)) placed.enders
          (λ e listed.
          let at : e.at < table.count = All-contains (λ d. d.at < table.count) placed.enders e knows.within.enders listed in
          record {
            after = knows.known placed.link e.at knows.within.link at;
            before = knows.known e.at placed.at at knows.within.at;
            hit = All-contains (λ d. IsKnownOrder vars d.hit) placed.enders e knows.hits listed;
          }));
      outcome = knows.outcome;
    }

-- what holds of a list that was made of another
of_map : {X Y : Type 0} (P : Y → Type 0) (f : X → Y) (xs : List X) → All P (map f xs) → All (λ x. P (f x)) xs
of_map P f xs all k d within =
    subst P (get_or-map f xs k d (f d) within) (all k (f d) (subst (λ (n : ℕ). k < n) (sym (length-map xs f)) within))

-- the order that an assignment spells

spells : (w : Assignment) (table : Table) (a b : ℕ) → StandsBefore w table a b → spelled w (lit_in table a b) ≡ true
spells w table a b stands = sym (known_spelled w (lit_in table a b)) ∙ (known-parts table.count (lit_in table) (all_given w) a b stands).known

stands : (w : Assignment) (table : Table) (a b : ℕ) → a < table.count → b < table.count → spelled w (lit_in table a b) ≡ true → StandsBefore w table a b
stands w table a b a_in b_in e =
    known-from table.count (lit_in table) (all_given w) a b
    (record { left = a_in; right = b_in; differ = differ; known = known_spelled w (lit_in table a b) ∙ e })
  where
    differ : a ≢ b
    differ same =
        false≢true
        (ap (λ (o : OrderLit). spelled w o) (sym (not_own table a)) ∙ ap (λ (x : ℕ). spelled w (lit_in table a x)) same ∙ e)

ends_there : (w : Assignment) (table : Table) (placed : PlacedConditional) (e : PlacedEnder) → EndsInOrder w table placed e → Ends w (ender_in table placed e)
ends_there w table placed e ends =
    record {
      between = record { after = spells w table placed.link e.at ends.after; before = spells w table e.at placed.at ends.before };
      hits = ends.hits;
    }

ends_back : (w : Assignment) (table : Table) (placed : PlacedConditional) → IsWithin table placed → (e : PlacedEnder) → e.at < table.count
    → Ends w (ender_in table placed e) → EndsInOrder w table placed e
ends_back w table placed within e at ends =
    record {
      after = stands w table placed.link e.at within.link at ends.between.after;
      before = stands w table e.at placed.at at within.at ends.between.before;
      hits = ends.hits;
    }

pub places : PlacesDecide
places w table placed within = (λ s. there s, λ s. back s)
  where
    there : Succeeds w (conditional_in table placed) → SucceedsInOrder w table placed
    there s =
        record {
          same = s.same;
          kept =
              All-weaker (λ e. Ends w (ender_in table placed e) → ⊥) (λ e. EndsInOrder w table placed e → ⊥)
              (λ e kept ends. kept (ends_there w table placed e ends)) placed.enders
              (of_map (λ d. Ends w d → ⊥) (ender_in table placed) placed.enders s.kept);
        }

    back : SucceedsInOrder w table placed → Succeeds w (conditional_in table placed)
    back s =
        record {
          same = s.same;
          kept =
              All-map (λ d. Ends w d → ⊥) (ender_in table placed) placed.enders
              (All-from_contains (λ e. Ends w (ender_in table placed e) → ⊥) placed.enders
              (λ e listed ends.
              All-contains (λ d. EndsInOrder w table placed d → ⊥) placed.enders e s.kept listed
              (ends_back w table placed within e (All-contains (λ d. d.at < table.count) placed.enders e within.enders listed) ends)));
        }

-- where the unit rule has nothing to do

in_order : (v : Partial) (table : Table) (placed : PlacedConditional) (lt : ℕ → ℕ → Bool) (e : PlacedEnder) → IsInOrder v table placed lt e
    → IsPlaced v (ender_in table placed e)
in_order v table placed lt e is =
    record {
      after = (lt placed.link e.at, is.after);
      before = λ g. (lt e.at placed.at, is.before);
      hit =
          λ g h.
          is.hit (one_decision v (lit_in table placed.link e.at) (lt placed.link e.at) true is.after g)
          (one_decision v (lit_in table e.at placed.at) (lt e.at placed.at) true is.before h);
    }

pub orders : OrdersPlace
orders v table placed lt all =
    All-map (IsPlaced v) (ender_in table placed) placed.enders
    (All-weaker (IsInOrder v table placed lt) (λ e. IsPlaced v (ender_in table placed e)) (in_order v table placed lt) placed.enders all)
