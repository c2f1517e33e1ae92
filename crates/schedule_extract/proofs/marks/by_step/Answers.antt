use Rattle.std.specs.Prelude.{List}
use Rattle.std.specs.List.Sorted.{IsPermutation}
use Rattle.std.proofs.Common.{rules, subst}
use Rattle.std.proofs.lemmas.List.Sorted.{IsNonDecreasingBy-from_sort_by_key, IsPermutation-sym, Contains-permutation}
use Rattle.odr_log.specs.declared.log.Pos.{Pos}
use Rattle.schedule_extract.proofs.Passing.{same_pair}
use Rattle.schedule_extract.proofs.marks.by_step.Goals as goal

pub returns-clause-sorted : goal.returns-clause-sorted
returns-clause-sorted c = IsNonDecreasingBy-from_sort_by_key (λ pair. pair.1.step) _ c.in_ok-sort_by_key.ensures.sorted (λ a r q k. search rules)

pub returns-clause-same : goal.returns-clause-same
returns-clause-same c =
    let moved : IsPermutation c.args.decided.now c.sort_by_key.new.self.items =
    subst (λ (xs : List (Pos × Pos)). IsPermutation xs c.sort_by_key.new.self.items)
    (c.in_ok-pairs.ensures.items_if_clones_equal (λ y h k. same_pair h y k.0 k.1)) c.in_ok-sort_by_key.ensures.permutation in
    λ pair. (
      λ has. Contains-permutation c.sort_by_key.new.self.items c.args.decided.now pair
          (IsPermutation-sym c.args.decided.now c.sort_by_key.new.self.items moved) has,
      λ has. Contains-permutation c.args.decided.now c.sort_by_key.new.self.items pair moved has,
    )
