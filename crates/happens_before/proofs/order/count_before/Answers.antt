use Rattle.std.specs.Prelude.{◌≡◌, Bool, true, false, nat_lt, slice_index_or}
use Rattle.std.proofs.Common.{rules}
use Rattle.std.proofs.lemmas.Bool.{ltb-true, ltb-false}
use Rattle.std.proofs.lemmas.List.Sorted.{IsPartitionedBy-ltb, IsPartitionPoint-from_clause}
use Rattle.std.specs.List.Sorted.{IsPartitionPoint}
use Rattle.happens_before.specs.declared.table.Mark.{Mark}
use Rattle.happens_before.proofs.order.count_before.Goals as goal

pub returns-clause-point : goal.returns-clause-point
returns-clause-point c =
    λ rising.
    let test : Mark → Bool = λ (m : Mark). nat_lt m.step c.args.end in
    let point : IsPartitionPoint (λ (m : Mark). test m ≡ true) (λ (m : Mark). test m ≡ false) c.args.calls.now c.partition_point.result =
    IsPartitionPoint-from_clause test c.args.calls.now c.partition_point.result c.partition_point.ensures.partitioned
    (IsPartitionedBy-ltb (λ (m : Mark). m.step) c.args.calls.now c.args.end rising) (λ a r f called. search rules) in (
      λ k d low high. ltb-true (slice_index_or c.args.calls.now k d).step c.args.end (point.0 k d low high),
      λ k d low high. ltb-false (slice_index_or c.args.calls.now k d).step c.args.end (point.1 k d low high),
    )
