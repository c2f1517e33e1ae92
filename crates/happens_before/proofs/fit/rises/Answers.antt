use Rattle.std.specs.Prelude.{◌<◌, ◌≤◌, ℕ, slice_index_or}
use Rattle.std.proofs.Common.{rules, arith}
use Rattle.std.proofs.lemmas.Bool.{false≢true}
use Rattle.std.proofs.lemmas.List.{get_or-replicate, length-replicate}
use Rattle.happens_before.proofs.FitLemmas.{rises_none, rises_not, rises_more}
use Rattle.happens_before.proofs.fit.rises.Goals as goal

pub loop-made-init : goal.loop-made-init
loop-made-init c = rises_none c.args.records.now _ (length-replicate {A = ℕ} 256 0) (λ t within. get_or-replicate 256 t 0 0 within)

pub returns-then-at-least : goal.returns-then-at-least
returns-then-at-least c =
    let room : c.made-item.result.tid < 256 = search rules in
    let less : c.made-item.result.at < slice_index_or c.loop-made.least c.made-item.result.tid 0 = omega arith in (
      λ never. absurd (false≢true never),
      λ pairs.
          absurd (rises_not c.args.records.now c.loop-made.least c.loop-made.made-index c.made-item.result (omega arith) c.made-item.is
          c.loop-made.invariant room less pairs),
    )

pub loop-made-preserved : goal.loop-made-preserved
loop-made-preserved c =
    let room : c.made-item.result.tid < 256 = search rules in
    let more : slice_index_or c.loop-made.least c.made-item.result.tid 0 ≤ c.made-item.result.at = omega arith in
    rw c.from-at.ensures
    (rises_more c.args.records.now c.loop-made.least c.loop-made.made-index c.made-item.result (omega arith) c.made-item.is
    c.loop-made.invariant room more)
