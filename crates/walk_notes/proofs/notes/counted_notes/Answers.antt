use Rattle.std.proofs.Common.{◌≡◌, ◌∙◌, ℕ, ◌+◌, ◌<◌, ◌≤◌, List, slice_get, ap, arith}
use Rattle.std.specs.List.{find}
use Rattle.odr_log.specs.declared.log.CallRec.{CallRec}
use Rattle.odr_log.specs.declared.log.PathItem.{PathItem}
use Rattle.rv_model.specs.Run.{logged}
use Rattle.walk_notes.specs.Telling.{is_record, note_by, AreAhead}
use Rattle.walk_notes.proofs.RowLemmas.{ahead_more, ahead_of, row_more, row_all}
use Rattle.walk_notes.proofs.notes.counted_notes.Goals as goal

pub loop-step-preserved : goal.loop-step-preserved
loop-step-preserved c =
    let less : c.loop-step.step < (logged c.args.log.now c.args.thread).steps = omega (arith, c.loop-step-test.true, c.steps_logged-step-end.ensures) in
    let within : c.loop-step.items + c.items_in-items.result ≤ c.loop-step.step + 1 = omega (arith, c.loop-step.invariant.1, c.items_in-items.ensures.one) in
    let calls : List CallRec = c.calls_from-calls.result.now in
    let next : AreAhead c.args.log.now.calls c.args.thread c.loop-step.step calls =
    ahead_of c.args.log.now.calls c.args.thread c.loop-step.step c.loop-step.calls.now calls c.loop-step.invariant.2 c.calls_from-calls.ensures in
    let shown : c.in_ok-note.note
    ≡ note_by (slice_get (logged c.args.log.now c.args.thread).path c.loop-step.items) (find (is_record c.args.thread c.loop-step.step) calls) c.transfer_at-transfer.result =
    c.in_ok-note.ensures
    ∙ ap (λ (path : List PathItem). note_by (slice_get path c.loop-step.items) (find (is_record c.args.thread c.loop-step.step) calls) c.transfer_at-transfer.result) c.path_logged-path.ensures in (
      row_more c.args.image.now c.args.log.now c.args.traces.now c.requires c.args.thread c.loop-step.step c.loop-step.notes c.push.new.self c.loop-step.items (c.loop-step.items + c.items_in-items.result)
          calls c.transfer_at-transfer.result c.in_ok-note.note less c.transfer_at-transfer.ensures next shown c.in_ok-push.ensures (ap (λ (k : ℕ). c.loop-step.items + k) c.items_in-items.ensures.value)
          c.loop-step.invariant.0,
      within,
      ahead_more c.args.log.now.calls c.args.thread c.loop-step.step calls next,
    )

pub returns : goal.returns
returns c =
    let past : (logged c.args.log.now c.args.thread).steps ≤ c.loop-step.step = omega (arith, c.loop-step-test.false, c.steps_logged-step-end.ensures) in
    row_all c.args.image.now c.args.log.now c.args.thread c.loop-step.step c.loop-step.notes c.loop-step.items past c.loop-step.invariant.0
