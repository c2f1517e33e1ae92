use Rattle.std.proofs.Common.{◌∙◌, ap, List, drop, slice_get, option_map, None}
use Rattle.odr_log.specs.declared.log.PathItem.{PathItem}
use Rattle.rv_model.specs.Run.{logged}
use Rattle.rv_model.specs.Walk.{records_by}
use Rattle.trace_path.specs.Items.{jump_of}
use Rattle.trace_path.specs.Steps.{told_by}
use Rattle.trace_path.proofs.ToldLemmas.{jump_told}
use Rattle.trace_path.proofs.cursor.told_jump.Goals as goal

pub returns-in_err-target : goal.returns-in_err-target
returns-in_err-target c step =
    ap (option_map (told_by c.args.log.now c.args.thread)) c.from_residual.ensures
    ∙ jump_told step c.args.cursor.now.items (logged c.args.log.now c.args.thread).path (records_by c.args.thread (drop c.args.cursor.now.calls c.args.log.now.calls)) None
    (c.in_err-target.ensures.value ∙ ap (λ (p : List PathItem). jump_of (slice_get p c.args.cursor.now.items)) c.path_logged.ensures)

pub returns : goal.returns
returns c step = jump_told step c.args.cursor.now.items (logged c.args.log.now c.args.thread).path (records_by c.args.thread (drop c.args.cursor.now.calls c.args.log.now.calls)) _
    (c.in_ok-target.ensures.value ∙ ap (λ (p : List PathItem). jump_of (slice_get p c.args.cursor.now.items)) c.path_logged.ensures)
