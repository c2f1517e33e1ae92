use Rattle.std.specs.Prelude.{◌≡◌, Bool, cond, List, [], ◌∷◌, ◌++◌}
use Rattle.std.proofs.Common.{sym, ◌∙◌, ap, arith}
use Rattle.std.proofs.lemmas.List.{append-nil}
use Rattle.happens_before.specs.declared.table.Mark.{Mark}
use Rattle.happens_before.specs.Table.{is_call_of}
use Rattle.happens_before.proofs.TableLemmas.{calls_more, calls_all}
use Rattle.happens_before.proofs.table.calls_of.Goals as goal
use Rattle.happens_before.proofs.table.calls_of.Goals.{then-is_call_of+in_ok-push, else-is_call_of}

pub loop-number-preserved : goal.loop-number-preserved
loop-number-preserved c =
    let mark : Mark = record { step = c.made-item.result.at; number = c.loop-number.number } in
    let chosen : c.if-is_call_of.calls.items ≡ c.loop-number.calls.items ++ cond c.is_call_of.result (mark ∷ []) [] =
    elim c.if-is_call_of.branch [
      | then-is_call_of+in_ok-push w ↦ rw (w.calls-is, w.if-is_call_of.true) w.in_ok-push.ensures.items
      | else-is_call_of w ↦ rw (w.calls-is, w.if-is_call_of.false) (sym (append-nil c.loop-number.calls.items))
    ] in
    chosen
    ∙ ap (λ (b : Bool). c.loop-number.calls.items ++ cond b (mark ∷ []) []) c.is_call_of.ensures
    ∙ ap (λ (l : List Mark). l ++ cond (is_call_of c.args.log.now c.args.thread c.made-item.result) (mark ∷ []) []) c.loop-number.invariant
    ∙ sym (calls_more c.args.log.now c.args.thread c.as_slice-made-items.result.now c.loop-number.number c.made-item.result
    c.as_slice-made-items.ensures (omega arith) c.made-item.is)

pub returns : goal.returns
returns c =
    c.of.ensures ∙ c.loop-number.invariant
    ∙ calls_all c.args.log.now c.args.thread c.as_slice-made-items.result.now c.loop-number.number c.as_slice-made-items.ensures (omega arith)
