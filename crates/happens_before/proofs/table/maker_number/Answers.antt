use Rattle.std.specs.Prelude.{◌≡◌, ℕ, Bool, cond, Option, Some}
use Rattle.std.proofs.Common.{sym, ◌∙◌, ap, arith}
use Rattle.std.proofs.lemmas.Bool.{cond-true, cond-false}
use Rattle.happens_before.specs.Table.{is_maker}
use Rattle.happens_before.proofs.TableLemmas.{maker_more, maker_all}
use Rattle.happens_before.proofs.table.maker_number.Goals as goal
use Rattle.happens_before.proofs.table.maker_number.Goals.{then-is_maker, else-is_maker}

pub loop-number-preserved : goal.loop-number-preserved
loop-number-preserved c =
    let chosen : c.if-is_maker.maker ≡ cond c.is_maker.result (Some c.loop-number.number) c.loop-number.maker =
    elim c.if-is_maker.branch [
      | then-is_maker w ↦ w.maker-is ∙ sym (cond-true c.is_maker.result (Some c.loop-number.number) c.loop-number.maker w.if-is_maker.true)
      | else-is_maker w ↦ w.maker-is ∙ sym (cond-false c.is_maker.result (Some c.loop-number.number) c.loop-number.maker w.if-is_maker.false)
    ] in
    chosen
    ∙ ap (λ (b : Bool). cond b (Some c.loop-number.number) c.loop-number.maker) c.is_maker.ensures
    ∙ ap (λ (o : Option ℕ). cond (is_maker c.args.log.now c.args.thread c.made-item.result) (Some c.loop-number.number) o) c.loop-number.invariant
    ∙ sym (maker_more c.args.log.now c.args.thread c.as_slice-made-items.result.now c.loop-number.number c.made-item.result
    c.as_slice-made-items.ensures (omega arith) c.made-item.is)

pub returns : goal.returns
returns c =
    c.loop-number.invariant
    ∙ maker_all c.args.log.now c.args.thread c.as_slice-made-items.result.now c.loop-number.number c.as_slice-made-items.ensures (omega arith)
