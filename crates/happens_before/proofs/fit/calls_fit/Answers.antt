use Rattle.std.specs.Prelude.{◌≡◌, ◌↔◌, [], IsTrue}
use Rattle.std.proofs.Common.{sym, ◌∙◌}
use Rattle.std.proofs.lemmas.Bool.{false≢true}
use Rattle.odr_log.specs.Tape.{tape_of}
use Rattle.rv_model.specs.Calls.{opening_calls}
use Rattle.rv_model.specs.CallsFit.{Pass, final_calls}
use Rattle.happens_before.specs.Shared.{with_tape, KeepsOrder}
use Rattle.happens_before.proofs.FitLemmas.{fit_from, fit_keeps, fit_ends}
use Rattle.happens_before.proofs.fit.calls_fit.Goals as goal
use Rattle.happens_before.proofs.fit.calls_fit.Goals.{then-keeps_order, else-keeps_order}

pub returns-in-None : goal.returns-in-None
returns-in-None c =
    let none : Pass (opening_calls (tape_of c.args.log.now)) c.args.log.now.calls → ⊥ = rw (c.in-None.is, c.as_slice-records.ensures) at c.in_ok-walk.ensures.none in
    (λ never. absurd (false≢true never), λ fit. absurd (none fit.pass))

pub returns-after-keeps_order : goal.returns-after-keeps_order
returns-after-keeps_order c =
    let pass : Pass (opening_calls (tape_of c.args.log.now)) c.args.log.now.calls = rw (c.in-Some.is, c.as_slice-records.ensures) at c.in_ok-walk.ensures.pass in
    let final : with_tape c.in-Some.shared [] ≡ final_calls c.args.log.now = rw (c.in-Some.is, c.as_slice-records.ensures) at c.in_ok-walk.ensures.shared in
    let keeps : IsTrue c.keeps_order.result ↔ KeepsOrder c.args.log.now.calls = rw c.as_slice-records.ensures at c.keeps_order.ensures in
    elim c.if-keeps_order.branch [
      | then-keeps_order w ↦
          rw w.result-is (
            λ ends. fit_from c.args.log.now c.in-Some.shared pass final (keeps.0 w.if-keeps_order.true) (w.ends_so.ensures.0 ends),
            λ fit. w.ends_so.ensures.1 (fit_ends c.args.log.now c.in-Some.shared final fit),
          )
      | else-keeps_order w ↦
          rw w.result-is (
            λ never. absurd (false≢true (sym w.if-keeps_order.false ∙ never)),
            λ fit. absurd (false≢true (sym w.if-keeps_order.false ∙ keeps.1 (fit_keeps c.args.log.now fit))),
          )
    ]
