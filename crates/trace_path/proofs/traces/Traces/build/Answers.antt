use Rattle.std.proofs.Common.{◌≡◌, ℕ, ◌<◌, length, true, List, sym, ◌∙◌, ap, subst}
use Rattle.std.specs.Prelude.{All}
use Rattle.odr_log.specs.declared.log.CallRec.{CallRec}
use Rattle.rv_model.specs.Walk.{places_of, notes_of}
use Rattle.trace_path.specs.declared.thread.Stop.{Stop}
use Rattle.trace_path.specs.Faults.{fault_of}
use Rattle.trace_path.proofs.WholeLemmas.{gathered_traced, fault_none}
use Rattle.trace_path.proofs.traces.Traces.build.Goals as goal

pub returns-in_default-clause-none : goal.returns-in_default-clause-none
returns-in_default-clause-none c fits =
    (rw c.in_default.is at c.in_ok-gathered.ensures.none)
    (λ (t : ℕ) (w : t < length c.args.log.now.threads). (places_of fits.0 t, notes_of fits.0 t, fits.1.each t w))

pub returns-in_default-fault_of-clause-none : goal.returns-in_default-fault_of-clause-none
returns-in_default-fault_of-clause-none c fits =
    fault_none c.args.image.now c.args.log.now c.in-Some.gathered fits.0 (rw c.in-Some.is at c.in_ok-gathered.ensures.some)
    (ap (λ (stops : List Stop). fault_of c.args.image.now stops c.args.log.now.end) (sym c.as_slice-2.ensures) ∙ sym c.fault_of.ensures ∙ c.in_default-fault_of.is)
    fits.1

pub returns-clause-traced : goal.returns-clause-traced
returns-clause-traced c =
    let below : c.are_callers_below.result ≡ true = c.if-not-are_callers_below.false in
    gathered_traced c.args.image.now c.args.log.now c.in-Some.gathered c.in-Some-fault_of.fault (rw c.in-Some.is at c.in_ok-gathered.ensures.some)
    (subst (λ (n : ℕ). All (λ (r : CallRec). r.tid < n) c.args.log.now.calls) c.len.ensures
    (subst (λ (rs : List CallRec). All (λ (r : CallRec). r.tid < c.len.result) rs) c.as_slice.ensures (c.are_callers_below.ensures.0 below)))
    (ap (λ (stops : List Stop). fault_of c.args.image.now stops c.args.log.now.end) (sym c.as_slice-2.ensures) ∙ sym c.fault_of.ensures ∙ c.in-Some-fault_of.is)
