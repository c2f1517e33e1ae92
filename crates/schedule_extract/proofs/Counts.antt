-- The exit that is the last call of a log, and the number of its threads.
use Rattle.std.specs.Prelude.{◌≡◌, ℕ, ◌-◌, ◌<◌, ◌≤◌, ◌%◌, Bool, true, false, ◌&&◌, cond, List, [], ◌∷◌, length, nat_eq, nat_lt, slice_get, Some, None, if◌then◌else◌, refl}
use Rattle.std.specs.List.{fold}
use Rattle.std.proofs.Common.{sym, ◌∙◌, ap, subst, arith, inl, inr}
use Rattle.std.proofs.lemmas.Bool.{cases_lt, false≢true, ltb-true}
use Rattle.std.proofs.lemmas.List.{length-set, length-append}
use Rattle.std.proofs.lemmas.Option.{none-some, slice_get_within, same_Some}
use Rattle.odr_log.specs.declared.log.Call.{Call}
use Rattle.odr_log.specs.declared.log.Call.TheVariants as call
use Rattle.odr_log.specs.declared.log.CallRec.{CallRec}
use Rattle.odr_log.specs.declared.log.Log.{Log}
use Rattle.odr_log.specs.declared.log.Pos.{Pos}
use Rattle.odr_log.specs.Tape.{tape_of}
use Rattle.rv_model.specs.declared.state.Calls.{Calls}
use Rattle.rv_model.specs.declared.hearing.Reply.{Reply}
use Rattle.rv_model.specs.Calls.{made, opening_calls, reply_to, asked_in, calls_after, no_reply}
use Rattle.rv_model.specs.CallsFit.{CallsFit, FitsRecord, Pass, after_record, reply_in}
use Rattle.guided_walk.specs.Ordered.{IsExit}
use Rattle.guided_walk.proofs.Records.{at_among, rec}
use Rattle.walk_orders.proofs.Exits.{contains_among, earlier_goes}

-- ---- the exit

pub no_exit : (log : Log) → CallsFit log → (r : CallRec) → slice_get log.calls (length log.calls - 1) ≡ Some r → ((code : ℕ) → r.call ≡ call.Exit code → ⊥)
    → (p : Pos) → IsExit log p → ⊥
no_exit log fit r last stays p exit =
    let made : CallRec = rec p.thread p.step (call.Exit exit.0) in
    let at : (i : ℕ) × (slice_get log.calls i ≡ Some made) = at_among log.calls made (contains_among log.calls made exit.1) in
    let within : at.0 < length log.calls = slice_get_within log.calls at.0 made at.1 in
    elim (cases_lt at.0 (length log.calls - 1)) [
      | inl less ↦ false≢true (sym (earlier_goes log fit at.0 (length log.calls - 1) made r at.1 last less))
      | inr past ↦ (let same : at.0 ≡ length log.calls - 1 = omega (arith, within, past) in
          stays exit.0 (ap (λ (x : CallRec). x.call) (same_Some r made (sym last ∙ ap (slice_get log.calls) (sym same) ∙ at.1))))
    ]

-- ---- at most eight threads

spawned_few : (calls : Calls) (child : ℕ) → (b : Bool)
    → record no_reply { child = if b && nat_lt (made calls) 8 then Some (made calls) else None } ≡ record no_reply { child = Some child }
    → made calls < 8
spawned_few calls child false e = absurd (none-some child (ap (λ (r : Reply). r.child) e))
spawned_few calls child true e = by_test (nat_lt (made calls) 8) refl (ap (λ (r : Reply). r.child) e) where
  by_test : (b : Bool) → nat_lt (made calls) 8 ≡ b → cond b (Some (made calls)) None ≡ Some child → made calls < 8
  by_test true is same = ltb-true (made calls) 8 is
  by_test false is same = absurd (none-some child same)

few_after : (calls : Calls) (r : CallRec) → FitsRecord calls r → made calls ≤ 8 → (c : Call) → r.call ≡ c → made (calls_after calls r.tid 0 c) ≤ 8
few_after calls r fits few (call.Spawn entry (Some child)) e =
    let same : reply_to calls r.tid (asked_in (call.Spawn entry (Some child))) ≡ reply_in (call.Spawn entry (Some child)) =
    subst (λ (x : Call). reply_to calls r.tid (asked_in x) ≡ reply_in x) e fits.answered in
    omega (arith, spawned_few calls child (nat_eq (entry % 4) 0) same, length-append calls.ended (None ∷ []))
few_after calls r fits few call.EndThread e = omega (arith, few, length-set calls.ended r.tid (Some 0))
few_after calls r fits few (call.Exit code) e = few
few_after calls r fits few (call.Spawn entry None) e = few
few_after calls r fits few (call.Join target ok) e = few
few_after calls r fits few (call.Lock mutex true) e = few
few_after calls r fits few (call.Lock mutex false) e = few
few_after calls r fits few (call.Unlock mutex true) e = few
few_after calls r fits few (call.Unlock mutex false) e = few
few_after calls r fits few (call.TryLock mutex true) e = few
few_after calls r fits few (call.TryLock mutex false) e = few
few_after calls r fits few (call.Write bytes) e = few
few_after calls r fits few call.WriteBad e = few
few_after calls r fits few (call.Read want bytes) e = few
few_after calls r fits few call.ReadBad e = few
few_after calls r fits few call.SelfId e = few
few_after calls r fits few call.Yield e = few
few_after calls r fits few (call.Unknown number) e = few

few_along : (calls : Calls) (records : List CallRec) → Pass calls records → made calls ≤ 8 → made (fold after_record calls records) ≤ 8
few_along calls [] pass few = few
few_along calls (r ∷ records) pass few = few_along (after_record calls r) records pass.1 (few_after calls r pass.0 few r.call refl)

pub few_threads : (log : Log) → CallsFit log → length log.threads ≤ 256
few_threads log fit =
    omega (arith, few_along (opening_calls (tape_of log)) log.calls fit.pass (omega arith), fit.threads)
