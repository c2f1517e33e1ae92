-- What a call leaves, by what saving, printing and reporting left.
use Rattle.std.specs.Prelude.{◌≡◌, ◌≢◌, ◌⊎◌, ℕ, List, [], Option, Some, None, Result, Ok, Err, IfOk, is_some, refl}
use Rattle.std.proofs.Common.{sym, ◌∙◌, ap, subst, inl, inr, append-nil}
use Rattle.std.specs.Option.{IsSomeAnd}
use Rattle.std.specs.Io.KnownBytes.{append_known}
use Rattle.odr_io.specs.Outside.{Held, Rose}
use Rattle.odr_io.specs.Written.{AppendsPrefix, append_known-nothing}
use Rattle.odr_io.specs.declared.fail.SaveFail.{SaveFail}
use Rattle.odr_io.specs.declared.fail.SaveFail.TheVariants as fail
use Rattle.odr_task.specs.declared.done.Done.{Done}
use Rattle.odr_task.specs.declared.refusal.Refusal.{Refusal}
use Rattle.odr_task.specs.declared.refusal.Stop.{Stop}
use Rattle.odr_task.specs.declared.refusal.Stop.TheVariants as stop
use Rattle.odr_task.specs.Verdict.{Verdict, Refused, status_of, err_text, device_line}
use Rattle.odr_task.specs.Refusals.{verdict_of, stop_of, reason_of}
use Rattle.odr_task.specs.Done.{ended_by, HasSaved, KeepsBut}
use Rattle.odr_task.specs.Settled.{IsCut, IsLine, Reported, PartOfLine, Shown, Settled}

-- what saving and printing left, of which an `Err` leaves a front
pub record Leaves (done : Done) (KeptOut : Type 0) (before after : Option Held) (f f' : ℕ) : Type 0 where
  pub others : KeepsBut before after done.file
  pub saved_first : KeptOut ⊎ HasSaved before after done.file
  pub told : is_some after ≡ is_some before
  pub whole : (Rose f f' → ⊥) → (after ≡ before) ⊎ HasSaved before after done.file

-- what the report of a stop left
pub record Reports (given : Stop) (status : ℕ) (eb ea : Option (List ℕ)) (q q' : ℕ) : Type 0 where
  pub told : status ≢ 1 → status ≢ 6 → IsSomeAnd (verdict_of given) (Reported status eb ea)
  pub cut : PartOfLine (verdict_of given) eb ea
  pub device : status ≡ 6 → ((given ≡ stop.Device) × (ea ≡ append_known eb device_line)) ⊎ Rose q q'
  pub steady : status ≢ 6 → q' ≡ q

pub settled_done : (done : Done) (KeptFiles KeptOut : Type 0) (before after : Option Held) (f f' : ℕ) (ob oa : Option (List ℕ)) (p p' : ℕ) (eb : Option (List ℕ)) (q : ℕ)
    → (IsCut done.status → ⊥) → Leaves done KeptOut before after f f' → HasSaved before after done.file → oa ≡ append_known ob done.printed → (f' ≡ f) × (p' ≡ p)
    → Settled (Ok done) KeptFiles KeptOut done.status before after f f' ob oa p p' eb eb q q
settled_done done KeptFiles KeptOut before after f f' ob oa p p' eb q ends leaves saved printed same = record {
  shown = λ (m : done.status ≢ 1) (d : done.status ≢ 6). record {
    status_is = refl;
    saved = saved;
    out_is = printed;
    err_is = sym (append_known-nothing eb);
  };
  steady = λ (m : done.status ≢ 1) (d : done.status ≢ 6). (same.0, same.1, refl);
  device = λ (e : done.status ≡ 6). absurd (ends (inr e));
  device_line = λ (e : done.status ≡ 6). absurd (ends (inr e));
  out_part = inr (record { prefix = done.printed; rest = []; parts = sym (append-nil done.printed); appended = printed });
  err_part = λ (cut : IsCut done.status). absurd (ends cut);
  others = leaves.others;
  told = leaves.told;
  saved_first = leaves.saved_first;
  whole = leaves.whole;
  stopped = tt;
}

-- a line of a stop that has no verdict
no_verdict : (verdict : Verdict) (eb ea : Option (List ℕ)) → PartOfLine None eb ea → PartOfLine (Some verdict) eb ea
no_verdict verdict eb ea part = record { line = part.line; is_line = by_case part.line part.is_line; part = part.part } where
  by_case : (line : List ℕ) → IsLine None line → IsLine (Some verdict) line
  by_case line (inl memory) = inl memory
  by_case line (inr (inl device)) = inr (inl device)
  by_case line (inr (inr none)) = absurd none

not_reported : (given : SaveFail) (P : Verdict → Type 0) → IsSomeAnd (verdict_of (stop_of given)) P → ⊥
not_reported fail.Failed P told = told
not_reported fail.Memory P told = told

failed_verdict : (given : SaveFail) → verdict_of (stop_of given) ≡ None
failed_verdict fail.Failed = refl
failed_verdict fail.Memory = refl

is_failed : (given : SaveFail) → stop_of given ≡ stop.Device → given ≡ fail.Failed
is_failed fail.Failed e = refl
is_failed fail.Memory e = absurd cc

-- Saving or printing failed, which was reported.
pub settled_failed : (done : Done) (KeptFiles KeptOut : Type 0) (status : ℕ) (before after : Option Held) (f f' : ℕ) (ob oa : Option (List ℕ)) (p p' : ℕ) (eb ea : Option (List ℕ)) (q q' : ℕ)
    (given : SaveFail) (told : Stop) → told ≡ stop_of given → Leaves done KeptOut before after f f' → AppendsPrefix ob oa done.printed → (given ≡ fail.Failed → Rose f f' ⊎ Rose p p')
    → Reports told status eb ea q q' → Settled (Ok done) KeptFiles KeptOut status before after f f' ob oa p p' eb ea q q'
settled_failed done KeptFiles KeptOut status before after f f' ob oa p p' eb ea q q' given told is leaves part failed given_report =
    let report : Reports (stop_of given) status eb ea q q' = subst (λ (s : Stop). Reports s status eb ea q q') is given_report in
    record {
      shown = λ (m : status ≢ 1) (d : status ≢ 6). absurd (not_reported given (Reported status eb ea) (report.told m d));
      steady = λ (m : status ≢ 1) (d : status ≢ 6). absurd (not_reported given (Reported status eb ea) (report.told m d));
      device = λ (e : status ≡ 6). elim (report.device e) [
        | inl told ↦ elim (failed (is_failed given told.0)) [ inl store ↦ inl store | inr sink ↦ inr (inl sink) ]
        | inr rose ↦ inr (inr rose)
      ];
      device_line = λ (e : status ≡ 6). elim (report.device e) [ inl told ↦ inl told.1 | inr rose ↦ inr rose ];
      out_part = inr part;
      err_part = λ (cut : IsCut status). no_verdict (ended_by done) eb ea (subst (λ (o : Option Verdict). PartOfLine o eb ea) (failed_verdict given) report.cut);
      others = leaves.others;
      told = leaves.told;
      saved_first = leaves.saved_first;
      whole = leaves.whole;
      stopped = tt;
    }

stopped_shown : (given : Stop) (status : ℕ) (before : Option Held) (ob eb ea : Option (List ℕ)) → IsSomeAnd (verdict_of given) (Reported status eb ea)
    → IsSomeAnd (verdict_of given) (Shown None status before before ob ob eb ea)
stopped_shown (stop.Refused refusal) status before ob eb ea told =
    record { status_is = told.status_is; saved = refl; out_is = sym (append_known-nothing ob); err_is = told.err_is }
stopped_shown stop.Device status before ob eb ea told = told
stopped_shown stop.Memory status before ob eb ea told = told

-- A command stopped, which was reported.
pub settled_stopped : (given : Stop) (KeptFiles KeptOut : Type 0) (status : ℕ) (before : Option Held) (f : ℕ) (ob : Option (List ℕ)) (p : ℕ) (eb ea : Option (List ℕ)) (q q' : ℕ)
    → KeptFiles → KeptOut → Reports given status eb ea q q' → Settled (Err given) KeptFiles KeptOut status before before f f ob ob p p eb ea q q'
settled_stopped given KeptFiles KeptOut status before f ob p eb ea q q' files out report = record {
  shown = λ (m : status ≢ 1) (d : status ≢ 6). stopped_shown given status before ob eb ea (report.told m d);
  steady = λ (m : status ≢ 1) (d : status ≢ 6). (refl, refl, report.steady d);
  device = tt;
  device_line = λ (e : status ≡ 6). elim (report.device e) [ inl told ↦ inl told.1 | inr rose ↦ inr rose ];
  out_part = inl refl;
  err_part = λ (cut : IsCut status). report.cut;
  others = refl;
  told = refl;
  saved_first = inl out;
  whole = λ (none : Rose f f → ⊥). inl refl;
  stopped = (files, out, λ (e : status ≡ 6). elim (report.device e) [ inl told ↦ inl told.0 | inr rose ↦ inr rose ]);
}

pub ends_at : (prepared : Result Done Stop) (done : Done) → prepared ≡ Ok done → IfOk prepared (λ d. IsCut d.status → ⊥) → IsCut done.status → ⊥
ends_at prepared done is ends = subst (λ (r : Result Done Stop). IfOk r (λ (d : Done). IsCut d.status → ⊥)) is ends

-- a refusal whose line was written
pub reported_refusal : (given : Stop) (refusal : Refusal) (status : ℕ) (eb ea : Option (List ℕ)) (line : List ℕ) → given ≡ stop.Refused refusal → status ≡ (reason_of refusal).status
    → ea ≡ append_known eb line → line ≡ (reason_of refusal).line → IsSomeAnd (verdict_of given) (Reported status eb ea)
reported_refusal given refusal status eb ea line is status_is told same =
    let here : Reported status eb ea (Refused (reason_of refusal)) = record { status_is = status_is; err_is = told ∙ ap (append_known eb) same } in
    subst (λ (s : Stop). IsSomeAnd (verdict_of s) (Reported status eb ea)) (sym is) here

-- what holds of the value holds of a reference to it
pub settled_at : (prepared value : Result Done Stop) (KeptFiles KeptOut : Type 0) (status : ℕ) (before after : Option Held) (f f' : ℕ) (ob oa : Option (List ℕ)) (p p' : ℕ) (eb ea : Option (List ℕ)) (q q' : ℕ)
    → prepared ≡ value → Settled value KeptFiles KeptOut status before after f f' ob oa p p' eb ea q q' → Settled prepared KeptFiles KeptOut status before after f f' ob oa p p' eb ea q q'
settled_at prepared value KeptFiles KeptOut status before after f f' ob oa p p' eb ea q q' is settled =
    subst (λ (r : Result Done Stop). Settled r KeptFiles KeptOut status before after f f' ob oa p p' eb ea q q') (sym is) settled
