-- What a call promises, by what its work came to and by what was left of that.
use Rattle.std.specs.Prelude.{◌≡◌, ◌≢◌, ◌⊎◌, ◌↔◌, ℕ, List, Bool, true, false, Option, Some, None, IfSome, Result, Ok, Err, IfOk, IsErrOf, is_some, refl}
use Rattle.std.specs.Option.{IsSomeAnd}
use Rattle.std.specs.Io.KnownBytes.{append_known}
use Rattle.std.proofs.Common.{sym, ◌∙◌, ap, subst, inl, inr, eqb, eq-eqb}
use Rattle.std.proofs.lemmas.Bool.{false≢true, eqb-true}
use Rattle.odr_io.specs.Outside.{Held, KeepsOthers, Rose}
use Rattle.odr_words.specs.declared.fault.WordsFault.{WordsFault}
use Rattle.odr_words.specs.declared.fault.WordsFault.TheVariants as fault
use Rattle.odr_words.specs.declared.job.Job.{Job}
use Rattle.odr_words.specs.declared.job.Job.TheVariants as job
use Rattle.odr_words.specs.Jobs.{IsWithinLimits}
use Rattle.rv_model.specs.Law.{NoDifferenceIsLog}
use Rattle.odr_task.specs.declared.done.Done.{Done}
use Rattle.odr_task.specs.declared.done.NamedFile.{NamedFile}
use Rattle.odr_task.specs.declared.refusal.Refusal.TheVariants as refusal
use Rattle.odr_task.specs.declared.refusal.Stop.{Stop}
use Rattle.odr_task.specs.declared.refusal.Stop.TheVariants as stop
use Rattle.odr_task.specs.Verdict.{Verdict, Refused, status_of, device_line}
use Rattle.odr_task.specs.Refusals.{verdict_of, reason_of}
use Rattle.odr_task.specs.Files.{StopsBy, Reads}
use Rattle.odr_task.specs.Done.{ended_by, text_in, IsNamed, HasSaved, KeepsBut, Prepared}
use Rattle.odr_task.specs.Settled.{IsCut, IsLine, Shown, Settled}
use Rattle.odr_top.specs.Record.{Recorded}
use Rattle.odr_top.specs.Infer.{InferredRun}
use Rattle.odr_top.specs.Replay.{Replayed}
use Rattle.odr_top.specs.Asm.{Assembled}
use Rattle.odr_top.specs.Owes.{Owes, saves, OwesWords, saved_name, IsNotBuilt, LoadsNothing, IsReading}
use Rattle.odr_top.specs.Answer.{KeepsName, KeepsInputs, LeavesText, Leaves, Concluded, Finishes, MayFinish, HasSavedWhole, IsErrLine, CutShort, StopsEarly, Worked}
use Rattle.odr_top.proofs.OneReading.{Laws}
use Rattle.odr_top.proofs.Reading.{reads_steady}
use Rattle.odr_top.proofs.Recording.{record_saved}
use Rattle.odr_top.proofs.Inferring.{infer_found}
use Rattle.odr_top.proofs.Replaying.{replay_wrote}
use Rattle.odr_top.proofs.Assembling.{asm_made}
use Rattle.odr_top.proofs.Jobs.{one_status, two_is_no_job, no_job_is_two}

-- ---- the work

-- what holds of the job that a reference names
pub reads_job : (job j : Job) (r : Result Done Stop) (before after : Option Held) (f f' : ℕ) → job ≡ j → Reads (Prepared (Owes before j) (saves j)) (Owes before j) r before after f f'
    → Reads (Prepared (Owes before job) (saves job)) (Owes before job) r before after f f'
reads_job job j r before after f f' is reads = subst (λ (k : Job). Reads (Prepared (Owes before k) (saves k)) (Owes before k) r before after f f') (sym is) reads

pub is_reading : (words : Option Job) (r : Result Job WordsFault) → IfOk r (λ j. words ≡ Some j) → IfOk r IsWithinLimits → (IsErrOf r fault.Bad ↔ (words ≡ None)) → IsReading words r
is_reading words (Ok j) is within bad = (is, within)
is_reading words (Err fault.Bad) is within bad = bad.0 refl
is_reading words (Err fault.Memory) is within bad = tt

pub worked_job : (words : Option Job) (read : Result Job WordsFault) (j : Job) (r : Result Done Stop) (Kept : Type 0) (before after : Option Held) (f f' : ℕ) → read ≡ Ok j → IsReading words read
    → Reads (Prepared (Owes before j) (saves j)) (Owes before j) r before after f f' → (IsNotBuilt j → (r ≡ Err (stop.Refused refusal.NotBuilt)) × Kept) → Worked words r Kept before after f f'
worked_job words read j r Kept before after f f' is reading reads not_built =
    let here : IsReading words (Ok j) = subst (λ (t : Result Job WordsFault). IsReading words t) is reading in
    subst (λ (w : Option Job). Worked w r Kept before after f f') (sym here.0)
    (let one : Worked (Some j) r Kept before after f f' = record {
      reads = reads;
      early = λ (no : IsNotBuilt j). (subst StopsEarly (sym (not_built no).0) (λ e. (let d = e in cc)), (not_built no).1);
    } in one)

stopped_early : (words : Option Job) (given : Stop) (Kept : Type 0) (before : Option Held) (f : ℕ) → StopsBy (OwesWords before words) given → given ≢ stop.Device → Kept
    → Worked words (Err given) Kept before before f f
stopped_early words given Kept before f stops differs kept = record {
  reads = record {
    given = tt;
    refused = stops;
    kept = refl;
    failed = λ e. absurd (differs (let left : Result Done Stop = Err given in let right : Result Done Stop = Err stop.Device in let d : left ≡ right = e in cc));
    steady = λ _. refl;
  };
  early = λ _. (differs, kept);
}

pub worked_bad : (words : Option Job) (read : Result Job WordsFault) (Kept : Type 0) (before : Option Held) (f : ℕ) → read ≡ Err fault.Bad → IsReading words read → Kept
    → Worked words (Err (stop.Refused refusal.BadWords)) Kept before before f f
worked_bad words read Kept before f is reading kept =
    let none : words ≡ None = subst (λ (t : Result Job WordsFault). IsReading words t) is reading in
    stopped_early words (stop.Refused refusal.BadWords) Kept before f (subst (λ (w : Option Job). OwesWords before w (Refused (reason_of refusal.BadWords))) (sym none) refl)
    (λ e. (let d : stop.Refused refusal.BadWords ≡ stop.Device = e in cc)) kept

pub worked_memory : (words : Option Job) (Kept : Type 0) (before : Option Held) (f : ℕ) → Kept → Worked words (Err stop.Memory) Kept before before f f
worked_memory words Kept before f kept = stopped_early words stop.Memory Kept before f tt (λ e. (let d : stop.Memory ≡ stop.Device = e in cc)) kept

pub not_cut : (Owed : Verdict → Type 0) (name : Option (List ℕ)) (r : Result Done Stop) → IfOk r (Prepared Owed name) → IfOk r (λ done. IsCut done.status → ⊥)
not_cut Owed name (Ok done) prepared = λ (cut : IsCut done.status). by_case done.status prepared.status cut where
  by_case : (status : ℕ) → status ≡ 0 → IsCut status → ⊥
  by_case status zero (inl one) = (let e : 0 ≡ 1 = sym zero ∙ one in cc)
  by_case status zero (inr six) = (let e : 0 ≡ 6 = sym zero ∙ six in cc)
not_cut Owed name (Err given) prepared = tt

-- ---- the call

-- The store holds `before` and has `f` faults at first, `f'` after the work and `f''` at the end. `Kept` says that nothing touched the store.
pub record Promise (words : Option Job) (Kept KeptOut : Type 0) (status : ℕ) (before after : Option Held) (f f'' : ℕ) (ob oa : Option (List ℕ)) (p p' : ℕ) (eb ea : Option (List ℕ)) (q q' : ℕ) : Type 0 where
  pub causes : status ≢ 1 → status ≢ 6 → Concluded before after words status ob oa eb ea
  pub nothing_failed : status ≢ 1 → status ≢ 6 → (f'' ≡ f) × (p' ≡ p) × (q' ≡ q)
  pub device : status ≡ 6 → Rose f f'' ⊎ (Rose p p' ⊎ Rose q q')
  pub device_line : status ≡ 6 → (ea ≡ append_known eb device_line) ⊎ Rose q q'
  pub cut_short : IsCut status → CutShort before words ob oa eb ea
  pub inputs_kept : KeepsInputs before after words
  pub told : is_some after ≡ is_some before
  pub files_kept : status ≢ 0 → status ≢ 1 → status ≢ 6 → after ≡ before
  pub before_save : ((after ≡ before) × KeptOut) ⊎ MayFinish before words
  pub saved_first : KeptOut ⊎ HasSavedWhole before after words
  pub whole_or_kept : (Rose f f'' → ⊥) → (after ≡ before) ⊎ HasSavedWhole before after words
  pub away : LoadsNothing words → Kept × KeptOut × (status ≡ 6 → Rose q q')

keeps_same : (before after : Option Held) (name : Option (List ℕ)) → after ≡ before → KeepsName before after name
keeps_same before after None same = same
keeps_same before after (Some name) same = subst (λ (o : Option Held). KeepsOthers before o name) (sym same) (by_case before) where
  by_case : (o : Option Held) → KeepsOthers o o name
  by_case None = tt
  by_case (Some held) = λ (other : List ℕ) (differs : other ≢ name). refl

keeps_named : (before after : Option Held) (name : Option (List ℕ)) (file : Option NamedFile) → IsNamed name file → KeepsBut before after file → KeepsName before after name
keeps_named before after name None named keeps = keeps_same before after name keeps
keeps_named before after name (Some file) named keeps = subst (λ (n : Option (List ℕ)). KeepsName before after n) named keeps

leaves_named : (before after : Option Held) (name : Option (List ℕ)) (file : Option NamedFile) → IsNamed name file → HasSaved before after file → LeavesText before after name (text_in file)
leaves_named before after name None named saved = saved
leaves_named before after name (Some file) named saved = subst (λ (n : Option (List ℕ)). LeavesText before after n (Some file.bytes)) named saved

err_line : (told : Option Held) (words : Option Job) (verdict : Option Verdict) (line : List ℕ) → IfSome verdict (OwesWords told words) → IsLine verdict line → IsErrLine told words line
err_line told words verdict line owed (inl memory) = inl memory
err_line told words verdict line owed (inr (inl device)) = inr (inl device)
err_line told words None line owed (inr (inr none)) = absurd none
err_line told words (Some v) line owed (inr (inr is)) = inr (inr (v, is, owed))

-- the work came to its end
promise_done : (words : Option Job) (done : Done) (Kept KeptFiles KeptOut : Type 0) (status : ℕ) (before after : Option Held) (f f' f'' : ℕ) (ob oa : Option (List ℕ)) (p p' : ℕ) (eb ea : Option (List ℕ)) (q q' : ℕ)
    → Prepared (OwesWords before words) (saved_name words) done → (LoadsNothing words → ⊥) → f' ≡ f → Settled (Ok done) KeptFiles KeptOut status before after f' f'' ob oa p p' eb ea q q'
    → Promise words Kept KeptOut status before after f f'' ob oa p p' eb ea q q'
promise_done words done Kept KeptFiles KeptOut status before after f f' f'' ob oa p p' eb ea q q' prepared loads same settled =
    let finishes : Finishes before words (ended_by done) = record { status = prepared.status; ends = tt; owed = prepared.owed } in
    let leaves : HasSaved before after done.file → Leaves before after words (ended_by done) = leaves_named before after (saved_name words) done.file prepared.named in
    record {
      causes = λ (m : status ≢ 1) (d : status ≢ 6). (let shown = settled.shown m d in record {
        verdict = ended_by done;
        status_is = shown.status_is;
        owed = prepared.owed;
        leaves = leaves shown.saved;
        out_is = shown.out_is;
        err_is = shown.err_is;
      });
      nothing_failed = λ (m : status ≢ 1) (d : status ≢ 6). (let steady = settled.steady m d in (steady.0 ∙ same, steady.1, steady.2));
      device = λ (e : status ≡ 6). subst (λ (n : ℕ). Rose n f'' ⊎ (Rose p p' ⊎ Rose q q')) same (settled.device e);
      device_line = settled.device_line;
      cut_short = λ (cut : IsCut status). (let part = settled.err_part cut in record {
        out_is = elim settled.out_part [ inl kept ↦ inl kept | inr front ↦ inr (ended_by done, finishes, front) ];
        line = part.line;
        is_line = err_line before words (Some (ended_by done)) part.line prepared.owed part.is_line;
        err_is = part.part;
      });
      inputs_kept = keeps_named before after (saved_name words) done.file prepared.named settled.others;
      told = settled.told;
      files_kept = λ (z : status ≢ 0) (m : status ≢ 1) (d : status ≢ 6). absurd (z ((settled.shown m d).status_is ∙ prepared.status));
      before_save = inr (ended_by done, finishes);
      saved_first = elim settled.saved_first [ inl kept ↦ inl kept | inr saved ↦ inr (ended_by done, finishes, leaves saved) ];
      whole_or_kept = λ (steady : Rose f f'' → ⊥).
          elim (settled.whole (λ (rose : Rose f' f''). steady (subst (λ (n : ℕ). Rose n f'') same rose))) [ inl kept ↦ inl kept | inr saved ↦ inr (ended_by done, finishes, leaves saved) ];
      away = λ (no : LoadsNothing words). absurd (loads no);
    }

-- nothing was touched: what a stop says
stop_concluded : (words : Option Job) (given : Stop) (status : ℕ) (before after : Option Held) (ob oa eb ea : Option (List ℕ)) → StopsBy (OwesWords before words) given → after ≡ before
    → IsSomeAnd (verdict_of given) (Shown None status before after ob oa eb ea) → Concluded before after words status ob oa eb ea
stop_concluded words (stop.Refused refusal) status before after ob oa eb ea owed kept shown =
    record { verdict = Refused (reason_of refusal); status_is = shown.status_is; owed = owed; leaves = kept; out_is = shown.out_is; err_is = shown.err_is }
stop_concluded words stop.Device status before after ob oa eb ea owed kept shown = absurd shown
stop_concluded words stop.Memory status before after ob oa eb ea owed kept shown = absurd shown

shown_no_device : (given : Stop) (P : Verdict → Type 0) → IsSomeAnd (verdict_of given) P → given ≢ stop.Device
shown_no_device (stop.Refused refusal) P shown = λ (e : stop.Refused refusal ≡ stop.Device). (cc)
shown_no_device stop.Device P shown = absurd shown
shown_no_device stop.Memory P shown = absurd shown

promise_stop : (words : Option Job) (given : Stop) (Kept Untouched KeptFiles KeptOut : Type 0) (status : ℕ) (before after : Option Held) (f f' f'' : ℕ) (ob oa : Option (List ℕ)) (p p' : ℕ) (eb ea : Option (List ℕ)) (q q' : ℕ)
    → StopsBy (OwesWords before words) given → (given ≡ stop.Device → Rose f f') → (given ≢ stop.Device → f' ≡ f) → (LoadsNothing words → (given ≢ stop.Device) × Untouched)
    → (Untouched → KeptFiles → Kept) → (KeptFiles → f'' ≡ f') → (KeptOut → oa ≡ ob)
    → Settled (Err given) KeptFiles KeptOut status before after f' f'' ob oa p p' eb ea q q'
    → Promise words Kept KeptOut status before after f f'' ob oa p p' eb ea q q'
promise_stop words given Kept Untouched KeptFiles KeptOut status before after f f' f'' ob oa p p' eb ea q q' owed failed steady early kept count written settled =
    let files = settled.stopped.0 in
    let out = settled.stopped.1 in
    let last : status ≡ 6 → (given ≡ stop.Device) ⊎ Rose q q' = settled.stopped.2 in
    record {
      causes = λ (m : status ≢ 1) (d : status ≢ 6). stop_concluded words given status before after ob oa eb ea owed settled.others (settled.shown m d);
      nothing_failed = λ (m : status ≢ 1) (d : status ≢ 6). (let same = settled.steady m d in
          (same.0 ∙ steady (shown_no_device given (Shown None status before after ob oa eb ea) (settled.shown m d)), same.1, same.2));
      device = λ (e : status ≡ 6). elim (last e) [
        | inl device ↦ inl (subst (λ (n : ℕ). Rose f n) (sym (count files)) (failed device))
        | inr rose ↦ inr (inr rose)
      ];
      device_line = settled.device_line;
      cut_short = λ (cut : IsCut status). (let part = settled.err_part cut in record {
        out_is = inl (written out);
        line = part.line;
        is_line = err_line before words (verdict_of given) part.line owed part.is_line;
        err_is = part.part;
      });
      inputs_kept = keeps_same before after (saved_name words) settled.others;
      told = settled.told;
      files_kept = λ (z : status ≢ 0) (m : status ≢ 1) (d : status ≢ 6). settled.others;
      before_save = inl (settled.others, out);
      saved_first = inl out;
      whole_or_kept = λ (none : Rose f f'' → ⊥). inl settled.others;
      away = λ (no : LoadsNothing words). (kept (early no).1 files, out, λ (e : status ≡ 6). elim (last e) [ inl device ↦ absurd ((early no).0 device) | inr rose ↦ rose ]);
    }

pub promise : (words : Option Job) (r : Result Done Stop) (Kept Untouched KeptFiles KeptOut : Type 0) (status : ℕ) (before mid after : Option Held) (f f' f'' : ℕ) (ob oa : Option (List ℕ)) (p p' : ℕ) (eb ea : Option (List ℕ)) (q q' : ℕ)
    → Worked words r Untouched before mid f f' → (Untouched → KeptFiles → Kept) → (KeptFiles → f'' ≡ f') → (KeptOut → oa ≡ ob)
    → Settled r KeptFiles KeptOut status mid after f' f'' ob oa p p' eb ea q q'
    → Promise words Kept KeptOut status before after f f'' ob oa p p' eb ea q q'
promise words (Ok done) Kept Untouched KeptFiles KeptOut status before mid after f f' f'' ob oa p p' eb ea q q' worked kept count written settled =
    promise_done words done Kept KeptFiles KeptOut status before after f f' f'' ob oa p p' eb ea q q' worked.reads.given (λ (no : LoadsNothing words). (worked.early no).0)
    (reads_steady (Prepared (OwesWords before words) (saved_name words)) (OwesWords before words) done before mid f f' worked.reads)
    (subst (λ (m : Option Held). Settled (Ok done) KeptFiles KeptOut status m after f' f'' ob oa p p' eb ea q q') worked.reads.kept settled)
promise words (Err given) Kept Untouched KeptFiles KeptOut status before mid after f f' f'' ob oa p p' eb ea q q' worked kept count written settled =
    promise_stop words given Kept Untouched KeptFiles KeptOut status before after f f' f'' ob oa p p' eb ea q q' worked.reads.refused
    (λ (e : given ≡ stop.Device). worked.reads.failed (ap Err e))
    (λ (differs : given ≢ stop.Device). worked.reads.steady (λ e. differs (let left : Result Done Stop = Err given in let right : Result Done Stop = Err stop.Device in let d : left ≡ right = e in cc)))
    worked.early kept count written
    (subst (λ (m : Option Held). Settled (Err given) KeptFiles KeptOut status m after f' f'' ob oa p p' eb ea q q') worked.reads.kept settled)

-- ---- what status 0 says of each command

-- a status of 0 is neither 1 nor 6
pub ended : (before after : Option Held) (words : Option Job) (status : ℕ) (ob oa eb ea : Option (List ℕ)) → (status ≢ 1 → status ≢ 6 → Concluded before after words status ob oa eb ea)
    → (k : ℕ) → status ≡ k → k ≢ 1 → k ≢ 6 → Concluded before after words status ob oa eb ea
ended before after words status ob oa eb ea causes k is m d = causes (λ (e : status ≡ 1). m (sym is ∙ e)) (λ (e : status ≡ 6). d (sym is ∙ e))

-- an end at status 0
zero_end : (before after : Option Held) (words : Option Job) (status : ℕ) (ob oa eb ea : Option (List ℕ)) → (status ≢ 1 → status ≢ 6 → Concluded before after words status ob oa eb ea)
    → status ≡ 0 → Concluded before after words status ob oa eb ea
zero_end before after words status ob oa eb ea causes zero =
    ended before after words status ob oa eb ea causes 0 zero (λ (e : 0 ≡ 1). (cc)) (λ (e : 0 ≡ 6). (cc))

pub record Headlines (words : Option Job) (before after : Option Held) (ob oa : Option (List ℕ)) : Type 0 where
  pub inferred : InferredRun before after words ob oa
  pub assembled : Assembled before after words ob oa
  pub recorded : Recorded before after words ob oa
  pub replayed : Replayed before words ob oa

pub headlines : NoDifferenceIsLog → Laws → (before after : Option Held) (words : Option Job) (status : ℕ) (ob oa eb ea : Option (List ℕ))
    → (status ≢ 1 → status ≢ 6 → Concluded before after words status ob oa eb ea) → status ≡ 0 → Headlines words before after ob oa
headlines law laws before after words status ob oa eb ea causes zero =
    let end = zero_end before after words status ob oa eb ea causes zero in
    let none : status_of end.verdict ≡ 0 = sym end.status_is ∙ zero in
    record {
      inferred = λ (elf log out : List ℕ) (steps : ℕ) (is : words ≡ Some (job.Infer elf log out steps)).
          infer_found law laws before after elf log out ob oa end.verdict none (subst (λ (w : Option Job). OwesWords before w end.verdict) is end.owed)
          (subst (λ (w : Option Job). Leaves before after w end.verdict) is end.leaves) end.out_is;
      assembled = λ (text elf : List ℕ) (is : words ≡ Some (job.Asm text elf)).
          asm_made before after text elf ob oa end.verdict none (subst (λ (w : Option Job). OwesWords before w end.verdict) is end.owed)
          (subst (λ (w : Option Job). Leaves before after w end.verdict) is end.leaves) end.out_is;
      recorded = λ (elf log : List ℕ) (seed limit : ℕ) (input : Option (List ℕ)) (is : words ≡ Some (job.Record elf log seed limit input)).
          record_saved before after elf log seed limit input ob oa end.verdict none (subst (λ (w : Option Job). OwesWords before w end.verdict) is end.owed)
          (subst (λ (w : Option Job). Leaves before after w end.verdict) is end.leaves) end.out_is;
      replayed = λ (elf log sched : List ℕ) (is : words ≡ Some (job.Replay elf log sched)).
          replay_wrote law laws before elf log sched ob oa end.verdict none (subst (λ (w : Option Job). OwesWords before w end.verdict) is end.owed) end.out_is;
    }

-- ---- statuses

-- a status that is neither 1 nor 6, or one of them
cut_or : (status : ℕ) (P : Type 0) → (status ≢ 1 → status ≢ 6 → P) → P ⊎ IsCut status
cut_or status P f = by_case (eqb status 1) (eqb status 6) refl refl where
  by_case : (memory device : Bool) → eqb status 1 ≡ memory → eqb status 6 ≡ device → P ⊎ IsCut status
  by_case true device m d = inr (inl (eqb-true status 1 m))
  by_case false true m d = inr (inr (eqb-true status 6 d))
  by_case false false m d = inl (f (λ (e : status ≡ 1). false≢true (sym m ∙ eq-eqb status 1 e)) (λ (e : status ≡ 6). false≢true (sym d ∙ eq-eqb status 6 e)))

-- Where the store tells what it holds, the status is the owed one, or the call was cut short.
pub completes : Laws → (before after : Option Held) (words : Option Job) (status : ℕ) (ob oa eb ea : Option (List ℕ))
    → (status ≢ 1 → status ≢ 6 → Concluded before after words status ob oa eb ea)
    → IfSome before (λ held. (verdict : Verdict) → OwesWords (Some held) words verdict → (status ≡ status_of verdict) ⊎ IsCut status)
completes laws None after words status ob oa eb ea causes = tt
completes laws (Some held) after words status ob oa eb ea causes = λ (verdict : Verdict) (owed : OwesWords (Some held) words verdict).
    cut_or status (status ≡ status_of verdict)
    (λ (m : status ≢ 1) (d : status ≢ 6). (let end = causes m d in end.status_is ∙ one_status laws held words end.verdict verdict end.owed owed))

pub bad_words : Laws → (before after : Option Held) (words : Option Job) (status : ℕ) (ob oa eb ea : Option (List ℕ))
    → (status ≢ 1 → status ≢ 6 → Concluded before after words status ob oa eb ea) → (status ≡ 2 → words ≡ None) × (words ≡ None → (status ≡ 2) ⊎ IsCut status)
bad_words laws before after words status ob oa eb ea causes = (
  λ (two : status ≡ 2).
      (let end = ended before after words status ob oa eb ea causes 2 two (λ (e : 2 ≡ 1). (cc)) (λ (e : 2 ≡ 6). (cc)) in
      two_is_no_job laws before words end.verdict end.owed (sym end.status_is ∙ two)),
  λ (none : words ≡ None).
      cut_or status (status ≡ 2) (λ (m : status ≢ 1) (d : status ≢ 6). (let end = causes m d in end.status_is ∙ no_job_is_two before words end.verdict end.owed none)),
)

-- a job that is not built loads nothing
pub unbuilt : (words : Option Job) (P : Type 0) → (LoadsNothing words → P) → IfSome words (λ j. IsNotBuilt j → P)
unbuilt None P f = tt
unbuilt (Some j) P f = f

pub no_job : (words : Option Job) (P : Type 0) → (LoadsNothing words → P) → words ≡ None → P
no_job None P f e = f tt
no_job (Some j) P f e = absurd cc
