-- Files of one kind: each gives one thing or is refused, with one status, that is neither 0 nor 2.
use Rattle.std.specs.Prelude.{◌≡◌, ◌≢◌, ◌<◌, ℕ, List, [], ◌++◌, Option, Some, None, Result, Ok, Err}
use Rattle.std.proofs.Common.{sym, ◌∙◌, ap, subst, inl, inr, arith}
use Rattle.std.proofs.lemmas.List.{append-nil}
use Rattle.odr_limits.specs.declared.TheConstants.{MOST_STEPS}
use Rattle.odr_io.specs.Outside.{Held}
use Rattle.elf_image.specs.Layout.{Layout}
use Rattle.odr_log.specs.declared.log.Log.{Log}
use Rattle.odr_log.specs.Grammar.{IsInGrammar, log_bytes, steps_of}
use Rattle.odr_log.specs.Faults.{FirstBad, IsSomeLog}
use Rattle.rv32_asm.specs.declared.fault.AsmFault.{AsmFault}
use Rattle.rv32_asm.specs.declared.fault.AsmFault.TheVariants as asm
use Rattle.rv32_asm.specs.Assembly.{Program, Stops}
use Rattle.sched_text.specs.Text.{IsTextOf}
use Rattle.sched_text.specs.FirstBad.{IsFirstBad}
use Rattle.odr_task.specs.Verdict.{Verdict, Reason, status_of}
use Rattle.odr_task.specs.Refusals.{bad_line, unknown_name, text_too_large}
use Rattle.odr_task.specs.Files.{Gives, Refuses, RefusesBytes, FromFile}
use Rattle.odr_top.specs.Inputs.{IsProgram, NoProgram, IsRecording, NoRecording, IsScheduleFile, NoScheduleFile, IsInput, NoInput, IsSource, NoSource, fault_reason}

-- each log has one spelling, and bytes that stop to be a log are none
abbrev pub OneSpelling : Type 0
OneSpelling = (a b : Log) (rest : List ℕ) → IsInGrammar a → IsInGrammar b → log_bytes b ≡ log_bytes a ++ rest → (a ≡ b) × (rest ≡ [])

abbrev pub NoLog : Type 0
NoLog = (bytes : List ℕ) (p : ℕ) → FirstBad bytes p → ¬ IsSomeLog bytes

-- a text is that of one schedule, and has no bad line then
abbrev pub OneSchedule : Type 0
OneSchedule = (s t bytes : List ℕ) → IsTextOf s bytes → IsTextOf t bytes → s ≡ t

abbrev pub NoBadLine : Type 0
NoBadLine = (s bytes : List ℕ) (line : ℕ) → IsTextOf s bytes → IsFirstBad bytes line → ⊥

pub record Laws : Type 0 where
  pub spelling : OneSpelling
  pub no_log : NoLog
  pub schedule : OneSchedule
  pub no_bad_line : NoBadLine

-- ---- statuses of refusals

pub record IsFair (v : Verdict) : Type 0 where
  pub not_done : status_of v ≢ 0
  pub not_words : status_of v ≢ 2

pub fair : (v : Verdict) (k : ℕ) → 2 < k → status_of v ≡ k → IsFair v
fair v k large is = record {
  not_done = λ (e : status_of v ≡ 0). omega arith;
  not_words = λ (e : status_of v ≡ 2). omega arith;
}

-- a number has one value: these take no hypothesis whose parts compute long
pub zero_not_two : (n : ℕ) → n ≡ 0 → n ≢ 2
zero_not_two n zero = λ (two : n ≡ 2). (let e : 0 ≡ 2 = sym zero ∙ two in cc)

-- ---- files of one kind

-- a file that gives something isn't refused, and one that is refused has one status, above 2
pub record OneReading {X : Type 0} (Is : List ℕ → X → Type 0) (Not : List ℕ → Verdict → Type 0) : Type 0 where
  pub apart : (file : List ℕ) (x : X) (v : Verdict) → Is file x → Not file v → ⊥
  pub code : ℕ
  pub above : 2 < code
  pub status : (file : List ℕ) (v : Verdict) → Not file v → status_of v ≡ code

refused_status : {X : Type 0} (Is : List ℕ → X → Type 0) (Not : List ℕ → Verdict → Type 0) (name : List ℕ) (content : Option (List ℕ)) (v w : Verdict) → OneReading {X = X} Is Not
    → RefusesBytes Not name content v → RefusesBytes Not name content w → status_of v ≡ status_of w
refused_status {X} Is Not name None v w reading a b = ap status_of (a ∙ sym b)
refused_status {X} Is Not name (Some file) v w reading a b = reading.status file v a ∙ sym (reading.status file w b)

not_refused : {X : Type 0} (Is : List ℕ → X → Type 0) (Not : List ℕ → Verdict → Type 0) (held : Held) (name : List ℕ) (x : X) (v : Verdict)
    → OneReading Is Not → Gives Is (Some held) name x → Refuses Not (Some held) name v → ⊥
not_refused {X} Is Not held name x v reading gives refused =
    reading.apart gives.file x v gives.is (subst (λ (o : Option (List ℕ)). RefusesBytes Not name o v) (sym refused.finds ∙ gives.found) refused.refused)

same_file : {X : Type 0} (Is : List ℕ → X → Type 0) (held : Held) (name : List ℕ) (x y : X) (a : Gives Is (Some held) name x) (b : Gives Is (Some held) name y) → b.file ≡ a.file
same_file {X} Is held name x y a b = (let e : Some b.file ≡ Some a.file = sym b.found ∙ a.found in cc)

pub from_file : {X : Type 0} (Is : List ℕ → X → Type 0) (Not : List ℕ → Verdict → Type 0) (held : Held) (name : List ℕ) (Next : X → Verdict → Type 0) (v w : Verdict)
    → OneReading Is Not → ((file : List ℕ) (x y : X) → Is file x → Is file y → Next x v → Next y w → status_of v ≡ status_of w)
    → FromFile Is Not (Some held) name Next v → FromFile Is Not (Some held) name Next w → status_of v ≡ status_of w
from_file {X} Is Not held name Next v w reading next (inl a) (inl b) =
    refused_status Is Not name a.content v w reading a.refused (subst (λ (o : Option (List ℕ)). RefusesBytes Not name o w) (sym b.finds ∙ a.finds) b.refused)
from_file {X} Is Not held name Next v w reading next (inl a) (inr b) = absurd (not_refused Is Not held name b.0 v reading b.1 a)
from_file {X} Is Not held name Next v w reading next (inr a) (inl b) = absurd (not_refused Is Not held name a.0 w reading a.1 b)
from_file {X} Is Not held name Next v w reading next (inr a) (inr b) =
    next a.1.file a.0 b.0 a.1.is (subst (λ (f : List ℕ). Is f b.0) (same_file Is held name a.0 b.0 a.1 b.1) b.1.is) a.2 b.2

bytes_fair : {X : Type 0} (Is : List ℕ → X → Type 0) (Not : List ℕ → Verdict → Type 0) (name : List ℕ) (content : Option (List ℕ)) (v : Verdict) → OneReading {X = X} Is Not
    → RefusesBytes Not name content v → IsFair v
bytes_fair {X} Is Not name None v reading a = fair v 14 (omega arith) (ap status_of a)
bytes_fair {X} Is Not name (Some file) v reading a = fair v reading.code reading.above (reading.status file v a)

pub refuses_fair : {X : Type 0} (Is : List ℕ → X → Type 0) (Not : List ℕ → Verdict → Type 0) (told : Option Held) (name : List ℕ) (v : Verdict) → OneReading {X = X} Is Not
    → Refuses Not told name v → IsFair v
refuses_fair {X} Is Not told name v reading refused = bytes_fair Is Not name refused.content v reading refused.refused

-- ---- programs

program_apart : (file : List ℕ) (image : Layout) (v : Verdict) → IsProgram file image → NoProgram file v → ⊥
program_apart file image v is (inl large) = (let a = large.0 in let b = is.within in omega arith)
program_apart file image v is (inr fails) = (let e : None ≡ Some fails.0 = sym is.is_image.passes ∙ fails.2 in cc)

program_status : (file : List ℕ) (v : Verdict) → NoProgram file v → status_of v ≡ 3
program_status file v (inl large) = ap status_of large.1
program_status file v (inr fails) = ap status_of fails.3

pub one_program : OneReading IsProgram NoProgram
one_program = record { apart = program_apart; code = 3; above = omega arith; status = program_status }

pub one_image : (file : List ℕ) (a b : Layout) → IsProgram file a → IsProgram file b → b ≡ a
one_image file a b p q = q.is_image.gives ∙ sym p.is_image.gives

-- ---- logs

pub one_log : OneSpelling → (file : List ℕ) (a b : Log) → IsRecording file a → IsRecording file b → b ≡ a
one_log spelling file a b p q =
    (spelling b a [] q.is_log.0.grammar p.is_log.0.grammar (sym p.is_log.1 ∙ q.is_log.1 ∙ sym (append-nil (log_bytes b)))).0

few_steps : OneSpelling → (file : List ℕ) (a b : Log) → IsRecording file a → IsInGrammar b → file ≡ log_bytes b → MOST_STEPS < steps_of b → ⊥
few_steps spelling file a b p grammar bytes many =
    let same : b ≡ a = (spelling b a [] grammar p.is_log.0.grammar (sym p.is_log.1 ∙ bytes ∙ sym (append-nil (log_bytes b)))).0 in
    let more : MOST_STEPS < steps_of a = subst (λ (l : Log). MOST_STEPS < steps_of l) same many in
    let few = p.is_log.0.steps in omega arith

recording_apart : OneSpelling → NoLog → (file : List ℕ) (log : Log) (v : Verdict) → IsRecording file log → NoRecording file v → ⊥
recording_apart spelling no_log file log v is (inl (inl bytes, e)) = (let b = is.within in omega arith)
recording_apart spelling no_log file log v is (inl (inr many, e)) = few_steps spelling file log many.0 is many.1 many.2 many.3
recording_apart spelling no_log file log v is (inr bad) = no_log file bad.0 bad.2 (log, is.is_log.0.grammar, is.is_log.1)

recording_status : (file : List ℕ) (v : Verdict) → NoRecording file v → status_of v ≡ 4
recording_status file v (inl large) = ap status_of large.1
recording_status file v (inr bad) = ap status_of bad.3

pub one_recording : Laws → OneReading IsRecording NoRecording
one_recording laws = record { apart = recording_apart laws.spelling laws.no_log; code = 4; above = omega arith; status = recording_status }

-- ---- inputs

input_apart : (file tape : List ℕ) (v : Verdict) → IsInput file tape → NoInput file v → ⊥
input_apart file tape v is large = (let a = large.0 in let b = is.within in omega arith)

pub one_input : OneReading IsInput NoInput
one_input = record { apart = input_apart; code = 5; above = omega arith; status = λ (file : List ℕ) (v : Verdict) (a : NoInput file v). ap status_of a.1 }

-- ---- schedules

schedule_apart : NoBadLine → (text schedule : List ℕ) (v : Verdict) → IsScheduleFile text schedule → NoScheduleFile text v → ⊥
schedule_apart law text schedule v is (inl large) = (let a = large.0 in let b = is.within in omega arith)
schedule_apart law text schedule v is (inr bad) = law schedule text bad.0 is.is_text bad.2

schedule_status : (text : List ℕ) (v : Verdict) → NoScheduleFile text v → status_of v ≡ 5
schedule_status text v (inl large) = ap status_of large.1
schedule_status text v (inr bad) = ap status_of bad.3

pub one_schedule : Laws → OneReading IsScheduleFile NoScheduleFile
one_schedule laws = record { apart = schedule_apart laws.no_bad_line; code = 5; above = omega arith; status = schedule_status }

-- ---- texts

reason_status : (fault : AsmFault) (reason : Reason) → fault_reason fault ≡ Some reason → reason.status ≡ 5
reason_status (asm.BadLine number) reason e = (let f : Some (bad_line number) ≡ Some reason = e in let g : bad_line number ≡ reason = cc in ap (λ (r : Reason). r.status) (sym g))
reason_status (asm.UnknownName number) reason e = (let f : Some (unknown_name number) ≡ Some reason = e in let g : unknown_name number ≡ reason = cc in ap (λ (r : Reason). r.status) (sym g))
reason_status asm.TooLarge reason e = (let f : Some text_too_large ≡ Some reason = e in let g : text_too_large ≡ reason = cc in ap (λ (r : Reason). r.status) (sym g))
reason_status asm.Memory reason e = absurd (let f : None ≡ Some reason = e in cc)

source_status : (text : List ℕ) (v : Verdict) → NoSource text v → status_of v ≡ 5
source_status text v (inl large) = ap status_of large.1
source_status text v (inr bad) = ap status_of bad.3 ∙ reason_status bad.2.fault bad.0 bad.2.says

not_stopped : (fault : AsmFault) (reason : Reason) (program : Program) (given : Result Program AsmFault) → given ≡ Ok program → Stops fault given → fault_reason fault ≡ Some reason → ⊥
not_stopped (asm.BadLine number) reason program given ok stops e = (let f : Ok program ≡ Err (asm.BadLine number) = sym ok ∙ stops in cc)
not_stopped (asm.UnknownName number) reason program given ok stops e = (let f : Ok program ≡ Err (asm.UnknownName number) = sym ok ∙ stops in cc)
not_stopped asm.TooLarge reason program given ok stops e = (let f : Ok program ≡ Err asm.TooLarge = sym ok ∙ stops in cc)
not_stopped asm.Memory reason program given ok stops e = (let f : None ≡ Some reason = e in cc)

source_apart : (text file : List ℕ) (v : Verdict) → IsSource text file → NoSource text v → ⊥
source_apart text file v is (inl large) = (let a = large.0 in let b = is.within in omega arith)
source_apart text file v is (inr bad) = not_stopped bad.2.fault bad.0 is.is_file.program _ is.is_file.assembled bad.2.is_fault bad.2.says

pub one_source : OneReading IsSource NoSource
one_source = record { apart = source_apart; code = 5; above = omega arith; status = source_status }
