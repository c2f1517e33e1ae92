-- What one step along a log is.
use Rattle.std.specs.Prelude.{◌≡◌, ℕ, ◌+◌, Bool, true, false, cond, List, [], ◌∷◌, nat_eq, Option, Some, None, Result, Ok, Err}
use Rattle.std.proofs.Common.{refl, sym, ◌∙◌, ap, subst, eq-eqb}
use Rattle.std.proofs.lemmas.Bool.{eqb-true}
use Rattle.elf_image.specs.Layout.{Layout}
use Rattle.rv32_decode.specs.declared.instr.Instr.{Instr}
use Rattle.odr_log.specs.declared.log.Cause.{Cause}
use Rattle.odr_log.specs.declared.log.CallRec.{CallRec}
use Rattle.odr_log.specs.declared.log.PathItem.{PathItem}
use Rattle.odr_log.specs.declared.log.PathItem.TheVariants as item
use Rattle.rv_model.specs.declared.state.Event.{Event}
use Rattle.rv_model.specs.declared.state.Note.{Note}
use Rattle.rv_model.specs.declared.state.Note.TheVariants as note
use Rattle.rv_model.specs.declared.walk.Place.{Place}
use Rattle.rv_model.specs.declared.walk.Transfer.{Transfer}
use Rattle.rv_model.specs.declared.walk.Transfer.TheVariants as transfer
use Rattle.rv_model.specs.Step.{instr_at}
use Rattle.rv_model.specs.Run.{item_of, cons_some, record_in}
use Rattle.rv_model.specs.Walk.{transfer_of, goes_to, is_last}
use Rattle.trace_path.specs.Steps.{Stand, Telling, Next, told, gone, goes_as_told, goes_by, next}

pub some_same : {A : Type 0} (x y : A) → Some x ≡ Some y → x ≡ y
some_same x y e = cc

-- the event of a step
abbrev pub event_at : ℕ → ℕ → Note → Event
event_at thread step shown = record { thread = thread; at = step; note = shown }

-- what is told is the step's item and record, before what is left
abbrev pub Fits : ℕ → ℕ → List PathItem → List CallRec → Telling → Type 0
Fits thread step path records tells =
    (path ≡ cons_some (item_of tells.shown) tells.path) × (records ≡ cons_some (record_in (event_at thread step tells.shown)) tells.records)

fits_by : (thread step : ℕ) (path : List PathItem) (records : List CallRec) (x y : Telling) → Some x ≡ Some y → Fits thread step path records x → Fits thread step path records y
fits_by thread step path records x y e fits = subst (Fits thread step path records) (some_same x y e) fits

whole_record : (thread step : ℕ) (r : CallRec) → r.tid ≡ thread → r.at ≡ step → r ≡ record { tid = thread; at = step; call = r.call }
whole_record thread step r same there =
    ap (λ (t : ℕ). let x : CallRec = record { tid = t; at = r.at; call = r.call } in x) same ∙ ap (λ (a : ℕ). let x : CallRec = record { tid = thread; at = a; call = r.call } in x) there

called_fits : (b : Bool) (thread step : ℕ) (path : List PathItem) (r : CallRec) (records : List CallRec) (t : Telling) → r.tid ≡ thread → nat_eq r.at step ≡ b
    → cond b (Some (record { shown = note.Called r.call; path = path; records = records })) None ≡ Some t → Fits thread step path (r ∷ records) t
called_fits true thread step path r records t same there e =
    fits_by thread step path (r ∷ records) (record { shown = note.Called r.call; path = path; records = records }) t e
    (refl, ap (λ (x : CallRec). x ∷ records) (whole_record thread step r same (eqb-true r.at step there)))
called_fits false thread step path r records t same there e = absurd (let f : None ≡ Some t = e in cc)

-- of the first record's thread, where there is a record
abbrev pub FirstOf : ℕ → List CallRec → Type 0
FirstOf thread [] = Unit {0}
FirstOf thread (r ∷ records) = r.tid ≡ thread

pub told_fits : (thread step : ℕ) (how : Transfer) (path : List PathItem) (records : List CallRec) (t : Telling) → FirstOf thread records
    → told step how path records ≡ Some t → Fits thread step path records t
told_fits thread step transfer.Next path records t mine e = fits_by thread step path records (record { shown = note.Nothing; path = path; records = records }) t e (refl, refl)
told_fits thread step (transfer.Direct target) path records t mine e = fits_by thread step path records (record { shown = note.Nothing; path = path; records = records }) t e (refl, refl)
told_fits thread step transfer.Indirect (item.Jump target ∷ path) records t mine e =
    fits_by thread step (item.Jump target ∷ path) records (record { shown = note.Jump target; path = path; records = records }) t e (refl, refl)
told_fits thread step transfer.Indirect (item.Branch taken ∷ path) records t mine e = absurd (let f : None ≡ Some t = e in cc)
told_fits thread step transfer.Indirect [] records t mine e = absurd (let f : None ≡ Some t = e in cc)
told_fits thread step (transfer.Branch target) (item.Branch taken ∷ path) records t mine e =
    fits_by thread step (item.Branch taken ∷ path) records (record { shown = note.Branch taken; path = path; records = records }) t e (refl, refl)
told_fits thread step (transfer.Branch target) (item.Jump to ∷ path) records t mine e = absurd (let f : None ≡ Some t = e in cc)
told_fits thread step (transfer.Branch target) [] records t mine e = absurd (let f : None ≡ Some t = e in cc)
told_fits thread step transfer.Call path (r ∷ records) t mine e = called_fits (nat_eq r.at step) thread step path r records t mine refl e
told_fits thread step transfer.Call path [] t mine e = absurd (let f : None ≡ Some t = e in cc)
told_fits thread step transfer.Breakpoint path records t mine e = absurd (let f : None ≡ Some t = e in cc)

-- A step that can be is told by its own item and record.
abbrev IsTold : ℕ → ℕ → Transfer → Note → List PathItem → List CallRec → Type 0
IsTold thread step how shown path records =
    told step how (cons_some (item_of shown) path) (cons_some (record_in (event_at thread step shown)) records)
    ≡ Some (record { shown = shown; path = path; records = records })

pub fits_told : (thread step pc to : ℕ) (how : Transfer) (shown : Note) (path : List PathItem) (records : List CallRec) → goes_to pc how shown ≡ Some to
    → IsTold thread step how shown path records
fits_told thread step pc to transfer.Next note.Nothing path records e = refl
fits_told thread step pc to (transfer.Direct target) note.Nothing path records e = refl
fits_told thread step pc to transfer.Indirect (note.Jump target) path records e = refl
fits_told thread step pc to (transfer.Branch target) (note.Branch true) path records e = refl
fits_told thread step pc to (transfer.Branch target) (note.Branch false) path records e = refl
fits_told thread step pc to transfer.Call (note.Called made) path records e =
    ap (λ (b : Bool). cond b (Some (let t : Telling = record { shown = note.Called made; path = path; records = records } in t)) None) (eq-eqb step step refl)
fits_told thread step pc to how shown path records e = absurd (let f : None ≡ Some to = e in cc)

-- a step, in the words of walks
pub record Parts (image : Layout) (thread : ℕ) (from : Stand) (place : Place) (shown : Note) (to : Stand) : Type 0 where
  pub going : from.over ≡ false
  pub pc : place.pc ≡ from.pc
  pub instr : instr_at image from.pc ≡ Ok place.instr
  pub goes : goes_to from.pc (transfer_of from.pc place.instr) shown ≡ Some to.pc
  pub step : to.step ≡ from.step + 1
  pub over : to.over ≡ is_last shown
  pub path : from.path ≡ cons_some (item_of shown) to.path
  pub records : from.records ≡ cons_some (record_in (event_at thread from.step shown)) to.records

over_case : (b : Bool) (o : Option Next) (n : Next) → cond b None o ≡ Some n → (b ≡ false) × (o ≡ Some n)
over_case true o n e = absurd (let f : None ≡ Some n = e in cc)
over_case false o n e = (refl, e)

fetched_case : (from : Stand) (f : Result Instr Cause) (n : Next) → goes_by from f ≡ Some n
    → (i : Instr) × (f ≡ Ok i) × (goes_as_told from i (told from.step (transfer_of from.pc i) from.path from.records) ≡ Some n)
fetched_case from (Ok i) n e = (i, refl, e)
fetched_case from (Err fault) n e = absurd (let f : None ≡ Some n = e in cc)

told_case : (from : Stand) (i : Instr) (o : Option Telling) (n : Next) → goes_as_told from i o ≡ Some n
    → (t : Telling) × (o ≡ Some t) × (gone from i t (goes_to from.pc (transfer_of from.pc i) t.shown) ≡ Some n)
told_case from i (Some t) n e = (t, refl, e)
told_case from i None n e = absurd (let f : None ≡ Some n = e in cc)

abbrev stepped : Stand → Instr → Telling → ℕ → Next
stepped from i t pc = record {
  place = record { pc = from.pc; instr = i };
  shown = t.shown;
  stand = record { pc = pc; step = from.step + 1; over = is_last t.shown; path = t.path; records = t.records };
}

gone_case : (from : Stand) (i : Instr) (t : Telling) (o : Option ℕ) (n : Next) → gone from i t o ≡ Some n → (pc : ℕ) × (o ≡ Some pc) × (stepped from i t pc ≡ n)
gone_case from i t (Some pc) n e = (pc, refl, some_same (stepped from i t pc) n e)
gone_case from i t None n e = absurd (let f : None ≡ Some n = e in cc)

parts_of : (image : Layout) (thread : ℕ) (from : Stand) (i : Instr) (t : Telling) (pc : ℕ) → from.over ≡ false → instr_at image from.pc ≡ Ok i
    → goes_to from.pc (transfer_of from.pc i) t.shown ≡ Some pc → Fits thread from.step from.path from.records t
    → Parts image thread from (stepped from i t pc).place (stepped from i t pc).shown (stepped from i t pc).stand
parts_of image thread from i t pc going fetched goes fits = record {
  going = going;
  pc = refl;
  instr = fetched;
  goes = goes;
  step = refl;
  over = refl;
  path = fits.0;
  records = fits.1;
}

pub next_parts : (image : Layout) (thread : ℕ) (from : Stand) (n : Next) → FirstOf thread from.records → next image from ≡ Some n
    → Parts image thread from n.place n.shown n.stand
unfolding next
next_parts image thread from n mine e =
    let over = over_case from.over (goes_by from (instr_at image from.pc)) n e in
    let fetched = fetched_case from (instr_at image from.pc) n over.1 in
    let i : Instr = fetched.0 in
    let tells = told_case from i (told from.step (transfer_of from.pc i) from.path from.records) n fetched.2 in
    let t : Telling = tells.0 in
    let went = gone_case from i t (goes_to from.pc (transfer_of from.pc i) t.shown) n tells.2 in
    subst (λ (m : Next). Parts image thread from m.place m.shown m.stand) went.2
    (parts_of image thread from i t went.0 over.0 fetched.1 went.1 (told_fits thread from.step (transfer_of from.pc i) from.path from.records t mine tells.1))

pub parts_next : (image : Layout) (thread : ℕ) (from : Stand) (place : Place) (shown : Note) (to : Stand) → Parts image thread from place shown to
    → next image from ≡ Some (record { place = place; shown = shown; stand = to })
unfolding next
parts_next image thread from place shown to p =
    let how : Transfer = transfer_of from.pc place.instr in
    let left : Telling = record { shown = shown; path = to.path; records = to.records } in
    let tells : told from.step how from.path from.records ≡ Some left =
    ap (λ (path : List PathItem). told from.step how path from.records) p.path
    ∙ ap (told from.step how (cons_some (item_of shown) to.path)) p.records
    ∙ fits_told thread from.step from.pc to.pc how shown to.path to.records p.goes in
    ap (λ (b : Bool). cond b None (goes_by from (instr_at image from.pc))) p.going
    ∙ ap (goes_by from) p.instr
    ∙ ap (goes_as_told from place.instr) tells
    ∙ ap (gone from place.instr left) p.goes
    ∙ ap (λ (pc : ℕ). Some (let n : Next = record { place = record { pc = pc; instr = place.instr }; shown = shown; stand = record { pc = to.pc; step = from.step + 1; over = is_last shown; path = to.path; records = to.records } } in n)) (sym p.pc)
    ∙ ap (λ (s : ℕ). Some (let n : Next = record { place = place; shown = shown; stand = record { pc = to.pc; step = s; over = is_last shown; path = to.path; records = to.records } } in n)) (sym p.step)
    ∙ ap (λ (b : Bool). Some (let n : Next = record { place = place; shown = shown; stand = record { pc = to.pc; step = to.step; over = b; path = to.path; records = to.records } } in n)) (sym p.over)
