-- What stands first in what is left of a thread's path and of its calls.
use Rattle.std.specs.Prelude.{◌≡◌, ℕ, zero, suc, ◌+◌, ◌-◌, ◌<◌, ◌≤◌, Bool, true, false, cond, List, [], ◌∷◌, length, drop, slice_get, Option, Some, None, option_map}
use Rattle.std.specs.List.{find}
use Rattle.std.proofs.Common.{refl, sym, ◌∙◌, ap, arith, get_or, eq-eqb}
use Rattle.std.proofs.lemmas.Bool.{ne_eqb}
use Rattle.std.proofs.lemmas.List.{drop_more, drop_all, length-drop}
use Rattle.std.proofs.lemmas.Option.{slice_get_within, get_or_from_slice_get}
use Rattle.odr_log.specs.declared.log.CallRec.{CallRec}
use Rattle.odr_log.specs.declared.log.PathItem.{PathItem}
use Rattle.odr_log.specs.declared.log.PathItem.TheVariants as item
use Rattle.rv_model.specs.declared.state.Note.TheVariants as note
use Rattle.rv_model.specs.declared.walk.Transfer.TheVariants as transfer
use Rattle.rv_model.specs.Walk.{records_by, makes}
use Rattle.trace_path.specs.Items.{jump_of, branch_of}
use Rattle.trace_path.specs.Starts.{entry_of, entry_in}
use Rattle.trace_path.specs.Steps.{Telling, told}

-- lists from a place on

pub drop_some : {A : Type 0} (xs : List A) (at : ℕ) (x : A) → slice_get xs at ≡ Some x → drop at xs ≡ x ∷ drop (at + 1) xs
drop_some {A} xs at x e =
    drop_more xs at x (slice_get_within xs at x e) ∙ ap (λ (y : A). y ∷ drop (at + 1) xs) (get_or_from_slice_get xs at x x e)

pub drop_none : {A : Type 0} (xs : List A) (at : ℕ) → slice_get xs at ≡ None → drop at xs ≡ []
drop_none [] zero e = refl
drop_none [] (suc at) e = refl
drop_none {A} (x ∷ xs) zero e = absurd (let f : Some x ≡ None = e in cc)
drop_none (x ∷ xs) (suc at) e = drop_none xs at e

pub drop_past : {A : Type 0} (xs : List A) (at : ℕ) → length xs ≤ at → drop at xs ≡ []
drop_past xs at past = drop_all at xs past

pub drop_nil : {A : Type 0} (xs : List A) (at : ℕ) → drop at xs ≡ [] → length xs ≤ at
drop_nil xs at e = let left : length xs - at ≡ 0 = sym (length-drop at xs) ∙ ap length e in omega arith

pub ruleset ends = (drop_past, drop_nil)

-- items

abbrev pub after_jump : List PathItem → ℕ → List CallRec → ℕ → Telling
after_jump path at records target = record { shown = note.Jump target; path = drop (at + 1) path; records = records }

jump_case : (step at : ℕ) (path : List PathItem) (records : List CallRec) (o : Option PathItem) → slice_get path at ≡ o
    → told step transfer.Indirect (drop at path) records ≡ option_map (after_jump path at records) (jump_of o)
jump_case step at path records None e = ap (λ (p : List PathItem). told step transfer.Indirect p records) (drop_none path at e)
jump_case step at path records (Some (item.Jump target)) e = ap (λ (p : List PathItem). told step transfer.Indirect p records) (drop_some path at (item.Jump target) e)
jump_case step at path records (Some (item.Branch taken)) e = ap (λ (p : List PathItem). told step transfer.Indirect p records) (drop_some path at (item.Branch taken) e)

pub jump_told : (step at : ℕ) (path : List PathItem) (records : List CallRec) (o : Option ℕ) → o ≡ jump_of (slice_get path at)
    → option_map (after_jump path at records) o ≡ told step transfer.Indirect (drop at path) records
jump_told step at path records o e = ap (option_map (after_jump path at records)) e ∙ sym (jump_case step at path records (slice_get path at) refl)

abbrev pub after_branch : List PathItem → ℕ → List CallRec → Bool → Telling
after_branch path at records taken = record { shown = note.Branch taken; path = drop (at + 1) path; records = records }

branch_case : (step target at : ℕ) (path : List PathItem) (records : List CallRec) (o : Option PathItem) → slice_get path at ≡ o
    → told step (transfer.Branch target) (drop at path) records ≡ option_map (after_branch path at records) (branch_of o)
branch_case step target at path records None e = ap (λ (p : List PathItem). told step (transfer.Branch target) p records) (drop_none path at e)
branch_case step target at path records (Some (item.Jump to)) e = ap (λ (p : List PathItem). told step (transfer.Branch target) p records) (drop_some path at (item.Jump to) e)
branch_case step target at path records (Some (item.Branch taken)) e = ap (λ (p : List PathItem). told step (transfer.Branch target) p records) (drop_some path at (item.Branch taken) e)

pub branch_told : (step target at : ℕ) (path : List PathItem) (records : List CallRec) (o : Option Bool) → o ≡ branch_of (slice_get path at)
    → option_map (after_branch path at records) o ≡ told step (transfer.Branch target) (drop at path) records
branch_told step target at path records o e = ap (option_map (after_branch path at records)) e ∙ sym (branch_case step target at path records (slice_get path at) refl)

-- records

pub record_here : (records : List CallRec) (thread at : ℕ) (r : CallRec) → at < length records → r ≡ get_or records at r → r.tid ≡ thread
    → records_by thread (drop at records) ≡ r ∷ records_by thread (drop (at + 1) records)
record_here records thread at r within read same =
    ap (records_by thread) (drop_more records at r within ∙ ap (λ (x : CallRec). x ∷ drop (at + 1) records) (sym read))
    ∙ ap (λ (b : Bool). cond b (r ∷ records_by thread (drop (at + 1) records)) (records_by thread (drop (at + 1) records))) (eq-eqb r.tid thread same)

pub record_passed : (records : List CallRec) (thread at : ℕ) (r : CallRec) → at < length records → r ≡ get_or records at r → (r.tid ≡ thread → ⊥)
    → records_by thread (drop at records) ≡ records_by thread (drop (at + 1) records)
record_passed records thread at r within read other =
    ap (records_by thread) (drop_more records at r within ∙ ap (λ (x : CallRec). x ∷ drop (at + 1) records) (sym read))
    ∙ ap (λ (b : Bool). cond b (r ∷ records_by thread (drop (at + 1) records)) (records_by thread (drop (at + 1) records))) (ne_eqb r.tid thread other)

pub records_end : (records : List CallRec) (thread at : ℕ) → length records ≤ at → records_by thread (drop at records) ≡ []
records_end records thread at past = ap (records_by thread) (drop_all at records past)

-- spawns

abbrev made_by : ℕ → CallRec → Bool
made_by thread r = makes thread r.call

pub spawn_here : (calls : List CallRec) (thread at : ℕ) (r : CallRec) → at < length calls → r ≡ get_or calls at r → makes thread r.call ≡ true
    → entry_in (find (λ (s : CallRec). makes thread s.call) (drop at calls)) ≡ entry_of r.call
spawn_here calls thread at r within read made =
    ap (λ (xs : List CallRec). entry_in (find (made_by thread) xs)) (drop_more calls at r within ∙ ap (λ (x : CallRec). x ∷ drop (at + 1) calls) (sym read))
    ∙ ap (λ (b : Bool). entry_in (cond b (Some r) (find (made_by thread) (drop (at + 1) calls)))) made

pub spawn_passed : (calls : List CallRec) (thread at : ℕ) (r : CallRec) → at < length calls → r ≡ get_or calls at r → makes thread r.call ≡ false
    → find (λ (s : CallRec). makes thread s.call) (drop at calls) ≡ find (λ (s : CallRec). makes thread s.call) (drop (at + 1) calls)
spawn_passed calls thread at r within read made =
    ap (find (made_by thread)) (drop_more calls at r within ∙ ap (λ (x : CallRec). x ∷ drop (at + 1) calls) (sym read))
    ∙ ap (λ (b : Bool). cond b (Some r) (find (made_by thread) (drop (at + 1) calls))) made

-- A record at another step fits no call there.
pub called_elsewhere : (step : ℕ) (path : List PathItem) (r : CallRec) (records whole : List CallRec) → whole ≡ r ∷ records → (r.at ≡ step → ⊥)
    → None ≡ told step transfer.Call path whole
called_elsewhere step path r records whole e other =
    sym (ap (told step transfer.Call path) e ∙ ap (λ (b : Bool). cond b (Some (record { shown = note.Called r.call; path = path; records = records })) None) (ne_eqb r.at step other))

pub called_here : (step : ℕ) (path : List PathItem) (r : CallRec) (records whole : List CallRec) → whole ≡ r ∷ records → r.at ≡ step
    → Some (record { shown = note.Called r.call; path = path; records = records }) ≡ told step transfer.Call path whole
called_here step path r records whole e same =
    sym (ap (told step transfer.Call path) e ∙ ap (λ (b : Bool). cond b (Some (record { shown = note.Called r.call; path = path; records = records })) None) (eq-eqb r.at step same))

pub called_nowhere : (step : ℕ) (path : List PathItem) (whole : List CallRec) → whole ≡ [] → None ≡ told step transfer.Call path whole
called_nowhere step path whole e = sym (ap (told step transfer.Call path) e)
