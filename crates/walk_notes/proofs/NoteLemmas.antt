-- What a log has of a step is the note of the step in the log's walk.
use Rattle.std.specs.Prelude.{◌≡◌, ℕ, zero, suc, ◌+◌, ◌-◌, ◌<◌, ◌≤◌, Bool, true, false, ◌&&◌, not, cond, List, [], ◌∷◌, length, take, drop, nat_eq, nat_lt, nat_le, slice_get, Option, Some, None, is_some, refl}
use Rattle.std.specs.List.{find, position, position_or_len}
use Rattle.std.proofs.Common.{sym, ◌∙◌, ap, subst, arith, get_or, eq-eqb}
use Rattle.std.proofs.lemmas.Bool.{and_parts, and_from, eqb-true, le-leb, ltb-false, false_from_ne_true, true≢false}
use Rattle.std.proofs.lemmas.List.{take_rest, drop_all}
use Rattle.std.proofs.lemmas.Option.{none-some, same_Some}
use Rattle.elf_image.specs.Layout.{Layout}
use Rattle.odr_log.specs.declared.log.Call.{Call}
use Rattle.odr_log.specs.declared.log.CallRec.{CallRec}
use Rattle.odr_log.specs.declared.log.Log.{Log}
use Rattle.odr_log.specs.declared.log.PathItem.{PathItem}
use Rattle.odr_log.specs.declared.log.PathItem.TheVariants as item
use Rattle.odr_log.specs.declared.log.Pos.{Pos}
use Rattle.rv_model.specs.declared.state.Note.{Note}
use Rattle.rv_model.specs.declared.state.Note.TheVariants as note
use Rattle.rv_model.specs.declared.walk.Place.{Place}
use Rattle.rv_model.specs.declared.walk.Transfer.{Transfer}
use Rattle.rv_model.specs.declared.walk.Transfer.TheVariants as transfer
use Rattle.rv_model.specs.Run.{logged, item_of, cons_some, path_of}
use Rattle.rv_model.specs.Walk.{Walk, IsWalk, notes_of, transfer_of, goes_to, Leads, events_from}
use Rattle.trace_path.proofs.WalkLemmas.{path_own}
use Rattle.guided_walk.specs.Told.{told, noted, place_of}
use Rattle.guided_walk.proofs.Records.{Among, found_among, among_found, rec}
use Rattle.guided_walk.proofs.Facts.{noted_step, place_called, called_noted}
use Rattle.guided_walk.proofs.Table.{same_pos}
use Rattle.walk_notes.specs.Telling.{branch_note, jump_note, call_note, is_record, note_by, AreAhead}

-- ---- a step goes on where its note leads

pub leads_at : (image : Layout) (pc : ℕ) (places : List Place) (notes : List Note) (after : ℕ) → Leads image pc places notes after → (i : ℕ) (place : Place)
    → slice_get places i ≡ Some place → i < length notes → (next : ℕ) × (goes_to place.pc (transfer_of place.pc place.instr) (get_or notes i note.Nothing) ≡ Some next)
leads_at image pc [] [] after leads i place e less = absurd (none-some place e)
leads_at image pc (p ∷ places) (shown ∷ notes) after leads zero place e less =
    let same : p ≡ place = same_Some p place e in
    let here : goes_to p.pc (transfer_of p.pc p.instr) shown ≡ Some leads.2.0 =
    ap (λ (a : ℕ). goes_to a (transfer_of a p.instr) shown) leads.0 ∙ leads.2.1 in
    (leads.2.0, subst (λ (x : Place). goes_to x.pc (transfer_of x.pc x.instr) shown ≡ Some leads.2.0) same here)
leads_at image pc (p ∷ places) (shown ∷ notes) after leads (suc i) place e less = leads_at image leads.2.0 places notes after leads.2.2 i place e (omega (arith, less))
leads_at image pc [] (shown ∷ notes) after leads i place e less = absurd leads
leads_at image pc (p ∷ places) [] after leads i place e less = absurd leads

-- ---- items of a path

-- the path of a thread's notes
abbrev pub items : ℕ → ℕ → List Note → List PathItem
items thread from notes = path_of thread (events_from thread from notes)

get_later : (o : Option PathItem) (xs ys : List PathItem) → slice_get (cons_some o xs) (length (cons_some o ys)) ≡ slice_get xs (length ys)
get_later None xs ys = refl
get_later (Some x) xs ys = refl

pub item_at : (thread from : ℕ) (notes : List Note) (i : ℕ) (it : PathItem) → i < length notes → item_of (get_or notes i note.Nothing) ≡ Some it
    → slice_get (items thread from notes) (length (items thread from (take i notes))) ≡ Some it
item_at thread from [] i it less e = absurd (omega (arith, less))
item_at thread from (n ∷ notes) zero it less e =
    ap (λ (xs : List PathItem). slice_get xs 0) (path_own thread from n notes ∙ ap (λ (o : Option PathItem). cons_some o (items thread (from + 1) notes)) e)
item_at thread from (n ∷ notes) (suc i) it less e =
    ap (λ (xs : List PathItem). slice_get xs (length (items thread from (n ∷ take i notes)))) (path_own thread from n notes)
    ∙ ap (λ (ys : List PathItem). slice_get (cons_some (item_of n) (items thread (from + 1) notes)) (length ys)) (path_own thread from n (take i notes))
    ∙ get_later (item_of n) (items thread (from + 1) notes) (items thread (from + 1) (take i notes))
    ∙ item_at thread (from + 1) notes i it (omega (arith, less)) e

length_some : (o : Option PathItem) (xs : List PathItem) → length (cons_some o xs) ≡ length xs + cond (is_some o) 1 0
length_some None xs = omega arith
length_some (Some x) xs = let e : suc (length xs) ≡ length xs + 1 = omega arith in e

add_on : (a b c k : ℕ) → a ≡ b + k → a + c ≡ b + c + k
add_on a b c k e = omega (arith, e)

pub items_more : (thread from : ℕ) (notes : List Note) (i : ℕ) → i < length notes
    → length (items thread from (take (suc i) notes)) ≡ length (items thread from (take i notes)) + cond (is_some (item_of (get_or notes i note.Nothing))) 1 0
items_more thread from [] i less = absurd (omega (arith, less))
items_more thread from (n ∷ notes) zero less =
    ap (length {A = PathItem}) (path_own thread from n []) ∙ length_some (item_of n) []
items_more thread from (n ∷ notes) (suc i) less =
    let k : ℕ = cond (is_some (item_of (get_or notes i note.Nothing))) 1 0 in
    let later : length (items thread (from + 1) (take (suc i) notes)) ≡ length (items thread (from + 1) (take i notes)) + k = items_more thread (from + 1) notes i (omega (arith, less)) in
    ap (length {A = PathItem}) (path_own thread from n (take (suc i) notes))
    ∙ length_some (item_of n) (items thread (from + 1) (take (suc i) notes))
    ∙ add_on (length (items thread (from + 1) (take (suc i) notes))) (length (items thread (from + 1) (take i notes))) (cond (is_some (item_of n)) 1 0) k later
    ∙ ap (λ (m : ℕ). m + k)
    (sym (ap (length {A = PathItem}) (path_own thread from n (take i notes)) ∙ length_some (item_of n) (items thread (from + 1) (take i notes))))

-- ---- the record of a call

-- the first that passes a test stands behind all that fail a wider one
one_behind : (test wider : CallRec → Bool) (r : CallRec) (calls : List CallRec) → (test r ≡ true → wider r ≡ true) → find test (drop (position_or_len wider calls) calls) ≡ find test calls
    → (b : Bool) → wider r ≡ b → find test (drop (cond (not b) (1 + position_or_len wider calls) 0) (r ∷ calls)) ≡ find test (r ∷ calls)
one_behind test wider r calls passes behind true e = refl
one_behind test wider r calls passes behind false e =
    let fails : test r ≡ false = false_from_ne_true _ (λ (passed : test r ≡ true). true≢false (sym (passes passed) ∙ e)) in
    ap (λ (k : ℕ). find test (drop k (r ∷ calls))) (let one : 1 + position_or_len wider calls ≡ suc (position_or_len wider calls) = omega arith in one)
    ∙ behind
    ∙ sym (ap (λ (b : Bool). cond b (Some r) (find test calls)) fails)

found_behind : (test wider : CallRec → Bool) → ((r : CallRec) → test r ≡ true → wider r ≡ true) → (calls : List CallRec)
    → find test (drop (position_or_len wider calls) calls) ≡ find test calls
found_behind test wider passes [] = refl
found_behind test wider passes (r ∷ calls) = one_behind test wider r calls (passes r) (found_behind test wider passes calls) (wider r) refl

abbrev is_from : ℕ → ℕ → CallRec → Bool
is_from thread step r = nat_eq r.tid thread && nat_le step r.at

is_later : (thread step later : ℕ) (r : CallRec) → step ≤ later → is_record thread later r ≡ true → is_from thread step r ≡ true
is_later thread step later r le e =
    let parts : (nat_eq r.tid thread ≡ true) × (nat_eq r.at later ≡ true) = and_parts _ _ e in
    and_from _ _ parts.0 (le-leb step r.at (omega (arith, le, eqb-true r.at later parts.1)))

ahead : (calls : List CallRec) (thread step : ℕ) → AreAhead calls thread step (drop (position_or_len (is_from thread step) calls) calls)
ahead calls thread step later le = found_behind (is_record thread later) (is_from thread step) (λ (r : CallRec). is_later thread step later r le) calls

-- from the first record of this step or of a later one of its thread on
pub ahead_at : (calls : List CallRec) (thread step place : ℕ) → position (is_from thread step) calls ≡ Some place → AreAhead calls thread step (take (length calls - place) (drop place calls))
ahead_at calls thread step place e = by_test (nat_lt (position_or_len (is_from thread step) calls) (length calls)) e where
  by_test : (b : Bool) → cond b (Some (position_or_len (is_from thread step) calls)) None ≡ Some place → AreAhead calls thread step (take (length calls - place) (drop place calls))
  by_test true s =
      let here : position_or_len (is_from thread step) calls ≡ place = same_Some _ place s in
      subst (AreAhead calls thread step) (ap (λ (k : ℕ). drop k calls) here ∙ sym (take_rest calls place)) (ahead calls thread step)
  by_test false s = absurd (none-some place s)

pub ahead_none : (calls : List CallRec) (thread step : ℕ) → position (is_from thread step) calls ≡ None → AreAhead calls thread step []
ahead_none calls thread step e = by_test (nat_lt (position_or_len (is_from thread step) calls) (length calls)) refl e where
  by_test : (b : Bool) → nat_lt (position_or_len (is_from thread step) calls) (length calls) ≡ b → cond b (Some (position_or_len (is_from thread step) calls)) None ≡ None → AreAhead calls thread step []
  by_test true t s = absurd (none-some (position_or_len (is_from thread step) calls) (sym s))
  by_test false t s = subst (AreAhead calls thread step) (drop_all (position_or_len (is_from thread step) calls) calls (ltb-false _ _ t)) (ahead calls thread step)

pub called_is : (image : Layout) (log : Log) (walk : Walk) → IsWalk image log walk → (p : Pos) (made : Call) → p.step < length (notes_of walk p.thread)
    → get_or (notes_of walk p.thread) p.step note.Nothing ≡ note.Called made → call_note (find (is_record p.thread p.step) log.calls) ≡ note.Called made
called_is image log walk is p made less e =
    let shows : noted (told log walk) p ≡ note.Called made = noted_step log walk p less ∙ e in
    let there : Among (rec p.thread p.step made) log.calls = place_called image log walk is p made shows in
    let found : (y : CallRec) × (find (is_record p.thread p.step) log.calls ≡ Some y) =
    among_found (is_record p.thread p.step) log.calls (rec p.thread p.step made) there (and_from _ _ (eq-eqb p.thread p.thread refl) (eq-eqb p.step p.step refl)) in
    let back : Among found.0 log.calls × (is_record p.thread p.step found.0 ≡ true) = found_among (is_record p.thread p.step) log.calls found.0 found.1 in
    let place : place_of found.0 ≡ p =
    same_pos (place_of found.0) p (sym (eqb-true found.0.tid p.thread (and_parts _ _ back.1).0)) (sym (eqb-true found.0.at p.step (and_parts _ _ back.1).1)) in
    ap call_note found.1 ∙ sym (called_noted image log walk is found.0 back.0) ∙ ap (noted (told log walk)) place ∙ shows

-- ---- what the log has is the note

pub note_fits : (log : Log) (thread step count : ℕ) (pc : ℕ) (how : Transfer) (n : Note) (next : ℕ) → goes_to pc how n ≡ Some next
    → ((taken : Bool) → n ≡ note.Branch taken → slice_get (logged log thread).path count ≡ Some (item.Branch taken))
    → ((target : ℕ) → n ≡ note.Jump target → slice_get (logged log thread).path count ≡ Some (item.Jump target))
    → ((made : Call) → n ≡ note.Called made → call_note (find (is_record thread step) log.calls) ≡ note.Called made)
    → note_by (slice_get (logged log thread).path count) (find (is_record thread step) log.calls) how ≡ n
note_fits log thread step count pc (transfer.Branch target) (note.Branch taken) next e branch jump called = ap branch_note (branch taken refl)
note_fits log thread step count pc (transfer.Branch target) note.Nothing next e branch jump called = absurd (none-some next e)
note_fits log thread step count pc (transfer.Branch target) (note.Jump to) next e branch jump called = absurd (none-some next e)
note_fits log thread step count pc (transfer.Branch target) (note.Called made) next e branch jump called = absurd (none-some next e)
note_fits log thread step count pc (transfer.Branch target) (note.Faulted fault) next e branch jump called = absurd (none-some next e)
note_fits log thread step count pc transfer.Indirect (note.Jump to) next e branch jump called = ap jump_note (jump to refl)
note_fits log thread step count pc transfer.Indirect note.Nothing next e branch jump called = absurd (none-some next e)
note_fits log thread step count pc transfer.Indirect (note.Branch taken) next e branch jump called = absurd (none-some next e)
note_fits log thread step count pc transfer.Indirect (note.Called made) next e branch jump called = absurd (none-some next e)
note_fits log thread step count pc transfer.Indirect (note.Faulted fault) next e branch jump called = absurd (none-some next e)
note_fits log thread step count pc transfer.Call (note.Called made) next e branch jump called = called made refl
note_fits log thread step count pc transfer.Call note.Nothing next e branch jump called = absurd (none-some next e)
note_fits log thread step count pc transfer.Call (note.Branch taken) next e branch jump called = absurd (none-some next e)
note_fits log thread step count pc transfer.Call (note.Jump to) next e branch jump called = absurd (none-some next e)
note_fits log thread step count pc transfer.Call (note.Faulted fault) next e branch jump called = absurd (none-some next e)
note_fits log thread step count pc transfer.Next note.Nothing next e branch jump called = refl
note_fits log thread step count pc transfer.Next (note.Branch taken) next e branch jump called = absurd (none-some next e)
note_fits log thread step count pc transfer.Next (note.Jump to) next e branch jump called = absurd (none-some next e)
note_fits log thread step count pc transfer.Next (note.Called made) next e branch jump called = absurd (none-some next e)
note_fits log thread step count pc transfer.Next (note.Faulted fault) next e branch jump called = absurd (none-some next e)
note_fits log thread step count pc (transfer.Direct target) note.Nothing next e branch jump called = refl
note_fits log thread step count pc (transfer.Direct target) (note.Branch taken) next e branch jump called = absurd (none-some next e)
note_fits log thread step count pc (transfer.Direct target) (note.Jump to) next e branch jump called = absurd (none-some next e)
note_fits log thread step count pc (transfer.Direct target) (note.Called made) next e branch jump called = absurd (none-some next e)
note_fits log thread step count pc (transfer.Direct target) (note.Faulted fault) next e branch jump called = absurd (none-some next e)
note_fits log thread step count pc transfer.Breakpoint n next e branch jump called = absurd (none-some next e)
