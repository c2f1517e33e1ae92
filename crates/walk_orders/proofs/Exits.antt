-- An exit is the last call of a log and the last step of its thread, and a log with one ends in no fault.
use Rattle.std.specs.Prelude.{◌≡◌, ℕ, zero, suc, ◌<◌, ◌≤◌, Bool, true, false, List, [], ◌∷◌, length, nat_eq, nat_le, slice_get, Option, Some, is_some, Contains, refl}
use Rattle.std.specs.List.{list_all}
use Rattle.std.proofs.Common.{sym, ◌∙◌, ap, subst, arith, inl, inr, get_or, eqb-true}
use Rattle.std.proofs.lemmas.Bool.{cases_lt, and_parts, leb-true, false≢true}
use Rattle.std.proofs.lemmas.Option.{none-some, same_Some, slice_get_within, get_or_from_slice_get, slice_get_read}
use Rattle.elf_image.specs.Layout.{Layout}
use Rattle.odr_log.specs.declared.log.Cause.{Cause}
use Rattle.odr_log.specs.declared.log.Call.{Call}
use Rattle.odr_log.specs.declared.log.Call.TheVariants as call
use Rattle.odr_log.specs.declared.log.CallRec.{CallRec}
use Rattle.odr_log.specs.declared.log.End.{End}
use Rattle.odr_log.specs.declared.log.End.TheVariants as end
use Rattle.odr_log.specs.declared.log.Log.{Log}
use Rattle.odr_log.specs.declared.log.Pos.{Pos}
use Rattle.rv_model.specs.declared.state.Halt.{Halt}
use Rattle.rv_model.specs.declared.state.Halt.TheVariants as halt
use Rattle.rv_model.specs.declared.state.Note.TheVariants as note
use Rattle.rv_model.specs.Step.{halt_then}
use Rattle.rv_model.specs.Run.{option_test}
use Rattle.rv_model.specs.Walk.{Walk, notes_of, is_last, IsWalk}
use Rattle.rv_model.specs.CallsFit.{is_exit, final_calls, final_halt, EndFits, CallsFit}
use Rattle.rv_model.specs.RecordedOrder.{Counted}
use Rattle.rv_model.proofs.Difference.{some_passes, test_some}
use Rattle.guided_walk.specs.Told.{told, place_of, noted}
use Rattle.guided_walk.specs.Ordered.{IsExit, ExitLast}
use Rattle.guided_walk.specs.Orders.{In, Keeps, Distinct}
use Rattle.guided_walk.proofs.Table.{same_pos}
use Rattle.guided_walk.proofs.Walks.{called, called_is}
use Rattle.guided_walk.proofs.Records.{Among, among_at, at_among, rec}
use Rattle.guided_walk.proofs.Facts.{in_log, place_called, CalledAt, called_place, called_noted, last_once}
use Rattle.guided_walk.proofs.NeedsOrder.{among_contains}
use Rattle.guided_walk.proofs.ScheduleLaw.{notes_are}
use Rattle.walk_orders.specs.RecordedTest.{up_to}

pub contains_among : (xs : List CallRec) (r : CallRec) → Contains xs r → Among r xs
contains_among xs r has = among_at xs has.0 r (slice_get_read xs (length xs) has.0 r refl has.1 (sym has.2))

exit_call : (c : Call) → is_exit c ≡ true → (code : ℕ) × (c ≡ call.Exit code)
exit_call (call.Exit code) e = (code, refl)
exit_call call.EndThread e = absurd (false≢true e)
exit_call (call.Spawn entry child) e = absurd (false≢true e)
exit_call (call.Join target ok) e = absurd (false≢true e)
exit_call (call.Lock mutex ok) e = absurd (false≢true e)
exit_call (call.Unlock mutex ok) e = absurd (false≢true e)
exit_call (call.TryLock mutex got) e = absurd (false≢true e)
exit_call (call.Write bytes) e = absurd (false≢true e)
exit_call call.WriteBad e = absurd (false≢true e)
exit_call (call.Read want bytes) e = absurd (false≢true e)
exit_call call.ReadBad e = absurd (false≢true e)
exit_call call.SelfId e = absurd (false≢true e)
exit_call call.Yield e = absurd (false≢true e)
exit_call (call.Unknown number) e = absurd (false≢true e)

-- ---- records of exits

-- a record that stands before another one is no exit
pub earlier_goes : (log : Log) → CallsFit log → (m n : ℕ) (r s : CallRec) → slice_get log.calls m ≡ Some r → slice_get log.calls n ≡ Some s → m < n → is_exit r.call ≡ false
earlier_goes log fit m n r s p q less =
    ap (λ (x : CallRec). is_exit x.call) (sym (get_or_from_slice_get log.calls m r r p)) ∙ fit.exit_last m n r less (slice_get_within log.calls n s q)

pub one_exit : (log : Log) → CallsFit log → (r s : CallRec) → Among r log.calls → Among s log.calls → is_exit r.call ≡ true → is_exit s.call ≡ true → r ≡ s
one_exit log fit r s has there e f =
    let i : (i : ℕ) × (slice_get log.calls i ≡ Some r) = at_among log.calls r has in
    let j : (i : ℕ) × (slice_get log.calls i ≡ Some s) = at_among log.calls s there in
    elim (cases_lt i.0 j.0) [
      | inl less ↦ absurd (false≢true (sym (earlier_goes log fit i.0 j.0 r s i.1 j.1 less) ∙ e))
      | inr le ↦ elim (cases_lt j.0 i.0) [
        | inl more ↦ absurd (false≢true (sym (earlier_goes log fit j.0 i.0 s r j.1 i.1 more) ∙ f))
        | inr ge ↦ (let same : i.0 ≡ j.0 = omega (arith, le, ge) in same_Some r s (sym i.1 ∙ ap (slice_get log.calls) same ∙ j.1))
      ]
    ]

-- ---- steps that exit

abbrev pub exits : Log → Walk → Pos → Bool
exits log walk p = option_test is_exit (called (noted (told log walk) p))

-- the record of a step that exits
pub record ExitsBy (log : Log) (p : Pos) : Type 0 where
  pub made : CallRec
  pub among : Among made log.calls
  pub is : is_exit made.call ≡ true
  pub place : place_of made ≡ p

pub exits_by : (image : Layout) (log : Log) (walk : Walk) → IsWalk image log walk → (p : Pos) → exits log walk p ≡ true → ExitsBy log p
exits_by image log walk is p e =
    let c : (c : Call) × (called (noted (told log walk) p) ≡ Some c) × (is_exit c ≡ true) = some_passes is_exit (called (noted (told log walk) p)) e in
    record {
      made = rec p.thread p.step c.0;
      among = place_called image log walk is p c.0 (called_is (noted (told log walk) p) c.0 c.1);
      is = c.2;
      place = refl;
    }

pub exit_by : (log : Log) (p : Pos) → IsExit log p → ExitsBy log p
exit_by log p exit = record {
  made = rec p.thread p.step (call.Exit exit.0);
  among = contains_among log.calls (rec p.thread p.step (call.Exit exit.0)) exit.1;
  is = refl;
  place = refl;
}

pub is_exit_by : (log : Log) (p : Pos) → ExitsBy log p → IsExit log p
is_exit_by log p by =
    let code : (code : ℕ) × (by.made.call ≡ call.Exit code) = exit_call by.made.call by.is in
    subst (IsExit log) by.place
    (code.0, among_contains log.calls (rec by.made.tid by.made.at (call.Exit code.0)) (subst (λ (c : Call). Among (rec by.made.tid by.made.at c) log.calls) code.1 by.among))

pub exits_true : (image : Layout) (log : Log) (walk : Walk) → IsWalk image log walk → (p : Pos) → ExitsBy log p → exits log walk p ≡ true
exits_true image log walk is p by =
    test_some is_exit (called (noted (told log walk) p)) by.made.call
    (ap (λ (q : Pos). called (noted (told log walk) q)) (sym by.place) ∙ ap called (called_noted image log walk is by.made by.among)) by.is

pub same_exit : (log : Log) → CallsFit log → (p q : Pos) → ExitsBy log p → ExitsBy log q → p ≡ q
same_exit log fit p q one other = sym one.place ∙ ap place_of (one_exit log fit one.made other.made one.among other.among one.is other.is) ∙ other.place

exit_ends : (c : Call) → is_exit c ≡ true → is_last (note.Called c) ≡ true
exit_ends c e = let code : (code : ℕ) × (c ≡ call.Exit code) = exit_call c e in ap (λ (x : Call). is_last (note.Called x)) code.1

-- no counted step of a thread stands behind its exit
pub exit_ends_thread : (image : Layout) (log : Log) (walk : Walk) → IsWalk image log walk → (p z : Pos) → ExitsBy log p → Counted log z → up_to z p ≡ true → z ≡ p
exit_ends_thread image log walk is p z by counted e =
    let parts : (nat_eq p.thread z.thread ≡ true) × (nat_le p.step z.step ≡ true) = and_parts _ _ e in
    let same : p.thread ≡ z.thread = eqb-true p.thread z.thread parts.0 in
    let le : p.step ≤ z.step = leb-true p.step z.step parts.1 in
    let u : ℕ = z.thread in
    let within : z.step < length (notes_of walk u) = omega (arith, counted, notes_are image log walk is u) in
    let here : CalledAt log walk by.made = called_place image log walk is by.made by.among in
    let tid : by.made.tid ≡ u = ap (λ (x : Pos). x.thread) by.place ∙ same in
    let last : is_last (get_or (notes_of walk u) by.made.at note.Nothing) ≡ true =
    ap (λ (t : ℕ). is_last (get_or (notes_of walk t) by.made.at note.Nothing)) (sym tid) ∙ ap is_last here.is ∙ exit_ends by.made.call by.is in
    elim (cases_lt p.step z.step) [
      | inl less ↦ absurd (last_once (notes_of walk u) (is.each u (in_log image log walk is u z.step within)).ends by.made.at z.step
          (let l : by.made.at < z.step = omega (arith, less, ap (λ (x : Pos). x.step) by.place) in l) within last)
      | inr past ↦ same_pos z p same (let at : p.step ≡ z.step = omega (arith, le, past) in at)
    ]

-- ---- a log with an exit ends in it

last_halts : (rs : List CallRec) (i : ℕ) (r : CallRec) → slice_get rs i ≡ Some r → length rs ≡ suc i → final_halt rs ≡ halt_then r.tid (note.Called r.call)
last_halts [] i r e many = absurd (none-some r e)
last_halts (x ∷ []) zero r e many = ap (λ (y : CallRec). halt_then y.tid (note.Called y.call)) (same_Some x r e)
last_halts (x ∷ []) (suc i) r e many = absurd (none-some r e)
last_halts (x ∷ y ∷ rs) zero r e many = absurd (omega (arith, many))
last_halts (x ∷ y ∷ rs) (suc i) r e many = last_halts (y ∷ rs) i r e (omega (arith, many))

get_last : (rs : List CallRec) (i : ℕ) → i < length rs → (r : CallRec) × (slice_get rs i ≡ Some r)
get_last [] i less = absurd (omega (arith, less))
get_last (x ∷ rs) zero less = (x, refl)
get_last (x ∷ rs) (suc i) less = get_last rs i (omega (arith, less))

exit_is_last : (log : Log) → CallsFit log → (r : CallRec) → Among r log.calls → is_exit r.call ≡ true → final_halt log.calls ≡ halt_then r.tid (note.Called r.call)
exit_is_last log fit r has e =
    let i : (i : ℕ) × (slice_get log.calls i ≡ Some r) = at_among log.calls r has in
    let within : i.0 < length log.calls = slice_get_within log.calls i.0 r i.1 in
    elim (cases_lt (suc i.0) (length log.calls)) [
      | inl more ↦ (let s : (s : CallRec) × (slice_get log.calls (suc i.0) ≡ Some s) = get_last log.calls (suc i.0) more in
          absurd (false≢true (sym (earlier_goes log fit i.0 (suc i.0) r s.0 i.1 s.1 (omega arith)) ∙ e)))
      | inr le ↦ last_halts log.calls i.0 r i.1 (let many : length log.calls ≡ suc i.0 = omega (arith, within, le) in many)
    ]

pub exit_halts : (t : ℕ) (c : Call) → is_exit c ≡ true → (code : ℕ) × (halt_then t (note.Called c) ≡ Some (halt.Exited t code))
exit_halts t c e = let code : (code : ℕ) × (c ≡ call.Exit code) = exit_call c e in (code.0, ap (λ (x : Call). halt_then t (note.Called x)) code.1)

faulted_exited : (t u code : ℕ) (fault : Cause) → end.Faulted t fault ≡ end.Exited u code → ⊥
faulted_exited t u code fault e = cc

pub no_exit_at_fault : (log : Log) → CallsFit log → (t : ℕ) (fault : Cause) → log.end ≡ end.Faulted t fault → (p : Pos) → IsExit log p → ⊥
no_exit_at_fault log fit t fault ends p exit =
    let by : ExitsBy log p = exit_by log p exit in
    let halts : (code : ℕ) × (halt_then by.made.tid (note.Called by.made.call) ≡ Some (halt.Exited by.made.tid code)) = exit_halts by.made.tid by.made.call by.is in
    let final : final_halt log.calls ≡ Some (halt.Exited by.made.tid halts.0) = exit_is_last log fit by.made by.among by.is ∙ halts.1 in
    let all_ended : Bool = list_all is_some (final_calls log).ended in
    let fits : EndFits (Some (halt.Exited by.made.tid halts.0)) all_ended (end.Faulted t fault) =
    subst (λ (e : End). EndFits (Some (halt.Exited by.made.tid halts.0)) all_ended e) ends
    (subst (λ (h : Option Halt). EndFits h all_ended log.end) final fit.end) in
    faulted_exited t by.made.tid halts.0 fault fits

-- ---- an exit last

exits_last : (log : Log) (p : Pos) (later : List Pos) → ((q : Pos) → In q later → IsExit log p → ⊥) → IsExit log p → later ≡ []
exits_last log p [] none exit = refl
exits_last log p (q ∷ later) none exit = absurd (none q (inl refl) exit)

pub exit_keeps : (log : Log) (steps : List Pos) → Distinct steps → Keeps (λ (q p : Pos). IsExit log p × (q ≡ p → ⊥)) steps → ExitLast log steps
exit_keeps log [] distinct keeps = tt
exit_keeps log (p ∷ later) distinct keeps = (
  exits_last log p later (λ (q : Pos) (i : In q later) (exit : IsExit log p).
      keeps.0 q i (exit, λ (e : q ≡ p). distinct.0 (subst (λ (x : Pos). In x later) e i))),
  exit_keeps log later distinct.1 keeps.1,
)

pub no_exits_last : (log : Log) (steps : List Pos) → ((p : Pos) → IsExit log p → ⊥) → ExitLast log steps
no_exits_last log [] none = tt
no_exits_last log (p ∷ later) none = (λ (exit : IsExit log p). absurd (none p exit), no_exits_last log later none)
