-- What a step is made of is recorded to stand before it.
use Rattle.std.specs.Prelude.{◌≡◌, ℕ, zero, suc, ◌+◌, ◌<◌, ◌≤◌, Bool, true, false, not, cond, List, [], ◌∷◌, ◌++◌, length, nat_eq, slice_get, Option, Some, None, option_map, is_some, Contains, refl}
use Rattle.std.specs.List.{find}
use Rattle.std.proofs.Common.{sym, ◌∙◌, ap, subst, arith, inl, inr, get_or, set, ltb, eqb, eq-eqb}
use Rattle.std.proofs.lemmas.Bool.{and_parts, eqb-true, ltb-true, ltb-false, false≢true}
use Rattle.std.proofs.lemmas.List.{get_or_past, get_or-set_same, get_or-set_other, length-append}
use Rattle.std.proofs.lemmas.Option.{none-some, same_Some, slice_get_within, get_or_from_slice_get}
use Rattle.elf_image.specs.Layout.{Layout}
use Rattle.odr_log.specs.declared.log.Call.{Call}
use Rattle.odr_log.specs.declared.log.Call.TheVariants as call
use Rattle.odr_log.specs.declared.log.CallRec.{CallRec}
use Rattle.odr_log.specs.declared.log.End.{End}
use Rattle.odr_log.specs.declared.log.End.TheVariants as end
use Rattle.odr_log.specs.declared.log.Log.{Log}
use Rattle.odr_log.specs.declared.log.Pos.{Pos}
use Rattle.odr_log.specs.Tape.{tape_of}
use Rattle.rv_model.specs.declared.state.Calls.{Calls}
use Rattle.rv_model.specs.declared.state.Note.{Note}
use Rattle.rv_model.specs.declared.state.Note.TheVariants as note
use Rattle.rv_model.specs.declared.hearing.Reply.{Reply}
use Rattle.rv_model.specs.Calls.{opening_calls, made, end_value, calls_after, reply_to, asked_in}
use Rattle.rv_model.specs.Walk.{Walk, notes_of, makes, maker_of, IsWalk}
use Rattle.rv_model.specs.CallsFit.{reply_in, after_record, FitsRecord, Pass, CallsFit}
use Rattle.rv_model.specs.RecordedOrder.{One, Counted, InThread, ByCalls, BySpawn, RecordedOrder}
use Rattle.rv_model.proofs.SpawnLemmas.{spawn_makes}
use Rattle.guided_walk.specs.Told.{told, last_fault, ends, place_of, IsPlace, noted}
use Rattle.guided_walk.specs.Guided.{joins}
use Rattle.guided_walk.specs.Flow.{InThread as FlowThread, BySpawn as FlowSpawn, ByJoin, CountedFlow, Needs, NeedsThread, NeedsJoin}
use Rattle.guided_walk.specs.Along.{HasNeeds}
use Rattle.guided_walk.proofs.Shared.{joins_is}
use Rattle.guided_walk.proofs.Records.{Among, at_among, found_among, rec}
use Rattle.guided_walk.proofs.Facts.{in_log, notes_counted, place_called, CalledAt, called_place, called_noted, made_by_call, ends_by_call}
use Rattle.guided_walk.proofs.CallOrder.{record_counted}

-- ---- an end stands before each join of its thread

push_same : (xs : List (Option ℕ)) (u : ℕ) → is_some (get_or (xs ++ None ∷ []) u None) ≡ is_some (get_or xs u None)
push_same [] zero = refl
push_same [] (suc u) = refl
push_same (x ∷ xs) zero = refl
push_same (x ∷ xs) (suc u) = push_same xs u

set_ended : (xs : List (Option ℕ)) (t u : ℕ) → is_some (get_or xs u None) ≡ true → (within : Bool) → ltb u (length xs) ≡ within → (same : Bool) → eqb u t ≡ same
    → is_some (get_or (set xs t (Some 0)) u None) ≡ true
set_ended xs t u e true w true s =
    let one : u ≡ t = eqb-true u t s in
    subst (λ (k : ℕ). is_some (get_or (set xs k (Some 0)) u None) ≡ true) one (ap is_some (get_or-set_same xs u (Some 0) None (ltb-true u (length xs) w)))
set_ended xs t u e true w false s =
    ap is_some (get_or-set_other xs t u (Some 0) None (λ (same : u ≡ t). false≢true (sym s ∙ eq-eqb u t same))) ∙ e
set_ended xs t u e false w same s = absurd (false≢true (sym (ap is_some (get_or_past xs u None (ltb-false u (length xs) w))) ∙ e))

-- no call takes an end back
ended_stays : (calls : Calls) (t u : ℕ) (c : Call) → is_some (end_value calls u) ≡ true → is_some (end_value (calls_after calls t 0 c) u) ≡ true
ended_stays calls t u call.EndThread e = set_ended calls.ended t u e (ltb u (length calls.ended)) refl (eqb u t) refl
ended_stays calls t u (call.Spawn entry (Some child)) e = push_same calls.ended u ∙ e
ended_stays calls t u (call.Spawn entry None) e = e
ended_stays calls t u (call.Exit code) e = e
ended_stays calls t u (call.Join target ok) e = e
ended_stays calls t u (call.Lock mutex true) e = e
ended_stays calls t u (call.Lock mutex false) e = e
ended_stays calls t u (call.Unlock mutex true) e = e
ended_stays calls t u (call.Unlock mutex false) e = e
ended_stays calls t u (call.TryLock mutex true) e = e
ended_stays calls t u (call.TryLock mutex false) e = e
ended_stays calls t u (call.Write bytes) e = e
ended_stays calls t u call.WriteBad e = e
ended_stays calls t u (call.Read want bytes) e = e
ended_stays calls t u call.ReadBad e = e
ended_stays calls t u call.SelfId e = e
ended_stays calls t u call.Yield e = e
ended_stays calls t u (call.Unknown number) e = e

-- a thread that has ended makes no record
no_more : (calls : Calls) (records : List CallRec) (n : ℕ) (r : CallRec) → Pass calls records → is_some (end_value calls r.tid) ≡ true → slice_get records n ≡ Some r → ⊥
no_more calls [] n r pass e at = none-some r at
no_more calls (x ∷ xs) zero r pass e at =
    false≢true (sym (ap is_some pass.0.live) ∙ ap (λ (y : CallRec). is_some (end_value calls y.tid)) (same_Some x r at) ∙ e)
no_more calls (x ∷ xs) (suc n) r pass e at = no_more (after_record calls x) xs n r pass.1 (ended_stays calls x.tid r.tid x.call e) at

-- a join that is answered is of a thread that has ended
join_ended : (calls : Calls) (r : CallRec) (target : ℕ) → FitsRecord calls r → r.call ≡ call.Join target true → is_some (end_value calls target) ≡ true
join_ended calls r target fits e =
    let here : reply_to calls r.tid (asked_in (call.Join target true)) ≡ reply_in (call.Join target true) =
    subst (λ (c : Call). reply_to calls r.tid (asked_in c) ≡ reply_in c) e fits.answered in
    (and_parts (not (nat_eq target r.tid)) (is_some (end_value calls target)) (ap (λ (x : Reply). x.ok) here)).1

pub end_before_join : (calls : Calls) (records : List CallRec) (m n : ℕ) (ender join : CallRec) → Pass calls records → slice_get records m ≡ Some ender → ender.call ≡ call.EndThread
    → slice_get records n ≡ Some join → join.call ≡ call.Join ender.tid true → m < n
end_before_join calls [] m n ender join pass p e q f = absurd (none-some ender p)
end_before_join calls (x ∷ xs) zero zero ender join pass p e q f =
    absurd (let h : call.EndThread ≡ call.Join ender.tid true = sym e ∙ ap (λ (y : CallRec). y.call) (sym (same_Some x ender p) ∙ same_Some x join q) ∙ f in cc)
end_before_join calls (x ∷ xs) zero (suc n) ender join pass p e q f = omega arith
end_before_join calls (x ∷ xs) (suc m) zero ender join pass p e q f =
    let is : x.call ≡ call.Join ender.tid true = ap (λ (y : CallRec). y.call) (same_Some x join q) ∙ f in
    absurd (no_more (after_record calls x) xs m ender pass.1 (ended_stays calls x.tid ender.tid x.call (join_ended calls x ender.tid pass.0 is)) p)
end_before_join calls (x ∷ xs) (suc m) (suc n) ender join pass p e q f =
    let less : m < n = end_before_join (after_record calls x) xs m n ender join pass.1 p e q f in omega arith

-- ---- members

pub among_contains : (xs : List CallRec) (r : CallRec) → Among r xs → Contains xs r
among_contains xs r has =
    let i : (i : ℕ) × (slice_get xs i ≡ Some r) = at_among xs r has in
    (i.0, slice_get_within xs i.0 r i.1, get_or_from_slice_get xs i.0 r r i.1)

map_some : (o : Option CallRec) (q : Pos) → option_map place_of o ≡ Some q → (r : CallRec) × (o ≡ Some r) × (place_of r ≡ q)
map_some None q e = absurd (none-some q e)
map_some (Some r) q e = (r, refl, same_Some (place_of r) q e)

-- ---- needs

same_called : (c d : Call) → note.Called c ≡ note.Called d → c ≡ d
same_called c d e = cc

-- no thread makes itself
own_spawn : (calls : Calls) (records : List CallRec) (n : ℕ) (r : CallRec) (entry child : ℕ) → Pass calls records → slice_get records n ≡ Some r → r.call ≡ call.Spawn entry (Some child) → r.tid ≡ child → ⊥
own_spawn calls [] n r entry child pass p e same = none-some r p
own_spawn calls (x ∷ xs) zero r entry child pass p e same =
    let one : x ≡ r = same_Some x r p in
    let makes_it : made calls ≡ child = spawn_makes calls x entry child (ap (λ (y : CallRec). y.call) one ∙ e) pass.0 in
    absurd (omega (arith, makes_it, pass.0.exists, ap (λ (y : CallRec). y.tid) one, same))
own_spawn calls (x ∷ xs) (suc n) r entry child pass p e same = own_spawn (after_record calls x) xs n r entry child pass.1 p e same

one_or_none : (b : Bool) (n : Note) → length (cond b (n ∷ []) []) ≤ 1
one_or_none true n = omega arith
one_or_none false n = omega arith

last_few : (ended : End) (u : ℕ) → length (last_fault ended u) ≤ 1
last_few (end.Faulted thread fault) u = one_or_none (nat_eq thread u) (note.Faulted fault)
last_few (end.Exited thread code) u = omega arith
last_few end.AllDone u = omega arith
last_few end.Cut u = omega arith

few_steps : (log : Log) (walk : Walk) (u : ℕ) → (told log walk).steps u ≤ length (notes_of walk u) + 1
few_steps log walk u = omega (arith, length-append (notes_of walk u) (last_fault log.end u), last_few log.end u)

pub counted_place : (image : Layout) (log : Log) (walk : Walk) → IsWalk image log walk → (p : Pos) → p.step < length (notes_of walk p.thread) → Counted log p
counted_place image log walk is p within = omega (arith, within, notes_counted image log walk is p.thread (in_log image log walk is p.thread p.step within))

pub place_counted : (log : Log) (walk : Walk) (p : Pos) → p.step < length (notes_of walk p.thread) → IsPlace (told log walk) p
place_counted log walk p within = omega (arith, within, length-append (notes_of walk p.thread) (last_fault log.end p.thread))

-- the record that made a thread
pub record MadeBy (log : Log) (walk : Walk) (thread : ℕ) (q : Pos) : Type 0 where
  pub spawn : CallRec
  pub entry : ℕ
  pub has : Among spawn log.calls
  pub is : spawn.call ≡ call.Spawn entry (Some thread)
  pub place : place_of spawn ≡ q

pub made_by : (log : Log) (walk : Walk) (thread : ℕ) (q : Pos) → (told log walk).maker thread ≡ Some q → MadeBy log walk thread q
made_by log walk thread q e =
    let found : (r : CallRec) × (maker_of log thread ≡ Some r) × (place_of r ≡ q) = map_some (maker_of log thread) q e in
    let there : Among found.0 log.calls × (makes thread found.0.call ≡ true) = found_among (λ (x : CallRec). makes thread x.call) log.calls found.0 found.1 in
    let spawns : (entry : ℕ) × (found.0.call ≡ call.Spawn entry (Some thread)) = made_by_call thread found.0.call there.1 in
    record { spawn = found.0; entry = spawns.0; has = there.0; is = spawns.1; place = found.2 }

-- the record by which a thread ended
pub record EndedBy (log : Log) (thread : ℕ) (q : Pos) : Type 0 where
  pub ender : CallRec
  pub has : Among ender log.calls
  pub is : ender.call ≡ call.EndThread
  pub tid : ender.tid ≡ thread
  pub place : place_of ender ≡ q

pub ended_by : (log : Log) (walk : Walk) (thread : ℕ) (q : Pos) → (told log walk).ender thread ≡ Some q → EndedBy log thread q
ended_by log walk thread q e =
    let found : (r : CallRec) × (find (ends thread) log.calls ≡ Some r) × (place_of r ≡ q) = map_some (find (ends thread) log.calls) q e in
    let there : Among found.0 log.calls × (ends thread found.0 ≡ true) = found_among (ends thread) log.calls found.0 found.1 in
    let parts : (found.0.call ≡ call.EndThread) × (found.0.tid ≡ thread) = ends_by_call thread found.0 found.0.call refl there.1 in
    record { ender = found.0; has = there.0; is = parts.0; tid = parts.1; place = found.2 }

-- What a step needs is counted, and another step.
pub record NeedIs (log : Log) (walk : Walk) (q p : Pos) : Type 0 where
  pub within : q.step < length (notes_of walk q.thread)
  pub other : q ≡ p → ⊥
  pub before : Counted log p → RecordedOrder log q p
  pub flow : Counted log p → CountedFlow log q p

need_thread : (image : Layout) (log : Log) (walk : Walk) → IsWalk image log walk → CallsFit log → (q : Pos) (t s : ℕ) → s < (told log walk).steps t → NeedsThread (told log walk) q t s
    → NeedIs log walk q (record { thread = t; step = s })
need_thread image log walk is fit q t (suc s) place need =
    let p : Pos = record { thread = t; step = suc s } in
    let before : Pos = record { thread = t; step = s } in
    let within : s < length (notes_of walk t) = omega (arith, place, few_steps log walk t) in
    let counted : Counted log before = counted_place image log walk is before within in
    subst (λ (x : Pos). NeedIs log walk x p) (sym need) (record {
      within = within;
      other = λ (e : before ≡ p). absurd (omega (arith, ap (λ (x : Pos). x.step) e));
      before = λ (c : Counted log p). One (record { from = counted; to = c; edge = InThread refl (omega arith) });
      flow = λ (c : Counted log p). record { from = counted; to = c; edge = FlowThread refl (omega arith) };
    })
need_thread image log walk is fit q zero zero place need = absurd need
need_thread image log walk is fit q (suc t) zero place need =
    let u : ℕ = suc t in
    let p : Pos = record { thread = u; step = zero } in
    let m : MadeBy log walk u q = made_by log walk u q need in
    let here : CalledAt log walk m.spawn = called_place image log walk is m.spawn m.has in
    let counted : Counted log (place_of m.spawn) = record_counted image log walk is m.spawn m.has in
    let contains : Contains log.calls (rec m.spawn.tid m.spawn.at (call.Spawn m.entry (Some u))) =
    among_contains log.calls _ (subst (λ (c : Call). Among (rec m.spawn.tid m.spawn.at c) log.calls) m.is m.has) in
    let i : (i : ℕ) × (slice_get log.calls i ≡ Some m.spawn) = at_among log.calls m.spawn m.has in
    subst (λ (x : Pos). NeedIs log walk x p) m.place (record {
      within = here.within;
      other = λ (e : place_of m.spawn ≡ p).
          absurd (own_spawn (opening_calls (tape_of log)) log.calls i.0 m.spawn m.entry u fit.pass i.1 m.is (ap (λ (x : Pos). x.thread) e));
      before = λ (c : Counted log p). One (record { from = counted; to = c; edge = BySpawn contains });
      flow = λ (c : Counted log p). record { from = counted; to = c; edge = FlowSpawn contains };
    })

need_join : (image : Layout) (log : Log) (walk : Walk) → IsWalk image log walk → CallsFit log → (q p : Pos) (target : ℕ) → noted (told log walk) p ≡ note.Called (call.Join target true)
    → (told log walk).ender target ≡ Some q → NeedIs log walk q p
need_join image log walk is fit q p target shows need =
    let m : EndedBy log target q = ended_by log walk target q need in
    let here : CalledAt log walk m.ender = called_place image log walk is m.ender m.has in
    let join : CallRec = rec p.thread p.step (call.Join target true) in
    let there : Among join log.calls = place_called image log walk is p (call.Join target true) shows in
    let i : (i : ℕ) × (slice_get log.calls i ≡ Some m.ender) = at_among log.calls m.ender m.has in
    let j : (j : ℕ) × (slice_get log.calls j ≡ Some join) = at_among log.calls join there in
    let counted : Counted log (place_of m.ender) = record_counted image log walk is m.ender m.has in
    let less : i.0 < j.0 = end_before_join (opening_calls (tape_of log)) log.calls i.0 j.0 m.ender join fit.pass i.1 m.is j.1 (ap (λ (t : ℕ). call.Join t true) (sym m.tid)) in
    let ended : Contains log.calls (rec m.ender.tid m.ender.at call.EndThread) =
    among_contains log.calls _ (subst (λ (c : Call). Among (rec m.ender.tid m.ender.at c) log.calls) m.is m.has) in
    let joined : Contains log.calls (rec p.thread p.step (call.Join m.ender.tid true)) =
    among_contains log.calls _ (subst (λ (t : ℕ). Among (rec p.thread p.step (call.Join t true)) log.calls) (sym m.tid) there) in
    subst (λ (x : Pos). NeedIs log walk x p) m.place (record {
      within = here.within;
      other = λ (e : place_of m.ender ≡ p).
          let h : note.Called call.EndThread ≡ note.Called (call.Join target true) =
          ap (λ (c : Call). note.Called c) (sym m.is) ∙ sym (called_noted image log walk is m.ender m.has) ∙ ap (noted (told log walk)) e ∙ shows in
          absurd (let g : call.EndThread ≡ call.Join target true = same_called call.EndThread (call.Join target true) h in cc);
      before = λ (c : Counted log p). One (record { from = counted; to = c; edge = ByCalls (record { made = m.ender.call; is = i.1 }) (record { made = call.Join target true; is = j.1 }) less });
      flow = λ (c : Counted log p). record { from = counted; to = c; edge = ByJoin ended joined };
    })

need_joins : (image : Layout) (log : Log) (walk : Walk) → IsWalk image log walk → CallsFit log → (q p : Pos) (target : Option ℕ) → joins (noted (told log walk) p) ≡ target
    → NeedsJoin (told log walk) q target → NeedIs log walk q p
need_joins image log walk is fit q p None e need = absurd need
need_joins image log walk is fit q p (Some target) e need = need_join image log walk is fit q p target (joins_is (noted (told log walk) p) target e) need

pub need_is : (image : Layout) (log : Log) (walk : Walk) → IsWalk image log walk → CallsFit log → (q p : Pos) → IsPlace (told log walk) p → Needs (told log walk) q p → NeedIs log walk q p
need_is image log walk is fit q p place (inl n) = need_thread image log walk is fit q p.thread p.step place n
need_is image log walk is fit q p place (inr n) = need_joins image log walk is fit q p (joins (noted (told log walk) p)) refl n

-- What a step is made of are other places, so the needs themselves are an order that a list can keep.
pub needs_are : (image : Layout) (log : Log) (walk : Walk) → IsWalk image log walk → CallsFit log
    → HasNeeds (told log walk) (λ (q p : Pos). IsPlace (told log walk) p × Needs (told log walk) q p)
needs_are image log walk is fit = record {
  no_ring = λ (p : Pos) (n : IsPlace (told log walk) p × Needs (told log walk) p p). (need_is image log walk is fit p p n.0 n.1).other refl;
  places = λ (q p : Pos) (place : IsPlace (told log walk) p) (n : Needs (told log walk) q p). place_counted log walk q (need_is image log walk is fit q p place n).within;
  first = λ (q p : Pos) (place : IsPlace (told log walk) p) (n : Needs (told log walk) q p). (place, n);
}
