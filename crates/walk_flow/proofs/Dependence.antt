-- By induction on the calls that a place rests on: what two walks are given at the steps that flow into a place settles what
-- the place is.
use Rattle.std.specs.Prelude.{◌≡◌, ℕ, zero, suc, ◌<◌, true, length, slice_get, slice_index_or, Option, Some, None, Contains, refl}
use Rattle.std.proofs.Common.{sym, ◌∙◌, ap, subst, arith, inl, inr}
use Rattle.elf_image.specs.Layout.{Layout}
use Rattle.odr_log.specs.declared.log.Call.{Call}
use Rattle.odr_log.specs.declared.log.Call.TheVariants as call
use Rattle.odr_log.specs.declared.log.CallRec.{CallRec}
use Rattle.odr_log.specs.declared.log.Log.{Log}
use Rattle.odr_log.specs.declared.log.Pos.{Pos}
use Rattle.odr_log.specs.Tape.{tape_of}
use Rattle.rv_model.specs.declared.state.Local.{Local}
use Rattle.rv_model.specs.declared.state.Note.TheVariants as note
use Rattle.rv_model.specs.Calls.{opening_calls, first_argument}
use Rattle.rv_model.specs.CallsFit.{CallsFit}
use Rattle.rv_model.specs.RecordedOrder.{One, More, Counted}
use Rattle.rv_model.specs.Step.{child_of}
use Rattle.rv_model.specs.Thread.{no_thread}
use Rattle.rv_model.specs.Walk.{Walk, IsWalk}
use Rattle.guided_walk.specs.Told.{Told, told, IsPlace, place_of, noted}
use Rattle.guided_walk.specs.Guided.{Given, Seen, Visit, Visits, at, went, handed, seen_before, ended_with, joined_from, joins, visit_from}
use Rattle.guided_walk.specs.Flow.{FlowEdge, InThread, BySpawn, CountedFlow, Flow, Needs, NeedsThread, NeedsJoin}
use Rattle.guided_walk.proofs.Records.{Among, at_among, rec}
use Rattle.guided_walk.proofs.Facts.{call_counted, place_called}
use Rattle.guided_walk.proofs.Shared.{joins_is}
use Rattle.guided_walk.proofs.NeedsOrder.{end_before_join, among_contains, MadeBy, made_by, EndedBy, ended_by, need_is, counted_place, place_counted}
use Rattle.guided_walk.proofs.ScheduleLaw.{notes_are}
use Rattle.walk_flow.specs.Depends.{SameGiven, Solves, SameVisit, FlowsTo, FlowLaw, PlaceFlowLaw}
use Rattle.walk_flow.proofs.Given.{same_step}
use Rattle.walk_flow.proofs.Rank.{Behind, behind_all, behind_before, behind_call}

-- ---- what is handed on rests on threads alone

same_handed : (told : Told) (v w : Visits) (m : Option Pos) → ((q : Pos) → m ≡ Some q → (at v q).seen ≡ (at w q).seen) → handed told v m ≡ handed told w m
same_handed told v w None same = refl
same_handed told v w (Some q) same = ap (λ (seen : Seen). (slice_index_or (child_of seen.local (noted told q)) 0 no_thread).local) (same q refl)

same_ended : (v w : Visits) (m : Option Pos) → ((q : Pos) → m ≡ Some q → (at v q).seen ≡ (at w q).seen) → ended_with v m ≡ ended_with w m
same_ended v w None same = refl
same_ended v w (Some q) same = ap (λ (seen : Seen). first_argument seen.local) (same q refl)

same_joined : (told : Told) (v w : Visits) (target : Option ℕ) → ((t : ℕ) (q : Pos) → target ≡ Some t → told.ender t ≡ Some q → (at v q).seen ≡ (at w q).seen)
    → joined_from told v target ≡ joined_from told w target
same_joined told v w None same = refl
same_joined told v w (Some t) same = same_ended v w (told.ender t) (λ (q : Pos) (e : told.ender t ≡ Some q). same t q refl e)

needs_join : (told : Told) (o : Option ℕ) (t : ℕ) (q : Pos) → o ≡ Some t → told.ender t ≡ Some q → NeedsJoin told q o
needs_join told o t q e ends = subst (NeedsJoin told q) (sym e) ends

-- ---- steps for which the same is given, each with what it is made of

pub record Settles (image : Layout) (log : Log) (walk : Walk) (one other : Given) (v : Visits) (good : Pos → Type 0) : Type 0 where
  pub given : (q : Pos) → good q → SameGiven image one other q (at v q)
  pub down : (q p : Pos) → good p → Needs (told log walk) q p → good q

abbrev AllGood : Told → (Pos → Type 0) → ℕ → ℕ → Type 0
AllGood told good thread step = (q : Pos) → Needs told q (let p : Pos = record { thread = thread; step = step } in p) → good q

abbrev SameSeen : Layout → Told → Visits → Visits → ℕ → ℕ → Type 0
SameSeen image told v w thread step = seen_before image told v thread step ≡ seen_before image told w thread step

-- each place that rests on the first n calls, and for all that it is made of the same is given
abbrev SameUnder : Layout → Log → Walk → Visits → Visits → (Pos → Type 0) → ℕ → Type 0
SameUnder image log walk v w good n =
    (thread step : ℕ) → Behind log n thread step → step < (told log walk).steps thread → AllGood (told log walk) good thread step
    → SameSeen image (told log walk) v w thread step

pub record Both (image : Layout) (log : Log) (walk : Walk) (one other : Given) (v w : Visits) (good : Pos → Type 0) : Type 0 where
  pub is : IsWalk image log walk
  pub fit : CallsFit log
  pub first : Solves image (told log walk) one v
  pub second : Solves image (told log walk) other w
  pub settles : Settles image log walk one other v good

-- the thread at a spawn or an end of which the number is below n
same_at : (image : Layout) (log : Log) (walk : Walk) (one other : Given) (v w : Visits) (good : Pos → Type 0) → Both image log walk one other v w good
    → (m : ℕ) (r : CallRec) → SameUnder image log walk v w good m → slice_get log.calls m ≡ Some r → IsPlace (told log walk) (place_of r) → good (place_of r)
    → (at v (place_of r)).seen ≡ (at w (place_of r)).seen
same_at image log walk one other v w good both m r under e place fine =
    ap (λ (x : Visit). x.seen) (both.first (place_of r) place)
    ∙ under r.tid r.at (behind_call log both.fit m r e) place (λ (q : Pos) (n : Needs (told log walk) q (place_of r)). both.settles.down q (place_of r) fine n)
    ∙ sym (ap (λ (x : Visit). x.seen) (both.second (place_of r) place))

-- the thread that a join is of
same_join : (image : Layout) (log : Log) (walk : Walk) (one other : Given) (v w : Visits) (good : Pos → Type 0) → Both image log walk one other v w good
    → (n : ℕ) → ((m : ℕ) → m < n → SameUnder image log walk v w good m) → (p : Pos) → ((i : ℕ) (r : CallRec) → slice_get log.calls i ≡ Some r → r.tid ≡ p.thread → r.at ≡ p.step → i < n)
    → IsPlace (told log walk) p → ((q : Pos) → Needs (told log walk) q p → good q) → (target : ℕ) (q : Pos) → joins (noted (told log walk) p) ≡ Some target → (told log walk).ender target ≡ Some q
    → (at v q).seen ≡ (at w q).seen
same_join image log walk one other v w good both n under p below place fine target q e ends =
    let m : EndedBy log target q = ended_by log walk target q ends in
    let shows : noted (told log walk) p ≡ note.Called (call.Join target true) = joins_is (noted (told log walk) p) target e in
    let join : CallRec = rec p.thread p.step (call.Join target true) in
    let need : Needs (told log walk) q p = inr (needs_join (told log walk) (joins (noted (told log walk) p)) target q e ends) in
    let i : (i : ℕ) × (slice_get log.calls i ≡ Some m.ender) = at_among log.calls m.ender m.has in
    let j : (j : ℕ) × (slice_get log.calls j ≡ Some join) = at_among log.calls join (place_called image log walk both.is p (call.Join target true) shows) in
    let less : i.0 < j.0 = end_before_join (opening_calls (tape_of log)) log.calls i.0 j.0 m.ender join both.fit.pass i.1 m.is j.1 (ap (λ (t : ℕ). call.Join t true) (sym m.tid)) in
    let last : j.0 < n = below j.0 join j.1 refl refl in
    let there : IsPlace (told log walk) q = place_counted log walk q (need_is image log walk both.is both.fit q p place need).within in
    subst (λ (x : Pos). (at v x).seen ≡ (at w x).seen) m.place
    (same_at image log walk one other v w good both i.0 m.ender (under i.0 (omega (arith, less, last))) i.1 (subst (IsPlace (told log walk)) (sym m.place) there)
    (subst good (sym m.place) (fine q need)))

-- a step of which the thread before is the same
same_visit : (image : Layout) (log : Log) (walk : Walk) (one other : Given) (v w : Visits) (good : Pos → Type 0) → Both image log walk one other v w good
    → (n : ℕ) → ((m : ℕ) → m < n → SameUnder image log walk v w good m) → (p : Pos) → ((i : ℕ) (r : CallRec) → slice_get log.calls i ≡ Some r → r.tid ≡ p.thread → r.at ≡ p.step → i < n)
    → IsPlace (told log walk) p → ((q : Pos) → Needs (told log walk) q p → good q) → SameSeen image (told log walk) v w p.thread p.step → SameGiven image one other p (at v p)
    → at v p ≡ at w p
same_visit image log walk one other v w good both n under p below place fine seen given =
    let t : Told = told log walk in
    let target : Option ℕ = joins (noted t p) in
    let joined : joined_from t v target ≡ joined_from t w target =
    same_joined t v w target (same_join image log walk one other v w good both n under p below place fine) in
    both.first p place
    ∙ same_step image t one other p (seen_before image t v p.thread p.step) (joined_from t v target) (subst (SameGiven image one other p) (both.first p place) given)
    ∙ ap (λ (x : Seen). visit_from image t other p.thread p.step x (joined_from t v target)) seen
    ∙ ap (visit_from image t other p.thread p.step (seen_before image t w p.thread p.step)) joined
    ∙ sym (both.second p place)

-- the thread before a step, by the thread's steps
same_steps : (image : Layout) (log : Log) (walk : Walk) (one other : Given) (v w : Visits) (good : Pos → Type 0) → Both image log walk one other v w good
    → (n : ℕ) → ((m : ℕ) → m < n → SameUnder image log walk v w good m) → SameUnder image log walk v w good n
same_steps image log walk one other v w good both n under zero zero behind place fine = refl
same_steps image log walk one other v w good both n under (suc t) zero behind place fine =
    ap (λ (local : Local). let seen : Seen = record { local = local; link = None } in seen)
    (same_handed (told log walk) v w ((told log walk).maker (suc t)) (λ (q : Pos) (e : (told log walk).maker (suc t) ≡ Some q).
    let p : Pos = record { thread = suc t; step = zero } in
    let m : MadeBy log walk (suc t) q = made_by log walk (suc t) q e in
    let i : (i : ℕ) × (slice_get log.calls i ≡ Some m.spawn) = at_among log.calls m.spawn m.has in
    let less : i.0 < n = behind.maker i.0 m.entry m.spawn i.1 m.is in
    let need : Needs (told log walk) q p = inl e in
    let there : IsPlace (told log walk) q = place_counted log walk q (need_is image log walk both.is both.fit q p place need).within in
    subst (λ (x : Pos). (at v x).seen ≡ (at w x).seen) m.place
    (same_at image log walk one other v w good both i.0 m.spawn (under i.0 less) i.1 (subst (IsPlace (told log walk)) (sym m.place) there)
    (subst good (sym m.place) (fine q need)))))
same_steps image log walk one other v w good both n under thread (suc step) behind place fine =
    let p : Pos = record { thread = thread; step = step } in
    let here : good p = fine p (inl refl) in
    let on : (q : Pos) → Needs (told log walk) q p → good q = λ (q : Pos) (need : Needs (told log walk) q p). both.settles.down q p here need in
    let within : step < (told log walk).steps thread = omega (arith, place) in
    let seen : SameSeen image (told log walk) v w thread step =
    same_steps image log walk one other v w good both n under thread step (behind_before log n thread step behind) within on in
    ap (λ (x : Visit). went image x.seen x.outcome)
    (same_visit image log walk one other v w good both n under p
    (λ (i : ℕ) (r : CallRec) (e : slice_get log.calls i ≡ Some r) (tid : r.tid ≡ thread) (at : r.at ≡ step). behind.calls i r e tid (omega (arith, at)))
    within on seen (both.settles.given p here))

below : (image : Layout) (log : Log) (walk : Walk) (one other : Given) (v w : Visits) (good : Pos → Type 0) → Both image log walk one other v w good
    → (n m : ℕ) → m < n → SameUnder image log walk v w good m
below image log walk one other v w good both zero m less = absurd (omega (arith, less))
below image log walk one other v w good both (suc n) m less =
    same_steps image log walk one other v w good both m (λ (k : ℕ) (l : k < m). below image log walk one other v w good both n k (omega (arith, l, less)))

-- a place for all that it is made of the same is given
same_place : (image : Layout) (log : Log) (walk : Walk) (one other : Given) (v w : Visits) (good : Pos → Type 0) → Both image log walk one other v w good
    → (p : Pos) → IsPlace (told log walk) p → ((q : Pos) → Needs (told log walk) q p → good q) → SameVisit image one other v w p
same_place image log walk one other v w good both p place fine =
    let n : ℕ = length log.calls in
    let under : (m : ℕ) → m < n → SameUnder image log walk v w good m = below image log walk one other v w good both n in
    let seen : SameSeen image (told log walk) v w p.thread p.step =
    same_steps image log walk one other v w good both n under p.thread p.step (behind_all log p.thread p.step) place fine in
    record {
      seen = ap (λ (x : Visit). x.seen) (both.first p place) ∙ seen ∙ sym (ap (λ (x : Visit). x.seen) (both.second p place));
      whole = λ (given : SameGiven image one other p (at v p)).
          same_visit image log walk one other v w good both n under p
          (λ (i : ℕ) (r : CallRec) (e : slice_get log.calls i ≡ Some r) (tid : r.tid ≡ p.thread) (at : r.at ≡ p.step). (behind_all log p.thread (suc p.step)).calls i r e tid (omega (arith, at)))
          place fine seen given;
    }

-- ---- the laws

flow_from : (log : Log) (q p : Pos) → Flow log q p → Counted log q
flow_from log q p (One edge) = edge.from
flow_from log q p (More edge flow) = edge.from

is_place : (image : Layout) (log : Log) (walk : Walk) → IsWalk image log walk → (p : Pos) → Counted log p → IsPlace (told log walk) p
is_place image log walk is p counted = place_counted log walk p (omega (arith, counted, notes_are image log walk is p.thread))

need_flow : (image : Layout) (log : Log) (walk : Walk) → IsWalk image log walk → CallsFit log → (q p : Pos) → Counted log p → Needs (told log walk) q p → CountedFlow log q p
need_flow image log walk is fit q p counted need = (need_is image log walk is fit q p (is_place image log walk is p counted) need).flow counted

pub flow_law : FlowLaw
flow_law image log walk one other visits others p is fit first second counted given =
    same_place image log walk one other visits others (λ (q : Pos). Flow log q p)
    (record {
      is = is;
      fit = fit;
      first = first;
      second = second;
      settles = record {
        given = given;
        down = λ (q r : Pos) (flow : Flow log r p) (need : Needs (told log walk) q r). More (need_flow image log walk is fit q r (flow_from log r p flow) need) flow;
      };
    })
    p (is_place image log walk is p counted) (λ (q : Pos) (need : Needs (told log walk) q p). One (need_flow image log walk is fit q p counted need))

-- what a place needs flows into it, whether it is counted or not
thread_edge : (log : Log) (walk : Walk) (q : Pos) (t s : ℕ) → NeedsThread (told log walk) q t s → FlowEdge log q (let p : Pos = record { thread = t; step = s } in p)
thread_edge log walk q t (suc s) need =
    let p : Pos = record { thread = t; step = suc s } in
    subst (λ (x : Pos). FlowEdge log x p) (sym need) (InThread refl (omega arith))
thread_edge log walk q zero zero need = absurd need
thread_edge log walk q (suc t) zero need =
    let p : Pos = record { thread = suc t; step = zero } in
    let m : MadeBy log walk (suc t) q = made_by log walk (suc t) q need in
    let contains : Contains log.calls (rec m.spawn.tid m.spawn.at (call.Spawn m.entry (Some (suc t)))) =
    among_contains log.calls _ (subst (λ (c : Call). Among (rec m.spawn.tid m.spawn.at c) log.calls) m.is m.has) in
    subst (λ (x : Pos). FlowEdge log x p) m.place (BySpawn contains)

join_edge : (image : Layout) (log : Log) (walk : Walk) → IsWalk image log walk → CallsFit log → (q p : Pos) (o : Option ℕ) → joins (noted (told log walk) p) ≡ o
    → NeedsJoin (told log walk) q o → FlowEdge log q p
join_edge image log walk is fit q p None e need = absurd need
join_edge image log walk is fit q p (Some target) e need =
    let shows : noted (told log walk) p ≡ note.Called (call.Join target true) = joins_is (noted (told log walk) p) target e in
    let counted : Counted log p = counted_place image log walk is p (call_counted log walk p (call.Join target true) shows) in
    (need_flow image log walk is fit q p counted (inr (needs_join (told log walk) (joins (noted (told log walk) p)) target q e need))).edge

need_edge : (image : Layout) (log : Log) (walk : Walk) → IsWalk image log walk → CallsFit log → (q p : Pos) → Needs (told log walk) q p → FlowEdge log q p
need_edge image log walk is fit q p (inl need) = thread_edge log walk q p.thread p.step need
need_edge image log walk is fit q p (inr need) = join_edge image log walk is fit q p (joins (noted (told log walk) p)) refl need

down_to : (image : Layout) (log : Log) (walk : Walk) → IsWalk image log walk → CallsFit log → (p q r : Pos) → FlowsTo log r p → Needs (told log walk) q r → FlowsTo log q p
down_to image log walk is fit p q r (last, counted, edge, inl same) need =
    (last, counted, edge, inr (One (need_flow image log walk is fit q last counted (subst (Needs (told log walk) q) same need))))
down_to image log walk is fit p q r (last, counted, edge, inr flow) need =
    (last, counted, edge, inr (More (need_flow image log walk is fit q r (flow_from log r last flow) need) flow))

pub place_flow_law : PlaceFlowLaw
place_flow_law image log walk one other visits others p is fit first second place given =
    same_place image log walk one other visits others (λ (q : Pos). FlowsTo log q p)
    (record {
      is = is;
      fit = fit;
      first = first;
      second = second;
      settles = record { given = given; down = down_to image log walk is fit p };
    })
    p place (λ (q : Pos) (need : Needs (told log walk) q p).
    (q, counted_place image log walk is q (need_is image log walk is fit q p place need).within, need_edge image log walk is fit q p need, inl refl))
