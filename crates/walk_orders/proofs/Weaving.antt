-- Every total order of chosen steps that agrees with the recorded order comes from one list of all counted steps.
use Rattle.std.specs.Prelude.{◌≡◌, ℕ, suc, ◌+◌, ◌<◌, Bool, true, false, not, ◌||◌, cond, List, [], ◌∷◌, ◌++◌, nat_eq, slice_get, Some, Contains, refl}
use Rattle.std.specs.List.{filter}
use Rattle.std.proofs.Common.{sym, ◌∙◌, ap, subst, arith, inl, inr}
use Rattle.std.proofs.lemmas.Bool.{and_parts, false≢true}
use Rattle.std.proofs.lemmas.List.{append-nil}
use Rattle.elf_image.specs.Layout.{Layout}
use Rattle.odr_log.specs.declared.log.Call.TheVariants as call
use Rattle.odr_log.specs.declared.log.CallRec.{CallRec}
use Rattle.odr_log.specs.declared.log.End.{End}
use Rattle.odr_log.specs.declared.log.End.TheVariants as end
use Rattle.odr_log.specs.declared.log.Log.{Log}
use Rattle.odr_log.specs.declared.log.Pos.{Pos}
use Rattle.rv_model.specs.declared.state.Note.{Note}
use Rattle.rv_model.specs.Run.{option_test, logged}
use Rattle.rv_model.specs.Walk.{Walk, makes, IsWalk}
use Rattle.rv_model.specs.CallsFit.{is_exit, CallsFit}
use Rattle.rv_model.specs.RecordedOrder.{Closure, One, More, Counted, IsStepOf, Edge, InThread, ByCalls, BySpawn, CountedEdge, RecordedOrder}
use Rattle.happens_before.proofs.ClosedForm.{before_in_thread}
use Rattle.guided_walk.specs.Told.{place_of}
use Rattle.guided_walk.specs.Orders.{In, Keeps, Distinct, Lists, Stands}
use Rattle.guided_walk.specs.Schedules.{count, places_after, places, times}
use Rattle.guided_walk.specs.Ordered.{IsExit, ExitLast}
use Rattle.guided_walk.specs.Along.{fault_by, fault_places}
use Rattle.guided_walk.specs.Woven.{faulting}
use Rattle.guided_walk.specs.Law.{holds}
use Rattle.guided_walk.proofs.Along.{Next}
use Rattle.guided_walk.proofs.Walks.{called}
use Rattle.guided_walk.proofs.Records.{Among, among_at, at_among, among_filter, filter_among, rec}
use Rattle.guided_walk.proofs.Facts.{called_noted}
use Rattle.guided_walk.proofs.CallOrder.{record_counted, calls_ordered}
use Rattle.guided_walk.proofs.Placing.{in-append, distinct_places, done_after, places-append}
use Rattle.walk_orders.specs.Total.{AreCounted, IsTotal, ArePairs}
use Rattle.walk_orders.specs.RecordedTest.{up_to}
use Rattle.walk_orders.specs.Law.{WeavingLaw}
use Rattle.walk_orders.proofs.Lists.{in_right, in_filter, filter_in, stands_left, stands_then, stands_once, keeps_standing}
use Rattle.walk_orders.proofs.Weave.{weave, First, weave_first, own_weave, threads_of}
use Rattle.walk_orders.proofs.Merge.{UpTo, NoRing, Chain, AreCalls, LedTo, first_left, first_of_all, in_merge, merge, merge_call, merge_chosen}
use Rattle.walk_orders.proofs.Steps.{all_steps, AreSteps, all_are, steps_places, steps_times, steps_list, steps_rise}
use Rattle.walk_orders.proofs.Exits.{contains_among, earlier_goes, exits, ExitsBy, exits_by, exit_by, exits_true, is_exit_by, same_exit, exit_ends_thread, no_exit_at_fault, exit_keeps, no_exits_last}
use Rattle.walk_orders.proofs.Sorting.{sorted_by, in_sorted, sorted_in, sorted_keeps}

-- ---- the recorded order

pub from_counted : (log : Log) (p q : Pos) → RecordedOrder log p q → Counted log p
from_counted log p q (One e) = e.from
from_counted log p q (More e rest) = e.from

pub to_counted : (log : Log) (p q : Pos) → RecordedOrder log p q → Counted log q
to_counted log p q (One e) = e.to
to_counted log p q (More {q = x} e rest) = to_counted log x q rest

pub no_ring : (log : Log) → CallsFit log → NoRing log
no_ring log fit p order =
    absurd (let less : p.step < p.step = (before_in_thread log fit p p (from_counted log p p order) (to_counted log p p order) refl).1 order in omega (arith, less))

-- what stands of each edge stands of the closure
pub stands_recorded : (log : Log) (steps : List Pos) → Distinct steps → ((p q : Pos) → CountedEdge log p q → Stands steps p q) → {p q : Pos} → Closure (CountedEdge log) p q → Stands steps p q
stands_recorded log steps distinct edges {p} {q} (One e) = edges p q e
stands_recorded log steps distinct edges {p} {q} (More {q = x} e rest) =
    stands_then p x q steps distinct (edges p x e) (stands_recorded log steps distinct edges rest)

-- ---- the calls that are no exit

abbrev goes : CallRec → Bool
goes r = not (is_exit r.call)

abbrev going : Log → List CallRec
going log = filter goes log.calls

goes_by : (b : Bool) → not b ≡ true → b ≡ false
goes_by true e = absurd (false≢true e)
goes_by false e = refl

goes_true : (b : Bool) → b ≡ false → not b ≡ true
goes_true true e = sym e
goes_true false e = refl

chain_from : (log : Log) (rs : List CallRec) → ((m n : ℕ) (r s : CallRec) → slice_get rs m ≡ Some r → slice_get rs n ≡ Some s → m < n → RecordedOrder log (place_of r) (place_of s))
    → Chain log rs
chain_from log [] ordered = tt
chain_from log (r ∷ rs) ordered = (
  λ (s : CallRec) (has : Among s rs). let n : (n : ℕ) × (slice_get rs n ≡ Some s) = at_among rs s has in ordered 0 (suc n.0) r s refl n.1 (omega arith),
  chain_from log rs (λ (m n : ℕ) (x y : CallRec) (p : slice_get rs m ≡ Some x) (q : slice_get rs n ≡ Some y) (less : m < n). ordered (suc m) (suc n) x y p q (omega (arith, less))),
)

pub chain_all : (image : Layout) (log : Log) (walk : Walk) → IsWalk image log walk → Chain log log.calls
chain_all image log walk is = chain_from log log.calls (calls_ordered image log walk is)

chain_filter_by : (log : Log) (test : CallRec → Bool) (r : CallRec) (rs : List CallRec) → Chain log (r ∷ rs) → (b : Bool) → Chain log (filter test rs) → Chain log (cond b (r ∷ filter test rs) (filter test rs))
chain_filter_by log test r rs chain true rest = (λ (s : CallRec) (has : Among s (filter test rs)). chain.0 s (among_filter test rs s has).0, rest)
chain_filter_by log test r rs chain false rest = rest

chain_filter : (log : Log) (test : CallRec → Bool) (rs : List CallRec) → Chain log rs → Chain log (filter test rs)
chain_filter log test [] chain = tt
chain_filter log test (r ∷ rs) chain = chain_filter_by log test r rs chain (test r) (chain_filter log test rs chain.1)

-- ---- the list

-- the calls and the chosen steps in their order, and behind them all that is no exit
abbrev chosen_steps : Log → Walk → List Pos → List Pos
chosen_steps log walk chosen = merge (going log) chosen ++ filter (λ p. not (exits log walk p)) (all_steps log)

abbrev pub woven_steps : Log → Walk → List Pos → List Pos
woven_steps log walk chosen = weave (all_steps log) (chosen_steps log walk chosen)

pub woven_are : (log : Log) (walk : Walk) (chosen : List Pos) → AreSteps log (woven_steps log walk chosen)
woven_are log walk chosen thread = own_weave (all_steps log) (chosen_steps log walk chosen) thread 0 (logged log thread).steps (all_are log thread)

-- what is chosen: counted steps without an exit
pub record IsChosen (log : Log) (walk : Walk) (chosen : List Pos) : Type 0 where
  pub counted : AreCounted log chosen
  pub goes_on : (p : Pos) → In p chosen → exits log walk p ≡ false

-- a step that is chosen, or stands behind the chosen ones, is counted and no exit
record Goes (log : Log) (walk : Walk) (p : Pos) : Type 0 where
  pub counted : Counted log p
  pub goes_on : exits log walk p ≡ false

call_goes : (image : Layout) (log : Log) (walk : Walk) → IsWalk image log walk → (r : CallRec) → Among r (going log) → Goes log walk (place_of r)
call_goes image log walk is r has =
    let parts : Among r log.calls × (goes r ≡ true) = among_filter goes log.calls r has in
    record {
      counted = record_counted image log walk is r parts.0;
      goes_on = ap (λ (n : Note). option_test is_exit (called n)) (called_noted image log walk is r parts.0) ∙ goes_by (is_exit r.call) parts.1;
    }

list_goes : (image : Layout) (log : Log) (walk : Walk) (chosen : List Pos) → IsWalk image log walk → IsChosen log walk chosen → (z : Pos) → In z (chosen_steps log walk chosen) → Goes log walk z
list_goes image log walk chosen is choice z i =
    elim (in-append z (merge (going log) chosen) (filter (λ p. not (exits log walk p)) (all_steps log)) i) [
      | inl j ↦ elim (in_merge chosen (going log) z j) [
        | inl r ↦ subst (Goes log walk) r.2 (call_goes image log walk is r.0 r.1)
        | inr c ↦ record { counted = choice.counted z c; goes_on = choice.goes_on z c }
      ]
      | inr j ↦ (let parts : In z (all_steps log) × (not (exits log walk z) ≡ true) = in_filter (λ p. not (exits log walk p)) z (all_steps log) j in
          record { counted = (steps_list log (all_steps log) (all_are log)).only z parts.0; goes_on = goes_by (exits log walk z) parts.1 })
    ]

-- each step that is no exit is first of an exit
exit_after : (image : Layout) (log : Log) (walk : Walk) (chosen : List Pos) → IsWalk image log walk → CallsFit log → IsChosen log walk chosen → (p q : Pos) → Counted log p → ExitsBy log q → (p ≡ q → ⊥)
    → First (chosen_steps log walk chosen) p q
exit_after image log walk chosen is fit choice p q counted exit ne =
    first_of_all p q (chosen_steps log walk chosen)
    (in_right p (merge (going log) chosen) (filter (λ p. not (exits log walk p)) (all_steps log))
    (filter_in (λ p. not (exits log walk p)) p (all_steps log) ((steps_list log (all_steps log) (all_are log)).all p counted) (goes_true (exits log walk p) (stays (exits log walk p) refl))))
    (λ (z : Pos) (i : In z (chosen_steps log walk chosen)). not_after z (list_goes image log walk chosen is choice z i) (up_to z q) refl) where
      stays : (b : Bool) → exits log walk p ≡ b → b ≡ false
      stays true e = absurd (ne (same_exit log fit p q (exits_by image log walk is p e) exit))
      stays false e = refl

      not_after : (z : Pos) → Goes log walk z → (b : Bool) → up_to z q ≡ b → b ≡ false
      not_after z on true e =
          let same : z ≡ q = exit_ends_thread image log walk is q z exit on.counted e in
          absurd (false≢true (sym on.goes_on ∙ ap (exits log walk) same ∙ exits_true image log walk is q exit))
      not_after z on false e = refl

-- ---- what stands before what

chain_going : (image : Layout) (log : Log) (walk : Walk) → IsWalk image log walk → Chain log (going log)
chain_going image log walk is = chain_filter log goes log.calls (chain_all image log walk is)

calls_going : (image : Layout) (log : Log) (walk : Walk) → IsWalk image log walk → AreCalls log (going log)
calls_going image log walk is r has =
    let parts : Among r log.calls × (goes r ≡ true) = among_filter goes log.calls r has in
    record { among = parts.0; counted = record_counted image log walk is r parts.0 }

-- a call that goes on is first of a step before which it is recorded, where it leads to each step at or after that one
call_stands : (image : Layout) (log : Log) (walk : Walk) (chosen : List Pos) → IsWalk image log walk → CallsFit log → IsChosen log walk chosen → (r : CallRec) (q : Pos)
    → Among r log.calls → is_exit r.call ≡ false → Counted log q → RecordedOrder log (place_of r) q → ((a : Pos) → In a chosen → up_to a q ≡ true → LedTo log (going log) r a)
    → Stands (woven_steps log walk chosen) (place_of r) q
call_stands image log walk chosen is fit choice r q has stays counted order led =
    let all : Lists (Counted log) (all_steps log) = steps_list log (all_steps log) (all_are log) in
    weave_first (all_steps log) (chosen_steps log walk chosen) (place_of r) q
    (first_left (place_of r) q (merge (going log) chosen) (filter (λ p. not (exits log walk p)) (all_steps log))
    (merge_call log (no_ring log fit) chosen (going log) r q (chain_going image log walk is) (calls_going image log walk is) choice.counted counted
    (filter_among goes log.calls r has (goes_true (is_exit r.call) stays)) order led))
    (all.all (place_of r) (record_counted image log walk is r has)) (all.all q counted)

exit_stands : (image : Layout) (log : Log) (walk : Walk) (chosen : List Pos) → IsWalk image log walk → CallsFit log → IsChosen log walk chosen → (p q : Pos) → Counted log p → Counted log q
    → ExitsBy log q → (p ≡ q → ⊥) → Stands (woven_steps log walk chosen) p q
exit_stands image log walk chosen is fit choice p q from to exit ne =
    let all : Lists (Counted log) (all_steps log) = steps_list log (all_steps log) (all_are log) in
    weave_first (all_steps log) (chosen_steps log walk chosen) p q (exit_after image log walk chosen is fit choice p q from exit ne) (all.all p from) (all.all q to)

calls_stand : (image : Layout) (log : Log) (walk : Walk) (chosen : List Pos) → IsWalk image log walk → CallsFit log → IsChosen log walk chosen → (m n : ℕ) (p q : Pos) → CountedEdge log p q
    → (a : IsStepOf log m p) → (b : IsStepOf log n q) → m < n → (exit : Bool) → is_exit b.made ≡ exit → Stands (woven_steps log walk chosen) p q
calls_stand image log walk chosen is fit choice m n p q edge a b less true e =
    exit_stands image log walk chosen is fit choice p q edge.from edge.to
    (record { made = rec q.thread q.step b.made; among = among_at log.calls n (rec q.thread q.step b.made) b.is; is = e; place = refl })
    (λ (same : p ≡ q). no_ring log fit p (subst (RecordedOrder log p) (sym same) (One edge)))
calls_stand image log walk chosen is fit choice m n p q edge a b less false e =
    let r : CallRec = rec p.thread p.step a.made in
    let s : CallRec = rec q.thread q.step b.made in
    call_stands image log walk chosen is fit choice r q (among_at log.calls m r a.is) (earlier_goes log fit m n r s a.is b.is less) edge.to (One edge)
    (λ (c : Pos) (i : In c chosen) (up : up_to c q ≡ true). record {
      by = s;
      among = filter_among goes log.calls s (among_at log.calls n s b.is) (goes_true (is_exit b.made) e);
      leads_on = ap (λ (x : Bool). x || makes c.thread b.made) up;
      from = inr (One edge);
    })

or_second : (b c : Bool) → c ≡ true → (b || c) ≡ true
or_second true c e = refl
or_second false c e = e

spawn_stands : (image : Layout) (log : Log) (walk : Walk) (chosen : List Pos) → IsWalk image log walk → CallsFit log → IsChosen log walk chosen → (p q : Pos) (entry : ℕ) → CountedEdge log p q
    → Contains log.calls (rec p.thread p.step (call.Spawn entry (Some q.thread))) → Stands (woven_steps log walk chosen) p q
spawn_stands image log walk chosen is fit choice p q entry edge has =
    let r : CallRec = rec p.thread p.step (call.Spawn entry (Some q.thread)) in
    let among : Among r log.calls = contains_among log.calls r has in
    call_stands image log walk chosen is fit choice r q among refl edge.to (One edge)
    (λ (c : Pos) (i : In c chosen) (up : up_to c q ≡ true). record {
      by = r;
      among = filter_among goes log.calls r among refl;
      leads_on = or_second (up_to c p) (nat_eq q.thread c.thread) (and_parts _ _ up).0;
      from = inl refl;
    })

edge_stands : (image : Layout) (log : Log) (walk : Walk) (chosen : List Pos) → IsWalk image log walk → CallsFit log → IsChosen log walk chosen → (p q : Pos) → CountedEdge log p q → Edge log p q
    → Stands (woven_steps log walk chosen) p q
edge_stands image log walk chosen is fit choice p q edge (InThread same less) =
    let lists : Lists (Counted log) (woven_steps log walk chosen) = steps_list log (woven_steps log walk chosen) (woven_are log walk chosen) in
    steps_rise log (woven_steps log walk chosen) (woven_are log walk chosen) p q (lists.all p edge.from) (lists.all q edge.to) same less
edge_stands image log walk chosen is fit choice p q edge (ByCalls {earlier = m} {later = n} a b less) =
    calls_stand image log walk chosen is fit choice m n p q edge a b less (is_exit b.made) refl
edge_stands image log walk chosen is fit choice p q edge (BySpawn {entry = entry} has) = spawn_stands image log walk chosen is fit choice p q entry edge has

pub recorded_stands : (image : Layout) (log : Log) (walk : Walk) (chosen : List Pos) → IsWalk image log walk → CallsFit log → IsChosen log walk chosen → (p q : Pos) → RecordedOrder log p q
    → Stands (woven_steps log walk chosen) p q
recorded_stands image log walk chosen is fit choice p q order =
    stands_recorded log (woven_steps log walk chosen) (steps_list log (woven_steps log walk chosen) (woven_are log walk chosen)).once
    (λ (x y : Pos) (e : CountedEdge log x y). edge_stands image log walk chosen is fit choice x y e e.edge) order

pub exits_stand_last : (image : Layout) (log : Log) (walk : Walk) (chosen : List Pos) → IsWalk image log walk → CallsFit log → IsChosen log walk chosen → ExitLast log (woven_steps log walk chosen)
exits_stand_last image log walk chosen is fit choice =
    let steps : List Pos = woven_steps log walk chosen in
    let lists : Lists (Counted log) steps = steps_list log steps (woven_are log walk chosen) in
    exit_keeps log steps lists.once
    (keeps_standing (λ (q p : Pos). IsExit log p × (q ≡ p → ⊥)) steps lists.once
    (λ (q p : Pos) (i : In q steps) (j : In p steps) (r : IsExit log p × (q ≡ p → ⊥)).
    exit_stands image log walk chosen is fit choice q p (lists.only q i) (lists.only p j) (exit_by log p r.0) r.1))

-- ---- as a schedule

count_after : (u t : ℕ) (done : List Pos) (n : ℕ) → (b : Bool) → cond b (suc (count u done)) (count u done) + n ≡ count u done + cond b (suc n) n
count_after u t done n true = omega arith
count_after u t done n false = omega arith

pub counted_after : (u : ℕ) (done : List Pos) (schedule : List ℕ) → count u (done_after done schedule) ≡ count u done + times u schedule
counted_after u done [] = omega arith
counted_after u done (t ∷ schedule) = counted_after u (Next t done) schedule ∙ count_after u t done (times u schedule) (nat_eq t u)

pub fault_after : (log : Log) (counted : List ℕ) (ended : End) → ((u : ℕ) → times u counted ≡ (logged log u).steps) → places_after (done_after [] counted) (faulting ended) ≡ fault_by log ended
fault_after log counted (end.Faulted t fault) steps =
    ap (λ (k : ℕ). (let p : Pos = record { thread = t; step = k } in p) ∷ []) (counted_after t [] counted ∙ (let e : 0 + times t counted ≡ times t counted = omega arith in e) ∙ steps t)
fault_after log counted (end.Exited t code) steps = refl
fault_after log counted end.AllDone steps = refl
fault_after log counted end.Cut steps = refl

pub exit_last_by : (log : Log) (steps : List Pos) (ended : End) → CallsFit log → log.end ≡ ended → ExitLast log steps → ExitLast log (steps ++ fault_by log ended)
exit_last_by log steps (end.Faulted t fault) fit e last = no_exits_last log (steps ++ fault_by log (end.Faulted t fault)) (no_exit_at_fault log fit t fault e)
exit_last_by log steps (end.Exited t code) fit e last = subst (ExitLast log) (sym (append-nil steps)) last
exit_last_by log steps end.AllDone fit e last = subst (ExitLast log) (sym (append-nil steps)) last
exit_last_by log steps end.Cut fit e last = subst (ExitLast log) (sym (append-nil steps)) last

-- ---- the law

is_chosen : (image : Layout) (log : Log) (walk : Walk) (chosen : List Pos) (before : Pos → Pos → Bool) → IsWalk image log walk → AreCounted log chosen → ((p : Pos) → In p chosen → IsExit log p → ⊥)
    → IsChosen log walk (sorted_by before chosen)
is_chosen image log walk chosen before is counted goes_on = record {
  counted = λ (p : Pos) (i : In p (sorted_by before chosen)). counted p (in_sorted before p chosen i);
  goes_on = λ (p : Pos) (i : In p (sorted_by before chosen)). stays p (in_sorted before p chosen i) (exits log walk p) refl;
} where
  stays : (p : Pos) → In p chosen → (b : Bool) → exits log walk p ≡ b → b ≡ false
  stays p i true e = absurd (goes_on p i (is_exit_by log p (exits_by image log walk is p e)))
  stays p i false e = refl

chosen_stand : (image : Layout) (log : Log) (walk : Walk) (chosen : List Pos) (before : Pos → Pos → Bool) → IsWalk image log walk → CallsFit log → AreCounted log chosen
    → IsChosen log walk (sorted_by before chosen) → IsTotal log chosen (holds before) → (p q : Pos) → In p chosen → In q chosen → before p q ≡ true
    → Stands (woven_steps log walk (sorted_by before chosen)) p q
chosen_stand image log walk chosen before is fit counted choice total p q i j e =
    let order : List Pos = sorted_by before chosen in
    let all : Lists (Counted log) (all_steps log) = steps_list log (all_steps log) (all_are log) in
    weave_first (all_steps log) (chosen_steps log walk order) p q
    (first_left p q (merge (going log) order) (filter (λ p. not (exits log walk p)) (all_steps log))
    (merge_chosen log (holds before) order (going log) p q (chain_going image log walk is) (calls_going image log walk is) choice.counted (counted q j)
    (sorted_keeps log chosen before total chosen (λ (x : Pos) (k : In x chosen). k)) (sorted_in before p chosen i) (total.no_ring p i)
    (λ (x : Pos) (k : In x order) (up : UpTo log q x). elim up [
      | inl same ↦ subst (λ (y : Pos). before p y ≡ true) same e
      | inr later ↦ (let c : In x chosen = in_sorted before x chosen k in total.transitive p q x i j c e (total.agrees q x j c later))
    ])))
    (all.all p (counted p i)) (all.all q (counted q j))

decided_by : (log : Log) (chosen : List Pos) (before : Pos → Pos → Bool) (steps : List Pos) → IsTotal log chosen (holds before) → Distinct steps
    → ((p q : Pos) → In p chosen → In q chosen → before p q ≡ true → Stands steps p q) → (p q : Pos) → In p chosen → In q chosen → Stands steps p q → before p q ≡ true
decided_by log chosen before steps total distinct stand p q i j s =
    elim (total.total p q i j (λ (same : p ≡ q). stands_once p steps distinct (subst (Stands steps p) (sym same) s))) [
      | inl e ↦ e
      | inr back ↦ absurd (stands_once p steps distinct (stands_then p q p steps distinct s (stand q p j i back)))
    ]

pub weaving_law : WeavingLaw
weaving_law image log walk chosen before is fit counted goes_on total =
    let order : List Pos = sorted_by before chosen in
    let choice : IsChosen log walk order = is_chosen image log walk chosen before is counted goes_on in
    let steps : List Pos = woven_steps log walk order in
    let are : AreSteps log steps = woven_are log walk order in
    let lists : Lists (Counted log) steps = steps_list log steps are in
    let stand : (p q : Pos) → In p chosen → In q chosen → before p q ≡ true → Stands steps p q = chosen_stand image log walk chosen before is fit counted choice total in
    let recorded : Keeps (RecordedOrder log) steps =
    keeps_standing (RecordedOrder log) steps lists.once (λ (p q : Pos) (i : In p steps) (j : In q steps) (r : RecordedOrder log p q). recorded_stands image log walk order is fit choice p q r) in
    let exit_last : ExitLast log steps = exits_stand_last image log walk order is fit choice in
    let list : List ℕ = threads_of steps in
    let placed : places list ≡ steps = steps_places log steps are in
    let whole : places (list ++ faulting log.end) ≡ steps ++ fault_places log =
    places-append [] list (faulting log.end) ∙ ap (λ (xs : List Pos). xs ++ places_after (done_after [] list) (faulting log.end)) placed
    ∙ ap (λ (xs : List Pos). steps ++ xs) (fault_after log list log.end (steps_times log steps are)) in
    let in_schedule : (p q : Pos) → In p chosen → In q chosen → before p q ≡ true → Stands (places (list ++ faulting log.end)) p q =
    λ (p q : Pos) (i : In p chosen) (j : In q chosen) (e : before p q ≡ true).
    subst (λ (xs : List Pos). Stands xs p q) (sym whole) (stands_left p q steps (fault_places log) (stand p q i j e)) in
    record {
      steps = steps;
      lists = lists;
      recorded = recorded;
      exit_last = exit_last;
      decided = λ (p q : Pos) (i : In p chosen) (j : In q chosen). (decided_by log chosen before steps total lists.once stand p q i j, stand p q i j);
      schedule = list ++ faulting log.end;
      is = whole;
      decides = λ (p q : Pos) (i : In p chosen) (j : In q chosen). (
        decided_by log chosen before (places (list ++ faulting log.end)) total (distinct_places [] (list ++ faulting log.end)) in_schedule p q i j,
        in_schedule p q i j,
      );
      woven = λ (pairs : List (Pos × Pos)) (within : ArePairs chosen (holds before) pairs). record {
        counted = list;
        whole = refl;
        steps = steps_times log steps are;
        recorded = subst (Keeps (RecordedOrder log)) (sym placed) recorded;
        paired = λ (p q : Pos) (has : Contains pairs (p, q)).
            (let pair : In p chosen × In q chosen × (before p q ≡ true) = within p q has in
            subst (λ (xs : List Pos). Stands xs p q) (sym placed) (stand p q pair.0 pair.1 pair.2));
        exit_last = subst (ExitLast log) (sym whole) (exit_last_by log steps log.end fit refl exit_last);
      };
    }
