-- Along lists of all counted steps that keep an ordered relation, and have the fault behind them.
use Rattle.std.specs.Prelude.{◌≡◌, ℕ, suc, ◌+◌, ◌<◌, ◌≤◌, ◌⊎◌, ◌&&◌, ◌||◌, Bool, true, false, not, cond, List, [], ◌∷◌, ◌++◌, length, nat_eq, refl}
use Rattle.std.proofs.Common.{sym, ◌∙◌, ap, subst, arith, inl, inr, eqb, eq-eqb}
use Rattle.std.proofs.lemmas.Bool.{and_parts, and_from, eqb-true, false≢true}
use Rattle.std.proofs.lemmas.List.{append-nil, length-append}
use Rattle.elf_image.specs.Layout.{Layout}
use Rattle.odr_log.specs.declared.log.Cause.{Cause}
use Rattle.odr_log.specs.declared.log.End.{End}
use Rattle.odr_log.specs.declared.log.End.TheVariants as end
use Rattle.odr_log.specs.declared.log.Log.{Log}
use Rattle.odr_log.specs.declared.log.Pos.{Pos}
use Rattle.rv_model.specs.Run.{logged}
use Rattle.rv_model.specs.Walk.{Walk, notes_of, IsWalk}
use Rattle.rv_model.specs.CallsFit.{CallsFit}
use Rattle.rv_model.specs.RecordedOrder.{Closure, One, Counted}
use Rattle.guided_walk.specs.Told.{Told, told, last_fault, IsPlace}
use Rattle.guided_walk.specs.Guided.{Given, Visits, at}
use Rattle.guided_walk.specs.Orders.{In, Keeps, Distinct, Lists}
use Rattle.guided_walk.specs.Flow.{Needs, Flow}
use Rattle.guided_walk.specs.Along.{walk_along, HoldsAlong, HasNeeds, fault_by, fault_places}
use Rattle.guided_walk.specs.Ordered.{Ordered}
use Rattle.guided_walk.specs.Law.{holds, OrderedLaw}
use Rattle.guided_walk.proofs.Table.{same_pos, order_law}
use Rattle.guided_walk.proofs.LoggedRun.{fault_steps}
use Rattle.guided_walk.proofs.Whole.{FaultHere, place_kind}
use Rattle.guided_walk.proofs.Placing.{in-append, in_left, keeps_by, keeps_push}
use Rattle.guided_walk.proofs.NeedsOrder.{NeedIs, need_is, counted_place, place_counted}
use Rattle.guided_walk.proofs.ScheduleLaw.{notes_are}

-- ---- the place of the fault

abbrev is_fault_by : Log → End → Pos → Bool
is_fault_by log (end.Faulted t fault) p = nat_eq p.thread t && nat_eq p.step (logged log t).steps
is_fault_by log (end.Exited t code) p = false
is_fault_by log end.AllDone p = false
is_fault_by log end.Cut p = false

abbrev is_fault : Log → Pos → Bool
is_fault log p = is_fault_by log log.end p

uncounted_by : (log : Log) (ended : End) (p : Pos) → is_fault_by log ended p ≡ true → p.step ≡ (logged log p.thread).steps
uncounted_by log (end.Faulted t fault) p e =
    let same : p.thread ≡ t = eqb-true p.thread t (and_parts _ _ e).0 in
    eqb-true p.step (logged log t).steps (and_parts _ _ e).1 ∙ ap (λ (u : ℕ). (logged log u).steps) (sym same)
uncounted_by log (end.Exited t code) p e = absurd (false≢true e)
uncounted_by log end.AllDone p e = absurd (false≢true e)
uncounted_by log end.Cut p e = absurd (false≢true e)

counted_no_fault : (log : Log) (p : Pos) → Counted log p → (b : Bool) → is_fault log p ≡ b → b ≡ false
counted_no_fault log p counted true e = absurd (omega (arith, counted, uncounted_by log log.end p e))
counted_no_fault log p counted false e = refl

fault_is : (log : Log) (t : ℕ) (fault : Cause) (k : ℕ) → log.end ≡ end.Faulted t fault → k ≡ (logged log t).steps → is_fault log (record { thread = t; step = k }) ≡ true
fault_is log t fault k e at =
    ap (λ (ended : End). is_fault_by log ended (record { thread = t; step = k })) e
    ∙ and_from _ _ (eq-eqb t t refl) (eq-eqb k (logged log t).steps at)

-- before the fault, or before in the order
abbrev before_fault : Log → (Pos → Pos → Bool) → Pos → Pos → Bool
before_fault log before q p = not (is_fault log q) && (is_fault log p || before q p)

not_by : (b c : Bool) → (not b && c) ≡ true → b ≡ false
not_by true c e = absurd (false≢true e)
not_by false c e = refl

either_by : (b c : Bool) → b ≡ false → (b || c) ≡ true → c ≡ true
either_by true c e h = absurd (false≢true (sym e))
either_by false c e h = h

or_right : (b c : Bool) → c ≡ true → (b || c) ≡ true
or_right true c e = refl
or_right false c e = e

needs_fault : (image : Layout) (log : Log) (walk : Walk) (before : Pos → Pos → Bool) → IsWalk image log walk → CallsFit log → Ordered image log (holds before)
    → HasNeeds (told log walk) (holds (before_fault log before))
needs_fault image log walk before is fit ordered = record {
  no_ring = λ (p : Pos) (e : before_fault log before p p ≡ true).
      let stays : is_fault log p ≡ false = not_by (is_fault log p) (is_fault log p || before p p) e in
      ordered.no_ring p (either_by (is_fault log p) (before p p) stays (and_parts (not (is_fault log p)) (is_fault log p || before p p) e).1);
  places = λ (q p : Pos) (place : IsPlace (told log walk) p) (n : Needs (told log walk) q p). place_counted log walk q (need_is image log walk is fit q p place n).within;
  first = λ (q p : Pos) (place : IsPlace (told log walk) p) (n : Needs (told log walk) q p).
      let need : NeedIs log walk q p = need_is image log walk is fit q p place n in
      let counted : Counted log q = counted_place image log walk is q need.within in
      and_from _ _ (ap not (counted_no_fault log q counted (is_fault log q) refl)) (elim (place_kind log walk p place) [
        | inl within ↦ or_right (is_fault log p) (before q p) (ordered.flow q p (One (need.flow (counted_place image log walk is p within))))
        | inr fault ↦ ap (λ (b : Bool). b || before q p) (fault_is log p.thread fault.fault p.step fault.ends (fault.at ∙ notes_are image log walk is p.thread))
      ]);
}

-- ---- a list of all counted steps with the fault behind it

tail_keep : (log : Log) (before : Pos → Pos → Bool) (steps : List Pos) → Keeps (holds (before_fault log before)) steps → (tail : List Pos)
    → ((x : Pos) → In x tail → is_fault log x ≡ true) → (tail ≡ [] ⊎ ((x : Pos) × (tail ≡ x ∷ []))) → Keeps (holds (before_fault log before)) (steps ++ tail)
tail_keep log before steps keeps tail faults (inl none) =
    subst (λ (xs : List Pos). Keeps (holds (before_fault log before)) (steps ++ xs)) (sym none) (subst (Keeps (holds (before_fault log before))) (sym (append-nil steps)) keeps)
tail_keep log before steps keeps tail faults (inr one) =
    subst (λ (xs : List Pos). Keeps (holds (before_fault log before)) (steps ++ xs)) (sym one.1)
    (keeps_push (holds (before_fault log before)) steps one.0 keeps
    (λ (y : Pos) (i : In y steps) (r : before_fault log before one.0 y ≡ true).
    false≢true (sym (not_by (is_fault log one.0) (is_fault log y || before one.0 y) r) ∙ faults one.0 (subst (In one.0) (sym one.1) (inl refl)))))

fault_list : (log : Log) (ended : End) → (fault_by log ended ≡ []) ⊎ ((x : Pos) × (fault_by log ended ≡ x ∷ []))
fault_list log (end.Faulted t fault) = inr (record { thread = t; step = (logged log t).steps }, refl)
fault_list log (end.Exited t code) = inl refl
fault_list log end.AllDone = inl refl
fault_list log end.Cut = inl refl

faults_by : (log : Log) (ended : End) (x : Pos) → In x (fault_by log ended) → is_fault_by log ended x ≡ true
faults_by log (end.Faulted t fault) x (inl e) =
    and_from _ _ (eq-eqb x.thread t (ap (λ (p : Pos). p.thread) (sym e))) (eq-eqb x.step (logged log t).steps (ap (λ (p : Pos). p.step) (sym e)))
faults_by log (end.Faulted t fault) x (inr none) = absurd none
faults_by log (end.Exited t code) x i = absurd i
faults_by log end.AllDone x i = absurd i
faults_by log end.Cut x i = absurd i

fault_in : (log : Log) (t : ℕ) (fault : Cause) (p : Pos) → log.end ≡ end.Faulted t fault → p.thread ≡ t → p.step ≡ (logged log t).steps → In p (fault_places log)
fault_in log t fault p e thread step =
    subst (λ (ended : End). In p (fault_by log ended)) (sym e) (inl (same_pos (record { thread = t; step = (logged log t).steps }) p thread step))

in_right : (p : Pos) (xs ys : List Pos) → In p ys → In p (xs ++ ys)
in_right p [] ys i = i
in_right p (x ∷ xs) ys i = inr (in_right p xs ys i)

distinct_push : (xs ys : List Pos) → Distinct xs → Distinct ys → ((p : Pos) → In p xs → In p ys → ⊥) → Distinct (xs ++ ys)
distinct_push [] ys one other apart = other
distinct_push (x ∷ xs) ys one other apart = (
  λ (i : In x (xs ++ ys)). elim (in-append x xs ys i) [ inl j ↦ one.0 j | inr j ↦ apart x (inl refl) j ],
  distinct_push xs ys one.1 other (λ (p : Pos) (i : In p xs) (j : In p ys). apart p (inr i) j),
)

distinct_fault : (log : Log) (ended : End) → Distinct (fault_by log ended)
distinct_fault log (end.Faulted t fault) = (λ (i : ⊥). i, tt)
distinct_fault log (end.Exited t code) = tt
distinct_fault log end.AllDone = tt
distinct_fault log end.Cut = tt

fault_place : (image : Layout) (log : Log) (walk : Walk) → IsWalk image log walk → (ended : End) → log.end ≡ ended → (p : Pos) → In p (fault_by log ended) → IsPlace (told log walk) p
fault_place image log walk is (end.Faulted t fault) e p (inl same) =
    subst (IsPlace (told log walk)) same (omega (arith, fault_steps log walk t fault e, notes_are image log walk is t))
fault_place image log walk is (end.Faulted t fault) e p (inr none) = absurd none
fault_place image log walk is (end.Exited t code) e p i = absurd i
fault_place image log walk is end.AllDone e p i = absurd i
fault_place image log walk is end.Cut e p i = absurd i

whole_list : (image : Layout) (log : Log) (walk : Walk) (steps : List Pos) → IsWalk image log walk → Lists (Counted log) steps → Lists (IsPlace (told log walk)) (steps ++ fault_places log)
whole_list image log walk steps is lists = record {
  all = λ (p : Pos) (place : IsPlace (told log walk) p). elim (place_kind log walk p place) [
    | inl within ↦ in_left p steps (fault_places log) (lists.all p (counted_place image log walk is p within))
    | inr fault ↦ in_right p steps (fault_places log) (fault_in log p.thread fault.fault p fault.ends refl (fault.at ∙ notes_are image log walk is p.thread))
  ];
  only = λ (p : Pos) (i : In p (steps ++ fault_places log)). elim (in-append p steps (fault_places log) i) [
    | inl j ↦ place_counted log walk p (omega (arith, lists.only p j, notes_are image log walk is p.thread))
    | inr j ↦ fault_place image log walk is log.end refl p j
  ];
  once = distinct_push steps (fault_places log) lists.once (distinct_fault log log.end)
      (λ (p : Pos) (i : In p steps) (j : In p (fault_places log)).
      false≢true (sym (counted_no_fault log p (lists.only p i) (is_fault log p) refl) ∙ faults_by log log.end p j));
}

whole_keeps : (log : Log) (before : Pos → Pos → Bool) (steps : List Pos) → Lists (Counted log) steps → Keeps (holds before) steps
    → Keeps (holds (before_fault log before)) (steps ++ fault_places log)
whole_keeps log before steps lists keeps =
    tail_keep log before steps
    (keeps_by (holds before) (holds (before_fault log before)) steps
    (λ (q p : Pos) (i : In q steps) (j : In p steps) (r : before_fault log before q p ≡ true).
    either_by (is_fault log p) (before q p) (counted_no_fault log p (lists.only p j) (is_fault log p) refl)
    (and_parts (not (is_fault log q)) (is_fault log p || before q p) r).1)
    keeps)
    (fault_places log) (λ (x : Pos) (i : In x (fault_places log)). faults_by log log.end x i) (fault_list log log.end)

pub ordered_law : OrderedLaw
ordered_law image log walk given before steps others start other is fit ordered one two keeps kept along =
    order_law image (told log walk) given (before_fault log before) (steps ++ fault_places log) (others ++ fault_places log) start other
    (needs_fault image log walk before is fit ordered) (whole_list image log walk steps is one) (whole_list image log walk others is two)
    (whole_keeps log before steps one keeps) (whole_keeps log before others two kept) along
