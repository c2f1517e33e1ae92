-- The equations of a walk have one solution, which the walk along any list finds that has each step after what it is made of.
use Rattle.std.specs.Prelude.{◌≡◌, ℕ, zero, suc, ◌⊎◌, Bool, true, false, ◌&&◌, cond, List, [], ◌∷◌, nat_eq, slice_index_or, Option, Some, None, refl}
use Rattle.std.proofs.Common.{sym, ◌∙◌, ap, subst, inl, inr, eq-eqb, eqb-true}
use Rattle.std.proofs.lemmas.Bool.{and_parts, and_from}
use Rattle.elf_image.specs.Layout.{Layout}
use Rattle.odr_log.specs.declared.log.Pos.{Pos}
use Rattle.rv_model.specs.declared.state.Local.{Local}
use Rattle.rv_model.specs.Thread.{no_thread}
use Rattle.rv_model.specs.Calls.{first_argument}
use Rattle.rv_model.specs.Step.{child_of}
use Rattle.rv_model.specs.Noted.{note_in}
use Rattle.guided_walk.specs.Told.{Told, IsPlace, noted}
use Rattle.guided_walk.specs.Guided.{Given, Seen, Visit, Visits, at, went, handed, seen_before, ended_with, joined_from, joins, visit_from, visit, IsGuided, Guided}
use Rattle.guided_walk.specs.Orders.{In, Keeps, Distinct, Lists}
use Rattle.guided_walk.specs.Flow.{Needs, NeedsThread, NeedsJoin}
use Rattle.guided_walk.specs.Along.{put_at, walk_along, HoldsAlong, HasNeeds}
use Rattle.guided_walk.specs.Law.{holds, OrderLaw, TableLaw}

-- ---- a step is what the steps that it needs make of it

-- two tables have the same visit of a step
pub record Agree (v w : Visits) (q : Pos) : Type 0 where
  pub same : at v q ≡ at w q

same_handed : (told : Told) (v w : Visits) (m : Option Pos) → ((q : Pos) → m ≡ Some q → Agree v w q) → handed told v m ≡ handed told w m
same_handed told v w None agree = refl
same_handed told v w (Some q) agree =
    ap (λ (x : Visit). (slice_index_or (child_of x.seen.local (noted told q)) 0 no_thread).local) (agree q refl).same

same_ended : (v w : Visits) (m : Option Pos) → ((q : Pos) → m ≡ Some q → Agree v w q) → ended_with v m ≡ ended_with w m
same_ended v w None agree = refl
same_ended v w (Some q) agree = ap (λ (x : Visit). first_argument x.seen.local) (agree q refl).same

same_joined : (told : Told) (v w : Visits) (target : Option ℕ) → ((q : Pos) → NeedsJoin told q target → Agree v w q)
    → joined_from told v target ≡ joined_from told w target
same_joined told v w None agree = refl
same_joined told v w (Some target) agree = same_ended v w (told.ender target) agree

pub same_seen : (image : Layout) (told : Told) (v w : Visits) (thread step : ℕ) → ((q : Pos) → NeedsThread told q thread step → Agree v w q)
    → seen_before image told v thread step ≡ seen_before image told w thread step
same_seen image told v w thread (suc step) agree =
    let q : Pos = record { thread = thread; step = step } in
    ap (λ (x : Visit). went image x.seen x.outcome) (agree q refl).same
same_seen image told v w zero zero agree = refl
same_seen image told v w (suc before) zero agree =
    ap (λ (local : Local). let seen : Seen = record { local = local; link = None } in seen) (same_handed told v w (told.maker (suc before)) agree)

-- tables that agree at what a step needs make the same visit of it
pub same_visit : (image : Layout) (told : Told) (given : Given) (v w : Visits) (p : Pos) → ((q : Pos) → Needs told q p → Agree v w q)
    → visit image told given v p.thread p.step ≡ visit image told given w p.thread p.step
same_visit image told given v w p agree =
    ap (λ (seen : Seen). visit_from image told given p.thread p.step seen (joined_from told v (joins (noted told p))))
    (same_seen image told v w p.thread p.step (λ (q : Pos) (n : NeedsThread told q p.thread p.step). agree q (inl n)))
    ∙ ap (visit_from image told given p.thread p.step (seen_before image told w p.thread p.step))
    (same_joined told v w (joins (noted told p)) (λ (q : Pos) (n : NeedsJoin told q (joins (noted told p))). agree q (inr n)))

-- ---- the table that is filled along a list

pub at_put : (p : Pos) (here : Visit) (v : Visits) → at (put_at p here v) p ≡ here
at_put p here v = ap (λ (b : Bool). cond b here (at v p)) (and_from _ _ (eq-eqb p.thread p.thread refl) (eq-eqb p.step p.step refl))

pub same_pos : (p q : Pos) → q.thread ≡ p.thread → q.step ≡ p.step → p ≡ q
same_pos p q thread step =
    ap (λ (t : ℕ). let r : Pos = record { thread = t; step = p.step } in r) (sym thread)
    ∙ ap (λ (s : ℕ). let r : Pos = record { thread = q.thread; step = s } in r) (sym step)

not_here : (p q : Pos) → (p ≡ q → ⊥) → (b : Bool) → (nat_eq q.thread p.thread && nat_eq q.step p.step) ≡ b → b ≡ false
not_here p q other true e =
    absurd (other (same_pos p q (eqb-true q.thread p.thread (and_parts _ _ e).0) (eqb-true q.step p.step (and_parts _ _ e).1)))
not_here p q other false e = refl

pub at_other : (p q : Pos) (here : Visit) (v : Visits) → (p ≡ q → ⊥) → at (put_at p here v) q ≡ at v q
at_other p q here v other =
    ap (λ (b : Bool). cond b here (at v q)) (not_here p q other (nat_eq q.thread p.thread && nat_eq q.step p.step) refl)

walk_keeps : (image : Layout) (told : Told) (given : Given) (ps : List Pos) (v : Visits) (q : Pos) → (In q ps → ⊥)
    → at (walk_along image told given ps v) q ≡ at v q
walk_keeps image told given [] v q out = refl
walk_keeps image told given (p ∷ ps) v q out =
    walk_keeps image told given ps (put_at p (visit image told given v p.thread p.step) v) q (λ (i : In q ps). out (inr i))
    ∙ at_other p q (visit image told given v p.thread p.step) v (λ (e : p ≡ q). out (inl e))

-- Each step stands after what it needs; of the steps done the newest stands first.
abbrev pub Settled : Told → List Pos → List Pos → Type 0
Settled told done [] = Unit {0}
Settled told done (p ∷ later) = ((q : Pos) → Needs told q p → In q done) × Settled told (p ∷ done) later

-- no step of one list stands in the other
abbrev pub Apart : List Pos → List Pos → Type 0
Apart done later = (q : Pos) → In q done → In q later → ⊥

pub apart_push : (done : List Pos) (p : Pos) (later : List Pos) → Distinct (p ∷ later) → Apart done (p ∷ later) → Apart (p ∷ done) later
apart_push done p later distinct apart q (inl e) i = distinct.0 (subst (λ (r : Pos). In r later) (sym e) i)
apart_push done p later distinct apart q (inr d) i = apart q d (inr i)

pub walk_solves : (image : Layout) (told : Told) (given : Given) (done ps : List Pos) (v : Visits) → Settled told done ps → Distinct ps → Apart done ps
    → (p : Pos) → In p ps → at (walk_along image told given ps v) p ≡ visit image told given (walk_along image told given ps v) p.thread p.step
walk_solves image told given done [] v settled distinct apart p i = absurd i
walk_solves image told given done (x ∷ ps) v settled distinct apart p (inr i) =
    walk_solves image told given (x ∷ done) ps (put_at x (visit image told given v x.thread x.step) v) settled.1 distinct.1
    (apart_push done x ps distinct apart) p i
walk_solves image told given done (x ∷ ps) v settled distinct apart p (inl e) =
    let here : Visit = visit image told given v x.thread x.step in
    let w : Visits = walk_along image told given (x ∷ ps) v in
    let kept : (q : Pos) → In q done → Agree v w q =
    λ (q : Pos) (d : In q done). record { same = sym (walk_keeps image told given (x ∷ ps) v q (apart q d)) } in
    subst (λ (r : Pos). at w r ≡ visit image told given w r.thread r.step) e
    (walk_keeps image told given ps (put_at x here v) x distinct.0 ∙ at_put x here v
    ∙ same_visit image told given v w x (λ (q : Pos) (n : Needs told q x). kept q (settled.0 q n)))

-- ---- two solutions agree

abbrev pub Solves : Layout → Told → Given → Visits → List Pos → Type 0
Solves image told given v ps = (p : Pos) → In p ps → at v p ≡ visit image told given v p.thread p.step

pub one_solution : (image : Layout) (told : Told) (given : Given) (v w : Visits) (done ps : List Pos) → Settled told done ps
    → ((q : Pos) → In q done → Agree v w q) → Solves image told given v ps → Solves image told given w ps
    → (p : Pos) → In p ps → at v p ≡ at w p
one_solution image told given v w done [] settled agree one two p i = absurd i
one_solution image told given v w done (x ∷ ps) settled agree one two p i =
    let here : at v x ≡ at w x =
    one x (inl refl) ∙ same_visit image told given v w x (λ (q : Pos) (n : Needs told q x). agree q (settled.0 q n)) ∙ sym (two x (inl refl)) in
    let on : (q : Pos) → In q (x ∷ done) → Agree v w q = λ (q : Pos) (d : In q (x ∷ done)).
    elim d [
      | inl e ↦ record { same = subst (λ (r : Pos). at v r ≡ at w r) e here }
      | inr older ↦ agree q older
    ] in
    elim i [
      | inl e ↦ subst (λ (r : Pos). at v r ≡ at w r) e here
      | inr later ↦ one_solution image told given v w (x ∷ done) ps settled.1 on
          (λ (q : Pos) (j : In q ps). one q (inr j)) (λ (q : Pos) (j : In q ps). two q (inr j)) p later
    ]

-- ---- lists that keep an order

-- a place that stands before another one in a list that keeps the order is done by then
need_done : (before : Pos → Pos → Type 0) (told : Told) → HasNeeds told before → (done : List Pos) (p : Pos) (later : List Pos)
    → ((q : Pos) → IsPlace told q → In q done ⊎ In q (p ∷ later)) → Keeps before (p ∷ later) → IsPlace told p
    → (q : Pos) → Needs told q p → In q done
need_done before told needs done p later all keeps place q n = elim (all q (needs.places q p place n)) [
  | inl d ↦ d
  | inr i ↦ elim i [
    | inl e ↦ absurd (needs.no_ring p (subst (λ (r : Pos). before r p) (sym e) (needs.first q p place n)))
    | inr j ↦ absurd (keeps.0 q j (needs.first q p place n))
  ]
]

all_on : (told : Told) (done : List Pos) (p : Pos) (later : List Pos) → ((q : Pos) → IsPlace told q → In q done ⊎ In q (p ∷ later))
    → (q : Pos) → IsPlace told q → In q (p ∷ done) ⊎ In q later
all_on told done p later all q place = elim (all q place) [
  | inl d ↦ inl (inr d)
  | inr i ↦ elim i [ inl e ↦ inl (inl e) | inr j ↦ inr j ]
]

pub settled_by : (before : Pos → Pos → Type 0) (told : Told) → HasNeeds told before → (done ps : List Pos)
    → ((q : Pos) → IsPlace told q → In q done ⊎ In q ps) → Keeps before ps → ((p : Pos) → In p ps → IsPlace told p) → Settled told done ps
settled_by before told needs done [] all keeps only = tt
settled_by before told needs done (p ∷ later) all keeps only = (
  need_done before told needs done p later all keeps (only p (inl refl)),
  settled_by before told needs (p ∷ done) later (all_on told done p later all) keeps.1 (λ (q : Pos) (i : In q later). only q (inr i)),
)

pub settled_list : (before : Pos → Pos → Type 0) (told : Told) (ps : List Pos) → HasNeeds told before → Lists (IsPlace told) ps → Keeps before ps → Settled told [] ps
settled_list before told ps needs lists keeps =
    settled_by before told needs [] ps (λ (q : Pos) (place : IsPlace told q). inr (lists.all q place)) keeps lists.only

pub apart_none : (ps : List Pos) → Apart [] ps
apart_none ps q d i = absurd d

-- ---- the laws

pub along_solves : (image : Layout) (told : Told) (given : Given) (before : Pos → Pos → Bool) (ps : List Pos) (v : Visits)
    → HasNeeds told (holds before) → Lists (IsPlace told) ps → Keeps (holds before) ps
    → Solves image told given (walk_along image told given ps v) ps
along_solves image told given before ps v needs lists keeps p i =
    walk_solves image told given [] ps v (settled_list (holds before) told ps needs lists keeps) lists.once (apart_none ps) p i

pub table_agrees : (image : Layout) (told : Told) (given : Given) (before : Pos → Pos → Bool) (ps : List Pos) (v w : Visits)
    → HasNeeds told (holds before) → Lists (IsPlace told) ps → Keeps (holds before) ps
    → ((p : Pos) → IsPlace told p → at w p ≡ visit image told given w p.thread p.step)
    → (p : Pos) → IsPlace told p → at w p ≡ at (walk_along image told given ps v) p
table_agrees image told given before ps v w needs lists keeps solves p place =
    one_solution image told given w (walk_along image told given ps v) [] ps (settled_list (holds before) told ps needs lists keeps)
    (λ (q : Pos) (d : In q []). absurd d) (λ (q : Pos) (i : In q ps). solves q (lists.only q i))
    (along_solves image told given before ps v needs lists keeps) p (lists.all p place)

pub table_law : TableLaw
table_law image told given before ps v needs lists keeps = (
  (
    λ (along : HoldsAlong image told given ps v). (
      walk_along image told given ps v,
      record {
        solves = λ (p : Pos) (place : IsPlace told p). along_solves image told given before ps v needs lists keeps p (lists.all p place);
        shows = λ (p : Pos) (place : IsPlace told p). along p (lists.all p place);
      },
    ),
    λ (guided : Guided image told given) (p : Pos) (i : In p ps).
        ap (λ (x : Visit). note_in x.outcome) (sym (table_agrees image told given before ps v guided.0 needs lists keeps guided.1.solves p (lists.only p i)))
        ∙ guided.1.shows p (lists.only p i),
  ),
  λ (visits : Visits) (guided : IsGuided image told given visits). table_agrees image told given before ps v visits needs lists keeps guided.solves,
)

pub order_law : OrderLaw
order_law image told given before ps qs v u needs one two keeps kept along =
    let agree : (p : Pos) → IsPlace told p → at (walk_along image told given ps v) p ≡ at (walk_along image told given qs u) p =
    table_agrees image told given before qs u (walk_along image told given ps v) needs two kept
    (λ (p : Pos) (place : IsPlace told p). along_solves image told given before ps v needs one keeps p (one.all p place)) in (
      λ (p : Pos) (i : In p qs).
          ap (λ (x : Visit). note_in x.outcome) (sym (agree p (two.only p i))) ∙ along p (one.all p (two.only p i)),
      agree,
    )
