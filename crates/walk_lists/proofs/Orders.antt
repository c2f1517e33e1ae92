-- Along a whole list in which each step stands after what it is made of, the walk is the guided walk.
use Rattle.std.specs.Prelude.{◌≡◌, List, [], ◌∷◌, ◌++◌, refl}
use Rattle.std.proofs.Common.{sym, ◌∙◌, ap, subst, inl, inr}
use Rattle.odr_log.specs.declared.log.Pos.{Pos}
use Rattle.rv_model.specs.Noted.{note_in}
use Rattle.guided_walk.specs.Told.{Told, IsPlace}
use Rattle.guided_walk.specs.Guided.{Visit, Visits, at, IsGuided}
use Rattle.guided_walk.specs.Orders.{In, Distinct}
use Rattle.guided_walk.specs.Flow.{Needs}
use Rattle.guided_walk.specs.Along.{walk_along}
use Rattle.guided_walk.proofs.Table.{Settled, Solves, walk_solves, one_solution, apart_none}
use Rattle.guided_walk.proofs.Placing.{in-append}
use Rattle.walk_lists.specs.Order.{IsOrder}
use Rattle.walk_lists.specs.Law.{ListLaw}

-- ---- what such a list is

pushed : (done others : List Pos) (p : Pos) → ((q : Pos) → In q done → In q others) → (q : Pos) → In q (done ++ p ∷ []) → In q (p ∷ others)
pushed done others p within q i = elim (in-append q done (p ∷ []) i) [
  | inl j ↦ inr (within q j)
  | inr j ↦ elim j [ inl e ↦ inl e | inr none ↦ absurd none ]
]

settled_by : (told : Told) (done others steps : List Pos) → ((q : Pos) → In q done → In q others) → IsOrder told done steps → Settled told others steps
settled_by told done others [] within order = tt
settled_by told done others (p ∷ later) within order = (
  λ (q : Pos) (need : Needs told q p). within q (order.0.needs q need),
  settled_by told (done ++ p ∷ []) (p ∷ others) later (pushed done others p within) order.1,
)

in_front : (q : Pos) (xs ys : List Pos) → In q xs → In q (xs ++ ys)
in_front q [] ys i = absurd i
in_front q (x ∷ xs) ys (inl e) = inl e
in_front q (x ∷ xs) ys (inr i) = inr (in_front q xs ys i)

in_last : (p : Pos) (xs : List Pos) → In p (xs ++ p ∷ [])
in_last p [] = inl refl
in_last p (x ∷ xs) = inr (in_last p xs)

-- no step that is done comes again
not_again : (told : Told) (done steps : List Pos) (q : Pos) → IsOrder told done steps → In q done → In q steps → ⊥
not_again told done [] q order d i = i
not_again told done (p ∷ later) q order d (inl e) = order.0.new (subst (λ (x : Pos). In x done) (sym e) d)
not_again told done (p ∷ later) q order d (inr i) = not_again told (done ++ p ∷ []) later q order.1 (in_front q done (p ∷ []) d) i

distinct_by : (told : Told) (done steps : List Pos) → IsOrder told done steps → Distinct steps
distinct_by told done [] order = tt
distinct_by told done (p ∷ later) order = (
  λ (i : In p later). not_again told (done ++ p ∷ []) later p order.1 (in_last p done) i,
  distinct_by told (done ++ p ∷ []) later order.1,
)

places_by : (told : Told) (done steps : List Pos) → IsOrder told done steps → (p : Pos) → In p steps → IsPlace told p
places_by told done [] order p i = absurd i
places_by told done (x ∷ later) order p (inl e) = subst (IsPlace told) e order.0.place
places_by told done (x ∷ later) order p (inr i) = places_by told (done ++ x ∷ []) later order.1 p i

-- ---- the law

pub list_law : ListLaw
list_law image told given steps start order all =
    let settled : Settled told [] steps = settled_by told [] [] steps (λ (q : Pos) (i : In q []). i) order in
    let visits : Visits = walk_along image told given steps start in
    let solves : Solves image told given visits steps = walk_solves image told given [] steps start settled (distinct_by told [] steps order) (apart_none steps) in
    let same : (other : Visits) → IsGuided image told given other → (p : Pos) → In p steps → at other p ≡ at visits p =
    (λ other guided p i. one_solution image told given other visits [] steps settled (λ (q : Pos) (d : In q []). absurd d)
    (λ (q : Pos) (j : In q steps). guided.solves q (places_by told [] steps order q j)) solves p i) in
    record {
      holds = (
        λ along. (visits, record { solves = λ p place. solves p (all p place); shows = λ p place. along p (all p place) }),
        λ guided p i. ap (λ (x : Visit). note_in x.outcome) (sym (same guided.0 guided.1 p i)) ∙ guided.1.shows p (places_by told [] steps order p i),
      );
      visits = λ other guided p place. same other guided p (all p place);
    }
