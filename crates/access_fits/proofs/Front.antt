-- A list of steps cut in two: those that are done, the newest first, and those that are later.
use Rattle.std.specs.Prelude.{◌⊎◌, List, [], ◌∷◌, refl}
use Rattle.std.proofs.Common.{sym, subst, inl, inr}
use Rattle.odr_log.specs.declared.log.Pos.{Pos}
use Rattle.guided_walk.specs.Orders.{In, Distinct, Stands}
use Rattle.walk_orders.proofs.Lists.{stands_first, stands_second}

pub record Front (steps done later : List Pos) : Type 0 where
  pub stands : (q p : Pos) → Stands steps q p → Stands done p q ⊎ ((In q done × In p later) ⊎ Stands later q p)
  pub older : (q p : Pos) → Stands done p q → Stands steps q p
  pub across : (q p : Pos) → In q done → In p later → Stands steps q p
  pub newer : (q p : Pos) → Stands later q p → Stands steps q p
  pub done_once : Distinct done
  pub later_once : Distinct later
  pub apart : (q : Pos) → In q done → In q later → ⊥

pub front_none : (steps : List Pos) → Distinct steps → Front steps [] steps
front_none steps once = record {
  stands = λ (q p : Pos) (s : Stands steps q p). inr (inr s);
  older = λ (q p : Pos) (s : Stands [] p q). absurd s;
  across = λ (q p : Pos) (i : In q []) (j : In p steps). absurd i;
  newer = λ (q p : Pos) (s : Stands steps q p). s;
  done_once = tt;
  later_once = once;
  apart = λ (q : Pos) (i : In q []) (j : In q steps). i;
}

pub front_next : (steps done later : List Pos) (p : Pos) → Front steps done (p ∷ later) → Front steps (p ∷ done) later
front_next steps done later p front = record {
  stands = λ (q r : Pos) (s : Stands steps q r). elim (front.stands q r s) [
    | inl x ↦ inl (inr x)
    | inr x ↦ elim x [
      | inl y ↦ elim y.1 [
        | inl e ↦ inl (inl (e, y.0))
        | inr j ↦ inr (inl (inr y.0, j))
      ]
      | inr y ↦ elim y [
        | inl z ↦ inr (inl (inl z.0, z.1))
        | inr z ↦ inr (inr z)
      ]
    ]
  ];
  older = λ (q r : Pos) (s : Stands (p ∷ done) r q). elim s [
    | inl x ↦ front.across q r x.1 (inl x.0)
    | inr x ↦ front.older q r x
  ];
  across = λ (q r : Pos) (i : In q (p ∷ done)) (j : In r later). elim i [
    | inl e ↦ front.newer q r (inl (e, j))
    | inr k ↦ front.across q r k (inr j)
  ];
  newer = λ (q r : Pos) (s : Stands later q r). front.newer q r (inr s);
  done_once = (λ (i : In p done). front.apart p i (inl refl), front.done_once);
  later_once = front.later_once.1;
  apart = λ (q : Pos) (i : In q (p ∷ done)) (j : In q later). elim i [
    | inl e ↦ front.later_once.0 (subst (λ (r : Pos). In r later) (sym e) j)
    | inr k ↦ front.apart q k (inr j)
  ];
}

-- what stands before the next step is done
pub done_before : (steps done later : List Pos) (p q : Pos) → Front steps done (p ∷ later) → Stands steps q p → In q done
done_before steps done later p q front s = elim (front.stands q p s) [
  | inl x ↦ absurd (front.apart p (stands_first p q done x) (inl refl))
  | inr x ↦ elim x [
    | inl y ↦ y.0
    | inr y ↦ elim y [
      | inl z ↦ absurd (front.later_once.0 z.1)
      | inr z ↦ absurd (front.later_once.0 (stands_second q p later z))
    ]
  ]
]

pub before_next : (steps done later : List Pos) (p q : Pos) → Front steps done (p ∷ later) → In q done → Stands steps q p
before_next steps done later p q front i = front.across q p i (inl refl)

-- of two steps, the first of which is before the other, the other one done
pub done_stands : (steps done later : List Pos) (q p : Pos) → Front steps done later → In p done → Stands steps q p → Stands done p q
done_stands steps done later q p front i s = elim (front.stands q p s) [
  | inl x ↦ x
  | inr x ↦ elim x [
    | inl y ↦ absurd (front.apart p i y.1)
    | inr y ↦ absurd (front.apart p i (stands_second q p later y))
  ]
]
