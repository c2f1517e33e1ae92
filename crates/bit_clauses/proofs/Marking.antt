-- Marks of terms.
use Rattle.std.proofs.Common.{◌≡◌, ℕ, zero, suc, ◌+◌, ◌<◌, ◌≤◌, ◌⊎◌, Bool, true, false, cond, Some, List, [], ◌∷◌, length, get_or, set, slice_get, refl, sym, ◌∙◌, ap, subst, arith, inl, inr}
use Rattle.std.specs.Prelude.{Contains, replicate}
use Rattle.std.proofs.lemmas.Bool.{cases_eq, false≢true}
use Rattle.std.proofs.lemmas.Option.{same_Some}
use Rattle.std.proofs.lemmas.List.{get_or-set_same, get_or-set_other, length-set, length-replicate}
use Rattle.bv_terms.specs.Fitting.{IsFitting}
use Rattle.bv_terms.specs.Shapes.{Shape, Const, Var, Not, Neg, Bin, Extract, ZeroExtend, SignExtend, Ite, ByteSelect, children}
use Rattle.bv_terms.specs.Variables.{Occurs, Inside}
use Rattle.clause_store.proofs.Members.{Contains-head, Contains-tail, Contains-nil, Contains-cons_cases}
use Rattle.bit_clauses.specs.Marks.{AreBelow, AreNeeded, IsMarked, mark_all, mark_one}
use Rattle.bit_clauses.specs.Bits.{StandsOn}

pub below_fitting : (widths : ℕ → ℕ) (id count : ℕ) (node : Shape) → id ≤ count → IsFitting widths id node → AreBelow count node
below_fitting widths id count (Const width value) h fit = tt
below_fitting widths id count (Var width number) h fit = tt
below_fitting widths id count (Not of) h fit = omega (arith, h, fit)
below_fitting widths id count (Neg of) h fit = omega (arith, h, fit)
below_fitting widths id count (Bin op left right) h fit = (omega (arith, h, fit.0), omega (arith, h, fit.1))
below_fitting widths id count (Extract of high low) h fit = omega (arith, h, fit.0)
below_fitting widths id count (ZeroExtend of width) h fit = omega (arith, h, fit.0)
below_fitting widths id count (SignExtend of width) h fit = omega (arith, h, fit.0)
below_fitting widths id count (Ite test first second) h fit = (omega (arith, h, fit.0), omega (arith, h, fit.1), omega (arith, h, fit.2))
below_fitting widths id count (ByteSelect first bytes index) h fit = omega (arith, h, fit)

pub child_below : (count : ℕ) (node : Shape) (child : ℕ) → AreBelow count node → Contains (children node) child → child < count
child_below count (Const width value) child h listed = absurd (Contains-nil child listed)
child_below count (Var width number) child h listed = absurd (Contains-nil child listed)
child_below count (Not of) child h listed = one count of child h listed
  where
    one : (count of child : ℕ) → of < count → Contains (of ∷ []) child → child < count
    one count of child h listed = elim (Contains-cons_cases of [] child listed) [ inl e ↦ omega (arith, e, h) | inr n ↦ absurd (Contains-nil child n) ]
child_below count (Neg of) child h listed = elim (Contains-cons_cases of [] child listed) [ inl e ↦ omega (arith, e, h) | inr n ↦ absurd (Contains-nil child n) ]
child_below count (Bin op left right) child h listed = elim (Contains-cons_cases left (right ∷ []) child listed) [
  | inl e ↦ omega (arith, e, h.0)
  | inr more ↦ elim (Contains-cons_cases right [] child more) [ inl e ↦ omega (arith, e, h.1) | inr n ↦ absurd (Contains-nil child n) ]
]
child_below count (Extract of high low) child h listed = elim (Contains-cons_cases of [] child listed) [ inl e ↦ omega (arith, e, h) | inr n ↦ absurd (Contains-nil child n) ]
child_below count (ZeroExtend of width) child h listed = elim (Contains-cons_cases of [] child listed) [ inl e ↦ omega (arith, e, h) | inr n ↦ absurd (Contains-nil child n) ]
child_below count (SignExtend of width) child h listed = elim (Contains-cons_cases of [] child listed) [ inl e ↦ omega (arith, e, h) | inr n ↦ absurd (Contains-nil child n) ]
child_below count (Ite test first second) child h listed = elim (Contains-cons_cases test (first ∷ second ∷ []) child listed) [
  | inl e ↦ omega (arith, e, h.0)
  | inr more ↦ elim (Contains-cons_cases first (second ∷ []) child more) [
    | inl e ↦ omega (arith, e, h.1)
    | inr last ↦ elim (Contains-cons_cases second [] child last) [ inl e ↦ omega (arith, e, h.2) | inr n ↦ absurd (Contains-nil child n) ]
  ]
]
child_below count (ByteSelect first bytes index) child h listed = elim (Contains-cons_cases index [] child listed) [ inl e ↦ omega (arith, e, h) | inr n ↦ absurd (Contains-nil child n) ]

marks_count : (marks : List Bool) (ids : List ℕ) → length (mark_all marks ids) ≡ length marks
marks_count marks [] = refl
marks_count marks (id ∷ more) = marks_count (set marks id true) more ∙ length-set marks id true

pub still_marked : (marks : List Bool) (ids : List ℕ) (j : ℕ) → IsMarked marks j → IsMarked (mark_all marks ids) j
still_marked marks [] j h = h
still_marked marks (id ∷ more) j h = still_marked (set marks id true) more j (elim (cases_eq j id) [
  | inl e ↦ subst (λ n. IsMarked (set marks id true) n) (sym e) (get_or-set_same marks id true false (subst (λ n. n < length marks) e (marked_within marks j h)))
  | inr other ↦ get_or-set_other marks id j true false other ∙ h
])
  where
    marked_within : (marks : List Bool) (j : ℕ) → IsMarked marks j → j < length marks
    marked_within [] j h = absurd (false≢true h)
    marked_within (b ∷ more) zero h = omega arith
    marked_within (b ∷ more) (suc j) h = omega (arith, marked_within more j h)

pub newly_marked : (marks : List Bool) (ids : List ℕ) (j : ℕ) → j < length marks → Contains ids j → IsMarked (mark_all marks ids) j
newly_marked marks [] j h listed = absurd (Contains-nil j listed)
newly_marked marks (id ∷ more) j h listed = elim (Contains-cons_cases id more j listed) [
  | inl e ↦ still_marked (set marks id true) more j (subst (λ n. IsMarked (set marks id true) n) e (get_or-set_same marks id true false (omega (arith, h, e))))
  | inr later ↦ newly_marked (set marks id true) more j (omega (arith, h, length-set marks id true)) later
]

pub marked_why : (marks : List Bool) (ids : List ℕ) (j : ℕ) → IsMarked (mark_all marks ids) j → IsMarked marks j ⊎ Contains ids j
marked_why marks [] j h = inl h
marked_why marks (id ∷ more) j h = elim (marked_why (set marks id true) more j h) [
  | inr later ↦ inr (Contains-tail id more j later)
  | inl now ↦ elim (cases_eq j id) [
    | inl e ↦ inr (subst (λ n. Contains (id ∷ more) n) (sym e) (Contains-head id more))
    | inr other ↦ inl (sym (get_or-set_other marks id j true false other) ∙ now)
  ]
]

-- the terms above some have been gone through
pub record IsMarking (nodes : List Shape) (root : ℕ) (marks : List Bool) (i : ℕ) : Type 0 where
  pub count : length marks ≡ root + 1
  pub root_marked : IsMarked marks root
  pub closed : (id child : ℕ) (node : Shape) → root < id + i → IsMarked marks id → slice_get nodes id ≡ Some node → Contains (children node) child → IsMarked marks child
  pub only : (id : ℕ) → IsMarked marks id → StandsOn nodes root id

blank : (n j : ℕ) → IsMarked (replicate n false) j → ⊥
blank zero j h = false≢true h
blank (suc n) zero h = false≢true h
blank (suc n) (suc j) h = blank n j h

marked_inside : (marks : List Bool) (j : ℕ) → IsMarked marks j → j < length marks
marked_inside [] j h = absurd (false≢true h)
marked_inside (b ∷ more) zero h = omega arith
marked_inside (b ∷ more) (suc j) h = omega (arith, marked_inside more j h)

pub marking-none : (nodes : List Shape) (root : ℕ) (marks : List Bool) → marks ≡ replicate (root + 1) false → IsMarking nodes root (set marks root true) 0
marking-none nodes root marks e =
    let count : length marks ≡ root + 1 = ap (λ (l : List Bool). length l) e ∙ length-replicate (root + 1) false in
    let whole : length (set marks root true) ≡ root + 1 = length-set marks root true ∙ count in
    record {
      count = whole;
      root_marked = get_or-set_same marks root true false (omega (arith, count));
      closed = λ id child node far marked found listed. absurd (omega (arith, far, marked_inside (set marks root true) id marked, whole));
      only = λ id marked. elim (cases_eq id root) [
        | inl at ↦ λ w n o. subst (λ k. Occurs nodes w n k) at o
        | inr other ↦ absurd (blank (root + 1) id (subst (λ (l : List Bool). IsMarked l id) e (sym (get_or-set_other marks root id true false other) ∙ marked)))
      ];
    }

marking_step : (nodes : List Shape) (root at i : ℕ) (node : Shape) (marks after : List Bool) (b : Bool) → at + (i + 1) ≡ root + 1 → slice_get nodes at ≡ Some node → AreBelow at node
    → IsMarking nodes root marks i → get_or marks at false ≡ b → after ≡ cond b (mark_all marks (children node)) marks → IsMarking nodes root after (i + 1)
marking_step nodes root at i node marks after true place found below before marked e = subst (λ (l : List Bool). IsMarking nodes root l (i + 1)) (sym e) (record {
  count = marks_count marks (children node) ∙ before.count;
  root_marked = still_marked marks (children node) root before.root_marked;
  closed = λ id child other far here there listed. elim (marked_why marks (children node) id here) [
    | inl old ↦ elim (cases_eq id at) [
      | inl same ↦
          let node_is : other ≡ node = same_Some other node (sym there ∙ ap (λ n. slice_get nodes n) same ∙ found) in
          let inside = subst (λ (s : Shape). Contains (children s) child) node_is listed in
          newly_marked marks (children node) child (omega (arith, child_below at node child below inside, before.count, place)) inside
      | inr different ↦ still_marked marks (children node) child (before.closed id child other (omega (arith, far, place, different)) old there listed)
    ]
    | inr new ↦ absurd (omega (arith, child_below at node id below new, far, place))
  ];
  only = λ id here. elim (marked_why marks (children node) id here) [
    | inl old ↦ before.only id old
    | inr new ↦ λ w n o. before.only at marked w n (Inside at id node found new o)
  ];
})
marking_step nodes root at i node marks after false place found below before marked e = subst (λ (l : List Bool). IsMarking nodes root l (i + 1)) (sym e) (record {
  count = before.count;
  root_marked = before.root_marked;
  closed = λ id child other far here there listed. elim (cases_eq id at) [
    | inl same ↦ absurd (false≢true (sym marked ∙ ap (λ n. get_or marks n false) (sym same) ∙ here))
    | inr different ↦ before.closed id child other (omega (arith, far, place, different)) here there listed
  ];
  only = before.only;
})

pub marking-more : (nodes : List Shape) (root at i : ℕ) (node : Shape) (marks after : List Bool) → at + (i + 1) ≡ root + 1 → slice_get nodes at ≡ Some node → AreBelow at node
    → IsMarking nodes root marks i → after ≡ mark_one marks at node → IsMarking nodes root after (i + 1)
marking-more nodes root at i node marks after place found below before e = marking_step nodes root at i node marks after (get_or marks at false) place found below before refl e

pub marking-all : (nodes : List Shape) (root : ℕ) (marks : List Bool) (i : ℕ) → length marks ≤ i → IsMarking nodes root marks i → AreNeeded nodes root marks
marking-all nodes root marks i h done = record {
  count = done.count;
  root_marked = done.root_marked;
  closed = λ id child node here there listed. done.closed id child node (omega (arith, h, done.count)) here there listed;
  only = done.only;
}
