-- A node that is there is found at its one place.
use Rattle.std.proofs.Common.{◌≡◌, ℕ, nat_eq, zero, suc, Bool, true, false, cond, List, [], ◌∷◌, ◌++◌, Some, slice_get, refl, sym, ◌∙◌, ap, subst, arith}
use Rattle.std.specs.Cmp.Lexicographic.{pointwise}
use Rattle.std.specs.List.{AllByRecursion, IsDistinct, list_any}
use Rattle.std.proofs.lemmas.Bool.{false≢true}
use Rattle.std.proofs.lemmas.Cmp.{nat_list_eq_equiv}
use Rattle.std.proofs.lemmas.List.Folds.{list_any_at}
use Rattle.std.proofs.lemmas.Map.Keys.{IsDistinct-head, IsDistinct-tail}
use Rattle.std.proofs.lemmas.Option.{slice_get_within, get_or_from_slice_get}
use Rattle.indexmap.specs.IndexSet.{insert_key}
use Rattle.bv_terms.specs.declared.node.Node.{Node}
use Rattle.bv_terms.specs.declared.node.Node.TheVariants as node
use Rattle.bv_terms.specs.declared.term.Term.{Term}
use Rattle.bv_terms.specs.contracts.node.NodePartialEq.TheImpl.{ghosts}
use Rattle.bv_terms.specs.contracts.term.TermPartialEq.TheImpl as of_term
use Rattle.bv_terms.specs.Placed.{ArePlaced, shapes_of}
use Rattle.bv_terms.specs.Shapes.{Shape, shape_of}
use Rattle.bv_terms.specs.Shared.{IsShared}
use Rattle.bv_terms.specs.Values.{node_width, width_at}
use Rattle.bv_terms.proofs.Equal.{eq_terms}
use Rattle.bv_terms.proofs.Terms.{has_node}

pub eq_from_shapes : (a b : Node) → shape_of a ≡ shape_of b → ghosts.eq a b ≡ true
eq_from_shapes (node.Const w v) (node.Const x y) e = grind arith
eq_from_shapes (node.Var w v) (node.Var x y) e = grind arith
eq_from_shapes (node.Not a) (node.Not b) e = grind arith
eq_from_shapes (node.Neg a) (node.Neg b) e = grind arith
eq_from_shapes (node.Bin o a b) (node.Bin p c d) e = grind arith
eq_from_shapes (node.Extract a h l) (node.Extract b i m) e = grind arith
eq_from_shapes (node.ZeroExtend a w) (node.ZeroExtend b x) e = grind arith
eq_from_shapes (node.SignExtend a w) (node.SignExtend b x) e = grind arith
eq_from_shapes (node.Ite a b c) (node.Ite d f g) e = grind arith
eq_from_shapes (node.ByteSelect f b i) (node.ByteSelect g c j) e =
    let bytes : b.now ≡ c.now = cc in
    let same : pointwise nat_eq b.now c.now ≡ true = subst (λ l. pointwise nat_eq b.now l ≡ true) bytes (nat_list_eq_equiv.refl b.now) in
    grind (arith, same)
eq_from_shapes a b e = cc

eq_from_parts : (a b : Term) → shape_of a.node ≡ shape_of b.node → a.width ≡ b.width → of_term.ghosts.eq a b ≡ true
eq_from_parts a b shapes widths = grind (arith, eq_from_shapes a.node b.node shapes)

eq_widths : (a b : Term) → of_term.ghosts.eq a b ≡ true → a.width ≡ b.width
eq_widths a b e = grind arith

-- ---- in a list of keys that differ

fails_at : {K : Type 0} (e : K → K → Bool) (x y : K) (ks : List K) (i : ℕ) → AllByRecursion (λ z. e x z ≡ false) ks → slice_get ks i ≡ Some y → e x y ≡ false
fails_at e x y [] i h at = cc
fails_at e x y (z ∷ ks) zero h at = let same : z ≡ y = cc in subst (λ w. e x w ≡ false) same h.0
fails_at e x y (z ∷ ks) (suc i) h at = fails_at e x y ks i h.1 at

-- equal keys stand at one place
one_place : {K : Type 0} (e : K → K → Bool) (x y : K) (ks : List K) (i j : ℕ) → IsDistinct e ks → slice_get ks i ≡ Some x → slice_get ks j ≡ Some y → e x y ≡ true → e y x ≡ true → i ≡ j
one_place e x y [] i j h at there same back = cc
one_place e x y (z ∷ ks) zero zero h at there same back = refl
one_place e x y (z ∷ ks) zero (suc j) h at there same back =
    let first : z ≡ x = cc in
    absurd (false≢true (sym (subst (λ w. e w y ≡ false) first (fails_at e z y ks j (IsDistinct-head e z ks h) there)) ∙ same))
one_place e x y (z ∷ ks) (suc i) zero h at there same back =
    let first : z ≡ y = cc in
    absurd (false≢true (sym (subst (λ w. e w x ≡ false) first (fails_at e z x ks i (IsDistinct-head e z ks h) at)) ∙ back))
one_place e x y (z ∷ ks) (suc i) (suc j) h at there same back = ap suc (one_place e x y ks i j (IsDistinct-tail e z ks h) at there same back)

-- ---- in a pool

-- the term of a node that is there
record There (terms : List Term) (place : ℕ) (node : Shape) : Type 0 where
  term : Term
  at : slice_get terms place ≡ Some term
  shape : shape_of term.node ≡ node

there : (terms : List Term) (place : ℕ) (node : Shape) → slice_get (shapes_of terms) place ≡ Some node → There terms place node
there [] place node at = cc
there (t ∷ terms) zero node at = record { term = t; at = refl; shape = cc }
there (t ∷ terms) (suc place) node at = let more = there terms place node at in record { term = more.term; at = more.at; shape = more.shape }

-- what `store` ensures where the node is there
pub shared : (old new : List Term) (term : Term) (id : ℕ) (stored : Term) → ArePlaced old
    → term.width ≡ node_width (width_at (shapes_of old)) (shape_of term.node) → new ≡ insert_key of_term.ghosts.eq old term
    → IsDistinct of_term.ghosts.eq new → slice_get new id ≡ Some stored → of_term.ghosts.eq term stored ≡ true
    → slice_get (shapes_of new) id ≡ Some (shape_of term.node) → IsShared (shapes_of old) (shapes_of new) id
shared old new term id stored placed width keys distinct stored_at same found other place its at_other =
    let node = shape_of term.node in
    let at : slice_get (shapes_of old) place ≡ Some node = at_other ∙ sym its ∙ found in
    let here = there old place node at in
    let its_width : term.width ≡ here.term.width = width ∙ sym (has_node (shapes_of old) place node at (placed.fitting place node at)).width ∙ sym (placed.widths place here.term here.at) in
    let equal : of_term.ghosts.eq term here.term ≡ true = eq_from_parts term here.term (sym here.shape) its_width in
    let is_there : list_any (of_term.ghosts.eq term) old ≡ true =
    list_any_at (of_term.ghosts.eq term) old place term (slice_get_within old place here.term here.at)
    (subst (λ t. of_term.ghosts.eq term t ≡ true) (sym (get_or_from_slice_get old place here.term term here.at)) equal) in
    let kept : new ≡ old = keys ∙ ap (λ b. cond b old (old ++ term ∷ [])) is_there in
    let shapes : shape_of stored.node ≡ shape_of here.term.node = sym (eq_terms term stored same) ∙ sym here.shape in
    let widths : stored.width ≡ here.term.width = sym (eq_widths term stored same) ∙ its_width in (
      one_place of_term.ghosts.eq stored here.term new id place distinct stored_at (ap (λ l. slice_get l place) kept ∙ here.at)
          (eq_from_parts stored here.term shapes widths) (eq_from_parts here.term stored (sym shapes) (sym widths)),
      ap shapes_of kept,
    )
