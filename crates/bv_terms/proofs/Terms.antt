-- Widths and values of the terms of a list of nodes: those before a node settle it, and later ones change nothing.
use Rattle.std.proofs.Common.{◌≡◌, ℕ, suc, zero, ◌<◌, cond, List, [], ◌∷◌, ◌++◌, map, length, take, drop, Some, slice_get, refl, sym, ◌∙◌, ap, subst, arith, length-append, inl, inr, nat_eq}
use Rattle.std.specs.Prelude.{slice_index, Contains}
use Rattle.std.proofs.lemmas.List.{map_push, take-append-drop, length-take-le}
use Rattle.std.proofs.lemmas.Bool.{cases_lt}
use Rattle.std.proofs.lemmas.List.Folds.{fold_along}
use Rattle.std.proofs.lemmas.Option.{slice_get_within}
use Rattle.bv_terms.specs.declared.node.BinOp.{BinOp}
use Rattle.bv_terms.specs.BitVectors.{BitVector, bin_width, bin_value, not_value, neg_value, extract_value, sign_extend_value, byte_value}
use Rattle.bv_terms.specs.Shapes.{Shape, Const, Var, Not, Neg, Bin, Extract, ZeroExtend, SignExtend, Ite, ByteSelect, children}
use Rattle.bv_terms.specs.Values.{Assignment, node_width, node_value, gathered, next_width, next_term, known_term, width_at, value_at, term_at, KeepsTerms}
use Rattle.bv_terms.specs.Fitting.{IsFitting, AreOperands}
use Rattle.bv_terms.specs.Placed.{AreFitting}
use Rattle.bv_terms.specs.Variables.{Occurs, Here, Inside, OccursOnlyBy, IsTermOf}
use Rattle.bv_terms.proofs.Gathered.{gathered-append, gathered-get, gathered-push, slice_get-append, slice_get-push}

-- ---- a node looks at its children alone

pub node_width-same : (f g : ℕ → ℕ) (count : ℕ) (node : Shape) → IsFitting f count node → ((c : ℕ) → c < count → f c ≡ g c) → node_width f node ≡ node_width g node
node_width-same f g count (Const width value) fit same = refl
node_width-same f g count (Var width number) fit same = refl
node_width-same f g count (Not of) fit same = same of fit
node_width-same f g count (Neg of) fit same = same of fit
node_width-same f g count (Bin op left right) fit same = ap (λ a. bin_width op a (f right)) (same left fit.0) ∙ ap (λ b. bin_width op (g left) b) (same right fit.1)
node_width-same f g count (Extract of high low) fit same = refl
node_width-same f g count (ZeroExtend of width) fit same = refl
node_width-same f g count (SignExtend of width) fit same = refl
node_width-same f g count (Ite test first second) fit same = same first fit.1
node_width-same f g count (ByteSelect first bytes index) fit same = refl

pub node_value-same : (w : Assignment) (f : ℕ → ℕ) (s t : ℕ → BitVector) (count : ℕ) (node : Shape) → IsFitting f count node → ((c : ℕ) → c < count → s c ≡ t c) → node_value w s node ≡ node_value w t node
node_value-same w f s t count (Const width value) fit same = refl
node_value-same w f s t count (Var width number) fit same = refl
node_value-same w f s t count (Not of) fit same = ap not_value (same of fit)
node_value-same w f s t count (Neg of) fit same = ap neg_value (same of fit)
node_value-same w f s t count (Bin op left right) fit same = ap (λ a. bin_value op a (s right)) (same left fit.0) ∙ ap (λ b. bin_value op (t left) b) (same right fit.1)
node_value-same w f s t count (Extract of high low) fit same = ap (λ a. extract_value a high low) (same of fit.0)
node_value-same w f s t count (ZeroExtend of width) fit same = ap (λ (a : BitVector). a.value) (same of fit.0)
node_value-same w f s t count (SignExtend of width) fit same = ap (λ a. sign_extend_value a width) (same of fit.0)
node_value-same w f s t count (Ite test first second) fit same =
    ap (λ (a : BitVector). cond (nat_eq a.value 1) (s first).value (s second).value) (same test fit.0)
    ∙ ap (λ (a : BitVector). cond (nat_eq (t test).value 1) a.value (s second).value) (same first fit.1)
    ∙ ap (λ (a : BitVector). cond (nat_eq (t test).value 1) (t first).value a.value) (same second fit.2)
node_value-same w f s t count (ByteSelect first bytes index) fit same = ap (λ (a : BitVector). byte_value first bytes a.value) (same index fit)

operands-same : (op : BinOp) (a b c d : ℕ) → a ≡ c → b ≡ d → AreOperands op a b → AreOperands op c d
operands-same op a b c d e f = subst (λ x. AreOperands op a b → AreOperands op x d) e (subst (λ y. AreOperands op a b → AreOperands op a y) f (λ h. h))

pub IsFitting-same : (f g : ℕ → ℕ) (count : ℕ) (node : Shape) → ((c : ℕ) → c < count → f c ≡ g c) → IsFitting f count node → IsFitting g count node
IsFitting-same f g count (Const width value) same fit = fit
IsFitting-same f g count (Var width number) same fit = fit
IsFitting-same f g count (Not of) same fit = fit
IsFitting-same f g count (Neg of) same fit = fit
IsFitting-same f g count (Bin op left right) same fit = (fit.0, fit.1, operands-same op (f left) (f right) (g left) (g right) (same left fit.0) (same right fit.1) fit.2)
IsFitting-same f g count (Extract of high low) same fit = let e = same of fit.0 in (fit.0, fit.1, omega (arith, e, fit.2))
IsFitting-same f g count (ZeroExtend of width) same fit = let e = same of fit.0 in (fit.0, omega (arith, e, fit.1), fit.2)
IsFitting-same f g count (SignExtend of width) same fit = let e = same of fit.0 in (fit.0, omega (arith, e, fit.1), fit.2)
IsFitting-same f g count (Ite test first second) same fit = (fit.0, fit.1, fit.2, sym (same test fit.0) ∙ fit.3, sym (same first fit.1) ∙ fit.4 ∙ same second fit.2)
IsFitting-same f g count (ByteSelect first bytes index) same fit = fit

-- ---- later nodes change nothing

width-known_term : (known : List BitVector) (id : ℕ) → (known_term known id).width ≡ slice_index (map (λ (b : BitVector). b.width) known) id
width-known_term [] id = refl
width-known_term (b ∷ known) zero = refl
width-known_term (b ∷ known) (suc id) = width-known_term known id

node_width-pointwise : (f g : ℕ → ℕ) → ((c : ℕ) → f c ≡ g c) → (node : Shape) → node_width f node ≡ node_width g node
node_width-pointwise f g same (Const width value) = refl
node_width-pointwise f g same (Var width number) = refl
node_width-pointwise f g same (Not of) = same of
node_width-pointwise f g same (Neg of) = same of
node_width-pointwise f g same (Bin op left right) = ap (λ a. bin_width op a (f right)) (same left) ∙ ap (λ b. bin_width op (g left) b) (same right)
node_width-pointwise f g same (Extract of high low) = refl
node_width-pointwise f g same (ZeroExtend of width) = refl
node_width-pointwise f g same (SignExtend of width) = refl
node_width-pointwise f g same (Ite test first second) = same first
node_width-pointwise f g same (ByteSelect first bytes index) = refl

node_value-pointwise : (w : Assignment) (s t : ℕ → BitVector) → ((c : ℕ) → s c ≡ t c) → (node : Shape) → node_value w s node ≡ node_value w t node
node_value-pointwise w s t same (Const width value) = refl
node_value-pointwise w s t same (Var width number) = refl
node_value-pointwise w s t same (Not of) = ap not_value (same of)
node_value-pointwise w s t same (Neg of) = ap neg_value (same of)
node_value-pointwise w s t same (Bin op left right) = ap (λ a. bin_value op a (s right)) (same left) ∙ ap (λ b. bin_value op (t left) b) (same right)
node_value-pointwise w s t same (Extract of high low) = ap (λ a. extract_value a high low) (same of)
node_value-pointwise w s t same (ZeroExtend of width) = ap (λ (a : BitVector). a.value) (same of)
node_value-pointwise w s t same (SignExtend of width) = ap (λ a. sign_extend_value a width) (same of)
node_value-pointwise w s t same (Ite test first second) =
    ap (λ (a : BitVector). cond (nat_eq a.value 1) (s first).value (s second).value) (same test)
    ∙ ap (λ (a : BitVector). cond (nat_eq (t test).value 1) a.value (s second).value) (same first)
    ∙ ap (λ (a : BitVector). cond (nat_eq (t test).value 1) (t first).value a.value) (same second)
node_value-pointwise w s t same (ByteSelect first bytes index) = ap (λ (a : BitVector). byte_value first bytes a.value) (same index)

widths_along : (w : Assignment) (nodes : List Shape) → map (λ (b : BitVector). b.width) (gathered (next_term w) nodes) ≡ gathered next_width nodes
widths_along w nodes =
    fold_along (λ known node. known ++ next_term w known node ∷ []) (λ known node. known ++ next_width known node ∷ [])
    (λ terms widths. map (λ (b : BitVector). b.width) terms ≡ widths)
    (λ terms widths node e.
    map_push (λ (b : BitVector). b.width) terms (next_term w terms node)
    ∙ ap (λ l. l ++ (next_term w terms node).width ∷ []) e
    ∙ ap (λ n. widths ++ n ∷ []) (node_width-pointwise (λ id. (known_term terms id).width) (slice_index widths) (λ c. width-known_term terms c ∙ ap (λ l. slice_index l c) e) node))
    [] [] nodes refl

known-term_at : (w : Assignment) (nodes : List Shape) (id : ℕ) → known_term (gathered (next_term w) nodes) id ≡ term_at w nodes id
unfolding width_at value_at
known-term_at w nodes id =
    ap (λ n. record { width = n; value = value_at w nodes id })
    (width-known_term (gathered (next_term w) nodes) id ∙ ap (λ l. slice_index l id) (widths_along w nodes))

pub keeps-append : (old more : List Shape) → KeepsTerms old (old ++ more)
unfolding width_at value_at
keeps-append old more = record {
  grows = omega (arith, length-append old more);
  node = λ id h. slice_get-append old more (Const 0 0) id h;
  width = λ id h. gathered-append next_width old more id 0 h;
  value = λ w id h. ap (λ (b : BitVector). b.value) (gathered-append (next_term w) old more id (record { width = 0; value = 0 }) h);
}

pub keeps-same : (nodes : List Shape) → KeepsTerms nodes nodes
keeps-same nodes = record { grows = omega arith; node = λ id h. refl; width = λ id h. refl; value = λ w id h. refl }

term_at-kept : (w : Assignment) (old new : List Shape) → KeepsTerms old new → (id : ℕ) → id < length old → term_at w new id ≡ term_at w old id
term_at-kept w old new keeps id h =
    ap (λ n. record { width = n; value = value_at w new id }) (keeps.width id h)
    ∙ ap (λ v. record { width = width_at old id; value = v }) (keeps.value w id h)

-- ---- a term has its node's width and value

first_width : (nodes : List Shape) (id : ℕ) (node : Shape) → slice_get nodes id ≡ Some node → width_at nodes id ≡ node_width (width_at (take id nodes)) node
unfolding width_at
first_width nodes id node at = gathered-get next_width nodes id node 0 at

first_value : (w : Assignment) (nodes : List Shape) (id : ℕ) (node : Shape) → slice_get nodes id ≡ Some node → value_at w nodes id ≡ node_value w (term_at w (take id nodes)) node
unfolding width_at value_at
first_value w nodes id node at =
    ap (λ (b : BitVector). b.value) (gathered-get (next_term w) nodes id node (record { width = 0; value = 0 }) at)
    ∙ node_value-pointwise w (known_term (gathered (next_term w) (take id nodes))) (term_at w (take id nodes)) (known-term_at w (take id nodes)) node

node_width-below : (f g : ℕ → ℕ) (count : ℕ) (node : Shape) → ((c : ℕ) → c < count → g c ≡ f c) → IsFitting f count node → node_width g node ≡ node_width f node
node_width-below f g count node same fit = sym (node_width-same f g count node fit (λ c h. sym (same c h)))

pub record HasNode (nodes : List Shape) (id : ℕ) (node : Shape) : Type 0 where
  pub width : width_at nodes id ≡ node_width (width_at nodes) node
  pub value : (w : Assignment) → value_at w nodes id ≡ node_value w (term_at w nodes) node

front_keeps : (nodes : List Shape) (id : ℕ) → KeepsTerms (take id nodes) nodes
front_keeps nodes id = subst (λ l. KeepsTerms (take id nodes) l) (take-append-drop id nodes) (keeps-append (take id nodes) (drop id nodes))

pub has_node : (nodes : List Shape) (id : ℕ) (node : Shape) → slice_get nodes id ≡ Some node → IsFitting (width_at nodes) id node → HasNode nodes id node
has_node nodes id node at fit =
    let within = slice_get_within nodes id node at in
    let count : length (take id nodes) ≡ id = length-take-le id nodes (omega (arith, within)) in
    let keeps = front_keeps nodes id in
    let before : (c : ℕ) → c < id → c < length (take id nodes) = λ c h. omega (arith, count) in
    record {
      width = first_width nodes id node at
          ∙ node_width-below (width_at nodes) (width_at (take id nodes)) id node (λ c h. sym (keeps.width c (before c h))) fit;
      value = λ w. first_value w nodes id node at
          ∙ sym (node_value-same w (width_at nodes) (term_at w nodes) (term_at w (take id nodes)) id node fit (λ c h. term_at-kept w (take id nodes) nodes keeps c (before c h)));
    }

-- ---- one more term

none_below : (count c : ℕ) → Contains [] c → c < count
none_below count c (k, lt, e) = absurd (omega arith)

one_below : (count a : ℕ) (rest : List ℕ) (c : ℕ) → a < count → (Contains rest c → c < count) → Contains (a ∷ rest) c → c < count
one_below count a rest c h more (zero, lt, e) = subst (λ x. x < count) e h
one_below count a rest c h more (suc k, lt, e) = let inside : k < length rest = omega arith in more (k, inside, e)

pub child_below : (f : ℕ → ℕ) (count : ℕ) (node : Shape) → IsFitting f count node → (c : ℕ) → Contains (children node) c → c < count
child_below f count (Const width value) fit c k = none_below count c k
child_below f count (Var width number) fit c k = none_below count c k
child_below f count (Not of) fit c k = one_below count of [] c fit (none_below count c) k
child_below f count (Neg of) fit c k = one_below count of [] c fit (none_below count c) k
child_below f count (Bin op left right) fit c k = one_below count left (right ∷ []) c fit.0 (one_below count right [] c fit.1 (none_below count c)) k
child_below f count (Extract of high low) fit c k = one_below count of [] c fit.0 (none_below count c) k
child_below f count (ZeroExtend of width) fit c k = one_below count of [] c fit.0 (none_below count c) k
child_below f count (SignExtend of width) fit c k = one_below count of [] c fit.0 (none_below count c) k
child_below f count (Ite test first second) fit c k =
    one_below count test (first ∷ second ∷ []) c fit.0 (one_below count first (second ∷ []) c fit.1 (one_below count second [] c fit.2 (none_below count c))) k
child_below f count (ByteSelect first bytes index) fit c k = one_below count index [] c fit (none_below count c) k

-- a variable that occurs in an older term occurred there before
pub occurs-older : (old new : List Shape) → KeepsTerms old new → AreFitting old → (width number id : ℕ) → id < length old → Occurs new width number id → Occurs old width number id
occurs-older old new keeps fit width number id h (Here _ at) = Here id (sym (keeps.node id h) ∙ at)
occurs-older old new keeps fit width number id h (Inside _ child node at k there) =
    let was : slice_get old id ≡ Some node = sym (keeps.node id h) ∙ at in
    let below : child < id = child_below (width_at old) id node (fit id node was) child k in
    Inside id child node was k (occurs-older old new keeps fit width number child (omega (arith, below, h)) there)

same_node : (a b : Shape) → Some a ≡ Some b → a ≡ b
same_node a b e = cc

occurs_by : (old new : List Shape) → KeepsTerms old new → AreFitting old → (id : ℕ) (node : Shape) → slice_get new id ≡ Some node → IsFitting (width_at old) (length old) node → OccursOnlyBy old new id node
occurs_by old new keeps fit id node at fits width number (Here _ found) = inl (same_node node (Var width number) (sym at ∙ found))
occurs_by old new keeps fit id node at fits width number (Inside _ child there found k occurs) =
    let e : there ≡ node = same_node there node (sym found ∙ at) in
    let listed : Contains (children node) child = subst (λ n. Contains (children n) child) e k in
    let below : child < length old = child_below (width_at old) (length old) node fits child listed in
    inr (child, listed, occurs-older old new keeps fit width number child below occurs)

pub is_term_of : (old new : List Shape) → KeepsTerms old new → AreFitting old → AreFitting new → (id : ℕ) (node : Shape) → slice_get new id ≡ Some node → IsFitting (width_at old) (length old) node → IsTermOf old new node id
is_term_of old new keeps old_fit new_fit id node at fits =
    let has = has_node new id node at (new_fit id node at) in
    record {
      inside = slice_get_within new id node at;
      width = has.width ∙ node_width-below (width_at old) (width_at new) (length old) node (λ c h. keeps.width c h) fits;
      value = λ w. has.value w ∙ sym (node_value-same w (width_at old) (term_at w old) (term_at w new) (length old) node fits (λ c h. sym (term_at-kept w old new keeps c h)));
      occurs = occurs_by old new keeps old_fit id node at fits;
    }

-- the pool with one more node is still made of fitting nodes
pub AreFitting-push : (old : List Shape) (node : Shape) → AreFitting old → IsFitting (width_at old) (length old) node → AreFitting (old ++ node ∷ [])
AreFitting-push old node fit fits id found at = elim (cases_lt id (length old)) [
  | inl h ↦ IsFitting-same (width_at old) (width_at (old ++ node ∷ [])) id found (λ c b. sym ((keeps-append old (node ∷ [])).width c (omega (arith, b, h)))) (fit id found (sym ((keeps-append old (node ∷ [])).node id h) ∙ at))
  | inr h ↦
      let inside = slice_get_within (old ++ node ∷ []) id found at in
      let e : id ≡ length old = omega (arith, inside, length-append old (node ∷ [])) in
      let here : node ≡ found = same_node node found (sym (slice_get-push old node) ∙ subst (λ i. slice_get (old ++ node ∷ []) i ≡ Some found) e at) in
      let fits_more = IsFitting-same (width_at old) (width_at (old ++ node ∷ [])) (length old) node (λ c b. sym ((keeps-append old (node ∷ [])).width c b)) fits in
      subst (λ i. IsFitting (width_at (old ++ node ∷ [])) i found) (sym e) (subst (λ n. IsFitting (width_at (old ++ node ∷ [])) (length old) n) here fits_more)
]

pub width_at-push : (old : List Shape) (node : Shape) → width_at (old ++ node ∷ []) (length old) ≡ node_width (width_at old) node
unfolding width_at
width_at-push old node = gathered-push next_width old node 0
