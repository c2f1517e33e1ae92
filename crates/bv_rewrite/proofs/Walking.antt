-- A walk through the nodes below a root.
use Rattle.std.proofs.Common.{◌≡◌, ℕ, zero, suc, ◌+◌, ◌-◌, ◌*◌, ◌^◌, ◌<◌, ◌≤◌, Bool, true, false, cond, List, [], ◌∷◌, ◌++◌, map, length, Some, slice_get, refl, sym, ◌∙◌, ap, subst, inl, inr, arith, nat_eq}
use Rattle.std.specs.Prelude.{◌⊎◌, Option, None, Contains}
use Rattle.std.proofs.Math.Nat.{pow-succ'}
use Rattle.std.proofs.lemmas.Bool.{eqb-true}
use Rattle.std.proofs.lemmas.List.Sums.{sum_by-append}
use Rattle.std.proofs.lemmas.Option.{slice_get_within}
use Rattle.bv_terms.specs.declared.node.BinOp.{BinOp}
use Rattle.bv_terms.specs.declared.node.TermId.{TermId}
use Rattle.bv_terms.specs.BitVectors.{BitVector, bin_value, bin_width, byte_value, extract_value, neg_value, not_value, sign_extend_value}
use Rattle.bv_terms.specs.Fitting.{AreOperands, IsFitting}
use Rattle.bv_terms.specs.Shapes.{Shape, Const, Var, Not, Neg, Bin, Extract, ZeroExtend, SignExtend, Ite, ByteSelect, children}
use Rattle.bv_terms.specs.Values.{Assignment, KeepsTerms, node_value, node_width, term_at, value_at, width_at}
use Rattle.bv_terms.specs.Variables.{Occurs, Here, Inside, IsTermOf, KeepsVariables}
use Rattle.bv_rewrite.specs.declared.walk.Visit.{Visit}
use Rattle.bv_rewrite.specs.declared.walk.Visit.TheVariants as visit
use Rattle.bv_rewrite.specs.Simpler.{StandsFor}
use Rattle.bv_rewrite.specs.Walks.{AreDone, standing, weight, weights, with_children}

-- ---- weights

pub five_pos : (n : ℕ) → 1 ≤ 5 ^ n
five_pos zero = omega arith
five_pos (suc n) = let h = five_pos n in let e = pow-succ' 5 n in omega (arith, e, h)

five_mono : (i d : ℕ) → 5 ^ i ≤ 5 ^ (i + d)
five_mono i zero = let e : i ≡ i + 0 = omega arith in subst (λ n. 5 ^ i ≤ 5 ^ n) e (omega arith)
five_mono i (suc d) =
    let h = five_mono i d in
    let e = pow-succ' 5 (i + d) in
    let next : i + suc d ≡ suc (i + d) = omega arith in
    subst (λ n. 5 ^ i ≤ 5 ^ n) (sym next) (omega (arith, e, h))

five_below : (i j : ℕ) → i < j → 5 ^ (i + 1) ≤ 5 ^ j
five_below i j h =
    let e : (i + 1) + (j - (i + 1)) ≡ j = omega arith in
    subst (λ n. 5 ^ (i + 1) ≤ 5 ^ n) e (five_mono (i + 1) (j - (i + 1)))

pub five_next : (n : ℕ) → 5 ^ (n + 1) ≡ 5 * 5 ^ n
five_next n = let e : n + 1 ≡ suc n = omega arith in ap (λ m. 5 ^ m) e ∙ pow-succ' 5 n

pub weights-push : (visits : List Visit) (v : Visit) → weights (visits ++ v ∷ []) ≡ weights visits + weight v
weights-push visits v = let e = sum_by-append weight visits (v ∷ []) in omega (arith, e)

pub weigh : (visits : List Visit) (term : TermId) (above : ℕ) → term.number < above → weights (visits ++ visit.Enter term ∷ []) ≤ weights visits + 5 ^ above
weigh visits term above h =
    let e = weights-push visits (visit.Enter term) in
    let most = five_below term.number above h in
    omega (arith, e, most)

pub enter_lighter : (before pushed after : List Visit) (term : TermId) → pushed ≡ before ++ visit.Leave term ∷ [] → weights after ≤ weights pushed + 3 * 5 ^ term.number → weights after < weights before + 5 ^ (term.number + 1)
enter_lighter before pushed after term e h =
    let sum : weights pushed ≡ weights before + 1 = ap weights e ∙ weights-push before (visit.Leave term) in
    let next = five_next term.number in
    let pos = five_pos term.number in
    omega (arith, sum, next, pos, h)

-- ---- what stands for a term

pub stands_itself : (nodes : List Shape) (term : ℕ) → term < length nodes → StandsFor nodes nodes term term
stands_itself nodes term h = record { inside = h; width = refl; value = λ w. refl; occurs = λ width number there. there }

pub stands : (nodes : List Shape) (done : ℕ → Option TermId) → AreDone nodes done → (term : ℕ) → term < length nodes → StandsFor nodes nodes term (standing done term)
stands nodes done are term h = by_entry (done term) (are term)
  where
    by_entry : (entry : Option TermId) → ((id : TermId) → entry ≡ Some id → (term < length nodes) × StandsFor nodes nodes term id.number) → StandsFor nodes nodes term (standing (λ _. entry) term)
    by_entry (Some id) known = (known id refl).1
    by_entry None known = stands_itself nodes term h

occurs_later : (old new : List Shape) → KeepsTerms old new → (width number id : ℕ) → Occurs old width number id → Occurs new width number id
occurs_later old new keeps width number id (Here _ at) = Here id (keeps.node id (slice_get_within old id (Var width number) at) ∙ at)
occurs_later old new keeps width number id (Inside _ child node at listed there) =
    Inside id child node (keeps.node id (slice_get_within old id node at) ∙ at) listed (occurs_later old new keeps width number child there)

-- what stands for a term in a pool stands for it after the pool grew
stands_later : (old new : List Shape) → KeepsTerms old new → KeepsVariables old new → (term id : ℕ) → term < length old → StandsFor old old term id → StandsFor new new term id
stands_later old new keeps variables term id h stands = record {
  inside = omega (arith, stands.inside, keeps.grows);
  width = keeps.width id stands.inside ∙ stands.width ∙ sym (keeps.width term h);
  value = λ w. keeps.value w id stands.inside ∙ stands.value w ∙ sym (keeps.value w term h);
  occurs = λ width number there. occurs_later old new keeps width number term (stands.occurs width number (variables width number id stands.inside there));
}

-- seen from the pool before
pub stands_before : (old new : List Shape) → KeepsTerms old new → KeepsVariables old new → (term id : ℕ) → term < length old → StandsFor new new term id → StandsFor old new term id
stands_before old new keeps variables term id h stands = record {
  inside = stands.inside;
  width = stands.width ∙ keeps.width term h;
  value = λ w. stands.value w ∙ keeps.value w term h;
  occurs = λ width number there. variables width number term h (stands.occurs width number there);
}

-- ---- a node on what stands for its children

none_below : (count c : ℕ) → Contains [] c → c < count
none_below count c (k, lt, e) = absurd (omega arith)

one_below : (count a : ℕ) (rest : List ℕ) (c : ℕ) → a < count → (Contains rest c → c < count) → Contains (a ∷ rest) c → c < count
one_below count a rest c h more (zero, lt, e) = subst (λ x. x < count) e h
one_below count a rest c h more (suc k, lt, e) = let inside : k < length rest = omega arith in more (k, inside, e)

child_below : (f : ℕ → ℕ) (count : ℕ) (node : Shape) → IsFitting f count node → (c : ℕ) → Contains (children node) c → c < count
child_below f count (Const width value) fit c k = none_below count c k
child_below f count (Var width number) fit c k = none_below count c k
child_below f count (Not of) fit c k = one_below count of [] c fit (none_below count c) k
child_below f count (Neg of) fit c k = one_below count of [] c fit (none_below count c) k
child_below f count (Bin op left right) fit c k = one_below count left (right ∷ []) c fit.0 (one_below count right [] c fit.1 (none_below count c)) k
child_below f count (Extract of high low) fit c k = one_below count of [] c fit.0 (none_below count c) k
child_below f count (ZeroExtend of width) fit c k = one_below count of [] c fit.0 (none_below count c) k
child_below f count (SignExtend of width) fit c k = one_below count of [] c fit.0 (none_below count c) k
child_below f count (Ite test first second) fit c k =
    one_below count test (first ∷ second ∷ []) c fit.0 (one_below count first (second ∷ []) c fit.1 (one_below count second [] c fit.2 (none_below count c))) k
child_below f count (ByteSelect first bytes index) fit c k = one_below count index [] c fit (none_below count c) k

-- each term below `count` has one that stands for it
abbrev Stand : List Shape → (ℕ → ℕ) → ℕ → Type 0
Stand nodes f count = (c : ℕ) → c < count → StandsFor nodes nodes c (f c)

operands-same : (op : BinOp) (a b c d : ℕ) → a ≡ c → b ≡ d → AreOperands op a b → AreOperands op c d
operands-same op a b c d e f = subst (λ x. AreOperands op a b → AreOperands op x d) e (subst (λ y. AreOperands op a b → AreOperands op a y) f (λ h. h))

fits_with : (nodes : List Shape) (f : ℕ → ℕ) (count : ℕ) (node : Shape) → Stand nodes f count → IsFitting (width_at nodes) count node → IsFitting (width_at nodes) (length nodes) (with_children f node)
fits_with nodes f count (Const width value) stand fit = fit
fits_with nodes f count (Var width number) stand fit = fit
fits_with nodes f count (Not of) stand fit = (stand of fit).inside
fits_with nodes f count (Neg of) stand fit = (stand of fit).inside
fits_with nodes f count (Bin op left right) stand fit =
    ((stand left fit.0).inside, (stand right fit.1).inside, operands-same op (width_at nodes left) (width_at nodes right) (width_at nodes (f left)) (width_at nodes (f right)) (sym (stand left fit.0).width) (sym (stand right fit.1).width) fit.2)
fits_with nodes f count (Extract of high low) stand fit = ((stand of fit.0).inside, fit.1, subst (λ n. high < n) (sym (stand of fit.0).width) fit.2)
fits_with nodes f count (ZeroExtend of width) stand fit = ((stand of fit.0).inside, subst (λ n. n ≤ width) (sym (stand of fit.0).width) fit.1, fit.2)
fits_with nodes f count (SignExtend of width) stand fit = ((stand of fit.0).inside, subst (λ n. n ≤ width) (sym (stand of fit.0).width) fit.1, fit.2)
fits_with nodes f count (Ite test first second) stand fit = (
  (stand test fit.0).inside,
  (stand first fit.1).inside,
  (stand second fit.2).inside,
  (stand test fit.0).width ∙ fit.3,
  (stand first fit.1).width ∙ fit.4 ∙ sym (stand second fit.2).width,
)
fits_with nodes f count (ByteSelect first bytes index) stand fit = (stand index fit).inside

width_with : (nodes : List Shape) (f : ℕ → ℕ) (count : ℕ) (node : Shape) → Stand nodes f count → IsFitting (width_at nodes) count node → node_width (width_at nodes) (with_children f node) ≡ node_width (width_at nodes) node
width_with nodes f count (Const width value) stand fit = refl
width_with nodes f count (Var width number) stand fit = refl
width_with nodes f count (Not of) stand fit = (stand of fit).width
width_with nodes f count (Neg of) stand fit = (stand of fit).width
width_with nodes f count (Bin op left right) stand fit = ap (λ a. bin_width op a (width_at nodes (f right))) (stand left fit.0).width ∙ ap (λ b. bin_width op (width_at nodes left) b) (stand right fit.1).width
width_with nodes f count (Extract of high low) stand fit = refl
width_with nodes f count (ZeroExtend of width) stand fit = refl
width_with nodes f count (SignExtend of width) stand fit = refl
width_with nodes f count (Ite test first second) stand fit = (stand first fit.1).width
width_with nodes f count (ByteSelect first bytes index) stand fit = refl

abbrev vector : (n v : ℕ) → BitVector
vector n v = record { width = n; value = v }

-- the term that stands for a child is the same bit vector
same : (w : Assignment) (nodes : List Shape) (c d : ℕ) → StandsFor nodes nodes c d → term_at w nodes d ≡ term_at w nodes c
same w nodes c d it = ap (λ n. vector n (value_at w nodes d)) it.width ∙ ap (λ v. vector (width_at nodes c) v) (it.value w)

value_with : (w : Assignment) (nodes : List Shape) (f : ℕ → ℕ) (count : ℕ) (node : Shape) → Stand nodes f count → IsFitting (width_at nodes) count node
    → node_value w (term_at w nodes) (with_children f node) ≡ node_value w (term_at w nodes) node
value_with w nodes f count (Const width value) stand fit = refl
value_with w nodes f count (Var width number) stand fit = refl
value_with w nodes f count (Not of) stand fit = ap not_value (same w nodes of (f of) (stand of fit))
value_with w nodes f count (Neg of) stand fit = ap neg_value (same w nodes of (f of) (stand of fit))
value_with w nodes f count (Bin op left right) stand fit =
    ap (λ a. bin_value op a (term_at w nodes (f right))) (same w nodes left (f left) (stand left fit.0)) ∙ ap (λ b. bin_value op (term_at w nodes left) b) (same w nodes right (f right) (stand right fit.1))
value_with w nodes f count (Extract of high low) stand fit = ap (λ a. extract_value a high low) (same w nodes of (f of) (stand of fit.0))
value_with w nodes f count (ZeroExtend of width) stand fit = (stand of fit.0).value w
value_with w nodes f count (SignExtend of width) stand fit = ap (λ a. sign_extend_value a width) (same w nodes of (f of) (stand of fit.0))
value_with w nodes f count (Ite test first second) stand fit =
    ap (λ v. cond (nat_eq v 1) (value_at w nodes (f first)) (value_at w nodes (f second))) ((stand test fit.0).value w)
    ∙ ap (λ v. cond (nat_eq (value_at w nodes test) 1) v (value_at w nodes (f second))) ((stand first fit.1).value w)
    ∙ ap (λ v. cond (nat_eq (value_at w nodes test) 1) (value_at w nodes first) v) ((stand second fit.2).value w)
value_with w nodes f count (ByteSelect first bytes index) stand fit = ap (λ v. byte_value first bytes v) ((stand index fit).value w)

children_with : (f : ℕ → ℕ) (node : Shape) → children (with_children f node) ≡ map f (children node)
children_with f (Const width value) = refl
children_with f (Var width number) = refl
children_with f (Not of) = refl
children_with f (Neg of) = refl
children_with f (Bin op left right) = refl
children_with f (Extract of high low) = refl
children_with f (ZeroExtend of width) = refl
children_with f (SignExtend of width) = refl
children_with f (Ite test first second) = refl
children_with f (ByteSelect first bytes index) = refl

variable_with : (f : ℕ → ℕ) (node : Shape) (width number : ℕ) → with_children f node ≡ Var width number → node ≡ Var width number
variable_with f (Var of named) width number e = e
variable_with f node width number e = cc

-- an element of the list that a function gives comes from one of the list
record Source (f : ℕ → ℕ) (xs : List ℕ) (y : ℕ) : Type 0 where
  from : ℕ
  listed : Contains xs from
  gives : f from ≡ y

source : (f : ℕ → ℕ) (xs : List ℕ) (y : ℕ) → Contains (map f xs) y → Source f xs y
source f [] y (k, lt, e) = absurd (omega arith)
source f (x ∷ xs) y (zero, lt, e) = record { from = x; listed = (0, omega arith, refl); gives = e }
source f (x ∷ xs) y (suc k, lt, e) =
    let inside : k < length (map f xs) = omega arith in
    let more = source f xs y (k, inside, e) in
    let place = more.listed in
    let listed : Contains (x ∷ xs) more.from = (suc place.0, omega (arith, place.1), place.2) in
    record { from = more.from; listed = listed; gives = more.gives }

-- the term that is made of what stands for the children of a term stands for it
pub remade_stands : (old new : List Shape) (f : ℕ → ℕ) (term id : ℕ) (node : Shape) → Stand old f term → term < length old → slice_get old term ≡ Some node → IsFitting (width_at old) term node
    → width_at old term ≡ node_width (width_at old) node → ((w : Assignment) → value_at w old term ≡ node_value w (term_at w old) node)
    → KeepsTerms old new → IsTermOf old new (with_children f node) id → StandsFor new new term id
remade_stands old new f term id node stand within at fit width value keeps made = record {
  inside = made.inside;
  width = made.width ∙ width_with old f term node stand fit ∙ sym width ∙ sym (keeps.width term within);
  value = λ w. made.value w ∙ value_with w old f term node stand fit ∙ sym (value w) ∙ sym (keeps.value w term within);
  occurs = λ of number there. occurs_later old new keeps of number term (before of number (made.occurs of number there));
}
  where
    before : (of number : ℕ) → (with_children f node ≡ Var of number) ⊎ ((child : ℕ) × Contains (children (with_children f node)) child × Occurs old of number child) → Occurs old of number term
    before of number (inl e) = Here term (at ∙ ap (λ (n : Shape). Some n) (variable_with f node of number e))
    before of number (inr (child, listed, there)) =
        let its = source f (children node) child (subst (λ l. Contains l child) (children_with f node) listed) in
        let stands = stand its.from (child_below (width_at old) term node fit its.from its.listed) in
        Inside term its.from node at its.listed (stands.occurs of number (subst (λ c. Occurs old of number c) (sym its.gives) there))

pub fits_remade : (nodes : List Shape) (f : ℕ → ℕ) (term : ℕ) (node : Shape) → Stand nodes f term → IsFitting (width_at nodes) term node → IsFitting (width_at nodes) (length nodes) (with_children f node)
fits_remade nodes f term node stand fit = fits_with nodes f term node stand fit

-- ---- the table of what stands for what

same_id : (a b : TermId) → Some a ≡ Some b → a ≡ b
same_id a b e = cc

-- one more entry is right after the pool grew
pub done-insert : (old new : List Shape) (done after : ℕ → Option TermId) (term : ℕ) (id : TermId) → KeepsTerms old new → KeepsVariables old new → term < length old
    → AreDone old done → StandsFor new new term id.number → ((q : ℕ) → after q ≡ cond (nat_eq term q) (Some id) (done q)) → AreDone new after
done-insert old new done after term id keeps variables inside are stands updates t i e = by_key (nat_eq term t) refl
  where
    by_key : (b : Bool) → nat_eq term t ≡ b → (t < length new) × StandsFor new new t i.number
    by_key true is =
        let here : after t ≡ Some id = updates t ∙ ap (λ b. cond b (Some id) (done t)) is in
        let e_id : id ≡ i = same_id id i (sym here ∙ e) in
        let e_term : term ≡ t = eqb-true term t is in
        (subst (λ n. n < length new) e_term (omega (arith, inside, keeps.grows)), subst (λ (j : TermId). StandsFor new new t j.number) e_id (subst (λ n. StandsFor new new n id.number) e_term stands))
    by_key false is =
        let here : done t ≡ Some i = sym (updates t ∙ ap (λ b. cond b (Some id) (done t)) is) ∙ e in
        let known = are t i here in
        (omega (arith, known.0, keeps.grows), stands_later old new keeps variables t i.number known.0 known.1)
