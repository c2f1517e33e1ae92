-- The literals of one term more.
use Rattle.std.proofs.Common.{◌≡◌, ℕ, zero, suc, ◌<◌, ◌≤◌, Bool, true, Some, List, [], ◌∷◌, ◌++◌, length, get_or, slice_get, refl, sym, ◌∙◌, ap, subst, arith}
use Rattle.std.specs.Prelude.{All, Result, Ok, Err, OnOk, OnErr}
use Rattle.std.proofs.lemmas.Nat.{pow_pos}
use Rattle.std.proofs.lemmas.List.{get_or-set_same, length-set}
use Rattle.std.proofs.lemmas.List.Elements.{All-contains}
use Rattle.bv_terms.specs.declared.node.BinOp.{BinOp}
use Rattle.bv_terms.specs.Fitting.{IsFitting, AreOperands}
use Rattle.bv_terms.specs.Shapes.{Shape, Const, Var, Not, Neg, Bin, Extract, ZeroExtend, SignExtend, Ite, ByteSelect, children}
use Rattle.bv_terms.specs.Values.{node_value, node_width, term_at, value_at, width_at}
use Rattle.bv_terms.specs.Values.{Assignment as TermAssignment}
use Rattle.clause_store.specs.declared.lit.Lit.{Lit}
use Rattle.clause_store.specs.Formula.{Formula}
use Rattle.clause_store.proofs.Members.{All-from_contains}
use Rattle.bit_clauses.specs.Bits.{Bits, run, first_of, IsBuilt, AreBuilt, IsOf, KeepsBits, StandsOn, IsBlasted, BuildsTerm, HasRoom, Steps}
use Rattle.bit_clauses.specs.Nodes.{lits_at, width_in, IsOperation, HasLiterals, HaveLiterals, SpellsNode}
use Rattle.bit_clauses.proofs.Blasted.{first_child, other_children, blasted_both, blasted_none, bits_later, operation_more, same_width, with_term}
use Rattle.bit_clauses.proofs.Circuits.{grows_none}
use Rattle.bit_clauses.proofs.Runs.{run_length, variable_more}
use Rattle.bit_clauses.proofs.Sure.{sure_true, sure_decided, sure_later}

-- any values at all
zeros : TermAssignment
zeros = record { value_of = λ width number. 0; below = λ width number. pow_pos width }

same_operands : (op : BinOp) (a b c d : ℕ) → a ≡ c → b ≡ d → AreOperands op c d → AreOperands op a b
same_operands op a b c d e f h = subst (λ n. AreOperands op n b) (sym e) (subst (λ n. AreOperands op c n) (sym f) h)

pub fitting_in : (p q : ℕ → ℕ) (id count : ℕ) (node : Shape) → id ≤ count → All (λ c. p c ≡ q c) (children node) → IsFitting q id node → IsFitting p count node
fitting_in p q id count (Const width value) h same fit = fit
fitting_in p q id count (Var width number) h same fit = fit
fitting_in p q id count (Not of) h same fit = omega (arith, h, fit)
fitting_in p q id count (Neg of) h same fit = omega (arith, h, fit)
fitting_in p q id count (Bin op left right) h same fit = (
  omega (arith, h, fit.0),
  omega (arith, h, fit.1),
  same_operands op (p left) (p right) (q left) (q right) (first_child (λ c. p c ≡ q c) left (right ∷ []) same)
      (first_child (λ c. p c ≡ q c) right [] (other_children (λ c. p c ≡ q c) left (right ∷ []) same)) fit.2,
)
fitting_in p q id count (Extract of high low) h same fit = (omega (arith, h, fit.0), fit.1, omega (arith, fit.2, first_child (λ c. p c ≡ q c) of [] same))
fitting_in p q id count (ZeroExtend of width) h same fit = (omega (arith, h, fit.0), omega (arith, fit.1, first_child (λ c. p c ≡ q c) of [] same), fit.2)
fitting_in p q id count (SignExtend of width) h same fit = (omega (arith, h, fit.0), omega (arith, fit.1, first_child (λ c. p c ≡ q c) of [] same), fit.2)
fitting_in p q id count (Ite test first second) h same fit =
    let more = other_children (λ c. p c ≡ q c) test (first ∷ second ∷ []) same in (
      omega (arith, h, fit.0),
      omega (arith, h, fit.1),
      omega (arith, h, fit.2),
      first_child (λ c. p c ≡ q c) test (first ∷ second ∷ []) same ∙ fit.3,
      first_child (λ c. p c ≡ q c) first (second ∷ []) more ∙ fit.4 ∙ sym (first_child (λ c. p c ≡ q c) second [] (other_children (λ c. p c ≡ q c) first (second ∷ []) more)),
    )
fitting_in p q id count (ByteSelect first bytes index) h same fit = omega (arith, h, fit)

pub widths_of_children : (b : Bits) (nodes : List Shape) (f : Formula) (node : Shape) → IsOf b nodes f → AreBuilt b node → All (λ c. width_in b.terms c ≡ width_at nodes c) (children node)
widths_of_children b nodes f node of built =
    All-from_contains (λ c. width_in b.terms c ≡ width_at nodes c) (children node) (λ c listed. (of.terms c (All-contains (IsBuilt b) (children node) c built listed)).count)

pub literals_of_children : (b : Bits) (nodes : List Shape) (f : Formula) (node : Shape) → IsOf b nodes f → AreBuilt b node → HaveLiterals b.terms f.vars node
literals_of_children b nodes f node of built =
    All-from_contains (HasLiterals b.terms f.vars) (children node) (λ c listed.
    let here = All-contains (IsBuilt b) (children node) c built listed in
    let has = of.terms c here in
    record { some_bit = here; narrow = has.narrow; known = has.known })

pub builds_operation : (b : Bits) (nodes : List Shape) (f g : Formula) (id : ℕ) (node : Shape) (sure : Lit) (out : List Lit)
    → IsOf b nodes f → b.sure ≡ Some sure → id < length nodes → id < length b.terms → length (lits_at b.terms id) ≡ 0
    → slice_get nodes id ≡ Some node → IsOperation node → width_at nodes id ≡ node_width (width_at nodes) node → 1 ≤ width_at nodes id → width_at nodes id ≤ 64
    → ((t : TermAssignment) → value_at t nodes id ≡ node_value t (term_at t nodes) node)
    → AreBuilt b node → SpellsNode f g b.terms sure node out
    → BuildsTerm b (with_term b id out) nodes f g id
builds_operation b nodes f g id node sure out of is_sure within room free found operation width some_bit narrow value built spells =
    let later = sure_later f g sure (spells zeros).circuit.grows (of.sure sure is_sure) in
    let blasted : (root : ℕ) → StandsOn nodes root id → IsBlasted b (with_term b id out) nodes f g root =
    λ root inside. operation_more b nodes f g id root node sure out of is_sure within room free found operation width narrow value built inside spells (sure_true g sure later) (sure_decided g sure later) zeros in
    let count : length out ≡ width_at nodes id =
    (spells zeros).count ∙ same_width (width_in b.terms) (width_at nodes) node (widths_of_children b nodes f node of built) ∙ sym width in
    record {
      blasted = blasted;
      built = subst (λ (l : List Lit). 0 < length l) (sym (get_or-set_same b.terms id out [] room)) (omega (arith, count, some_bit));
      size = length-set b.terms id out;
    }

pub builds_variable : (b mid : Bits) (nodes : List Shape) (f g : Formula) (id width number first : ℕ)
    → ((root : ℕ) → StandsOn nodes root id → IsBlasted b mid nodes f g root) → mid.terms ≡ b.terms
    → id < length nodes → id < length b.terms → length (lits_at b.terms id) ≡ 0
    → slice_get nodes id ≡ Some (Var width number) → width_at nodes id ≡ width → 1 ≤ width → width ≤ 64
    → ((t : TermAssignment) → value_at t nodes id ≡ t.value_of width number) → first_of mid.variables width number ≡ Some first
    → BuildsTerm b (with_term mid id (run first width)) nodes f g id
builds_variable b mid nodes f g id width number first step same within room free found is_width some_bit narrow value e =
    let mid_room : id < length mid.terms = subst (λ (l : List (List Lit)). id < length l) (sym same) room in
    let mid_free : length (lits_at mid.terms id) ≡ 0 = subst (λ (l : List (List Lit)). length (lits_at l id) ≡ 0) (sym same) free in
    record {
      blasted = λ root inside.
          let one = step root inside in
          blasted_both b mid (with_term mid id (run first width)) nodes f g g root one
          (variable_more mid nodes g id root width number first one.known within mid_room mid_free found is_width narrow value e);
      built = subst (λ (l : List Lit). 0 < length l) (sym (get_or-set_same mid.terms id (run first width) [] mid_room)) (omega (arith, run_length first width, some_bit));
      size = length-set mid.terms id (run first width) ∙ ap (λ (l : List (List Lit)). length l) same;
    }

-- ---- entries for further terms

pub room_push : (terms : List (List Lit)) (j : ℕ) → lits_at (terms ++ [] ∷ []) j ≡ lits_at terms j
room_push [] zero = refl
room_push [] (suc j) = refl
room_push (x ∷ more) zero = refl
room_push (x ∷ more) (suc j) = room_push more j

pub room_more : (b c : Bits) (nodes : List Shape) (f : Formula) (id root : ℕ) → IsOf b nodes f → HasRoom b c id → IsBlasted b c nodes f f root
room_more b c nodes f id root of room =
    let keeps : KeepsBits b c = record {
      sure = λ l e. room.sure ∙ e;
      variables = λ w n first e. ap (λ xs. first_of xs w n) room.variables ∙ e;
      terms = λ j h. room.terms j;
    } in
    let back : (w n first : ℕ) → first_of c.variables w n ≡ Some first → first_of b.variables w n ≡ Some first =
    λ w n first e. ap (λ xs. first_of xs w n) (sym room.variables) ∙ e in
    record {
      known = record {
        sure = λ l e. of.sure l (sym room.sure ∙ e);
        variables = λ w n first e. of.variables w n first (back w n first e);
        terms = λ j built.
            let before : IsBuilt b j = subst (λ (l : List Lit). 0 < length l) (room.terms j) built in
            bits_later b c nodes f f j keeps (grows_none f) before (of.terms j before);
      };
      grows = grows_none f;
      keeps = keeps;
      extends = λ w t s a. record { extended = w; agrees = λ x h. refl; satisfies = s; spells = λ n k first e. a n k first (back n k first e) };
      decides = λ v r d x low high. absurd (omega (arith, low, high));
    }

pub on_err : {T E : Type 0} (r : Result T E) {P : Type 0} → P → OnErr r P
on_err (Ok x) p = tt
on_err (Err e) p = p

pub on_ok : {T E : Type 0} (r : Result T E) (P Q : Type 0) → (P → Q) → OnOk r P → OnOk r Q
on_ok (Ok x) P Q f p = f p
on_ok (Err e) P Q f p = tt

pub steps_none : (marked : Bool) (b : Bits) (nodes : List Shape) (f : Formula) (id : ℕ) → IsOf b nodes f → (marked ≡ true → IsBuilt b id) → Steps marked b b nodes f f id
steps_none marked b nodes f id of built = record { blasted = λ root inside. blasted_none b nodes f root of; built = built; size = refl }

pub only_literal : (lits : List Lit) (l d : Lit) → length lits ≡ 1 → l ≡ get_or lits 0 d → lits ≡ l ∷ []
only_literal [] l d count e = absurd (omega (arith, count))
only_literal (x ∷ []) l d count e = ap (λ (k : Lit). k ∷ []) (sym e)
only_literal (x ∷ y ∷ more) l d count e = absurd (omega (arith, count))
