-- The variables of an order, and the pairs that they decide.
use Rattle.std.specs.Prelude.{◌≡◌, ◌⊎◌, ℕ, zero, suc, ◌+◌, ◌-◌, ◌<◌, ◌&&◌, Bool, true, false, nat_le, nat_lt, if◌then◌else◌, List, [], ◌∷◌, ◌++◌, Option, Some, None, Contains, length}
use Rattle.std.proofs.Common.{sym, ◌∙◌, ap, subst, refl, inl, inr, arith}
use Rattle.std.proofs.lemmas.Bool.{and_from, cases_lt, le-leb, lt-ltb}
use Rattle.std.proofs.lemmas.List.Elements.{Contains-append_cases, Contains-append_left, Contains-append_right}
use Rattle.odr_log.specs.declared.log.Pos.{Pos}
use Rattle.clause_store.specs.Literals.{Assignment}
use Rattle.clause_store.proofs.Members.{Contains-cons_cases, Contains-head, Contains-nil, Contains-tail}
use Rattle.order_clauses.specs.declared.ordered.OrderedTable.{OrderedTable}
use Rattle.encoder.proofs.Encoding.{one_of}
use Rattle.stands_for.specs.Law.{order_of, steps_of, variables_from}
use Rattle.stands_for.specs.Stands.{pairs_of, turned}

-- ---- numbers one after another

pub from_all : (first count k : ℕ) → k < count → Contains (variables_from first count) (first + k)
from_all first zero k less = absurd (omega (arith, less))
from_all first (suc count) k less = elim (cases_lt k count) [
  | inl inside ↦ Contains-append_left (variables_from first count) ((first + count) ∷ []) (first + k) (from_all first count k inside)
  | inr above ↦
      let last : k ≡ count = omega (arith, above, less) in
      subst (λ (n : ℕ). Contains (variables_from first count ++ (first + count) ∷ []) (first + n)) (sym last)
      (Contains-append_right (variables_from first count) ((first + count) ∷ []) (first + count) (Contains-head (first + count) []))
]

pub from_only : (first count x : ℕ) → Contains (variables_from first count) x → (k : ℕ) × (k < count) × (x ≡ first + k)
from_only first zero x there = absurd (Contains-nil x there)
from_only first (suc count) x there = elim (Contains-append_cases (variables_from first count) ((first + count) ∷ []) x there) [
  | inl earlier ↦ let is = from_only first count x earlier in let less = is.1 in (is.0, omega (arith, less), is.2)
  | inr last ↦ (count, omega arith, sym (one_of (first + count) x last))
]

-- ---- the pair of a variable

pub pair_is : (chosen : List Pos) (ordered : OrderedTable) (k : ℕ) → k < length ordered.table.pairs → (order_of chosen ordered).pair (ordered.first + k) ≡ Some (steps_of chosen ordered k)
pair_is chosen ordered k less =
    let test : (nat_le ordered.first (ordered.first + k) && nat_lt (ordered.first + k - ordered.first) (length ordered.table.pairs)) ≡ true =
    and_from (nat_le ordered.first (ordered.first + k)) (nat_lt (ordered.first + k - ordered.first) (length ordered.table.pairs))
    (le-leb ordered.first (ordered.first + k) (omega arith)) (lt-ltb (ordered.first + k - ordered.first) (length ordered.table.pairs) (omega (arith, less))) in
    let back : ordered.first + k - ordered.first ≡ k = omega arith in
    ap (λ (b : Bool). if b then Some (steps_of chosen ordered (ordered.first + k - ordered.first)) else None) test
    ∙ ap (λ (n : ℕ). Some (steps_of chosen ordered n)) back

-- ---- decided pairs

only_one : (pair other : Pos × Pos) → Contains (pair ∷ []) other → pair ≡ other
only_one pair other (zero, lt, e) = e
only_one pair other (suc k, lt, e) = absurd (omega (arith, lt))

turned_only : (b : Bool) (pair : Option (Pos × Pos)) (p q : Pos) → Contains (turned b pair) (p, q) → (pair ≡ Some (p, q)) × (b ≡ true) ⊎ (pair ≡ Some (q, p)) × (b ≡ false)
turned_only true None p q there = absurd (Contains-nil (p, q) there)
turned_only false None p q there = absurd (Contains-nil (p, q) there)
turned_only true (Some pair) p q there = inl (ap (λ (x : Pos × Pos). Some x) (only_one pair (p, q) there), refl)
turned_only false (Some pair) p q there = inr (ap (λ (x : Pos × Pos). Some (x.1, x.0)) (only_one (pair.1, pair.0) (p, q) there), refl)

pub pairs_only : (w : Assignment) (pair : ℕ → Option (Pos × Pos)) (xs : List ℕ) (p q : Pos) → Contains (pairs_of w pair xs) (p, q)
    → (x : ℕ) × Contains xs x × ((pair x ≡ Some (p, q)) × (w x ≡ true) ⊎ (pair x ≡ Some (q, p)) × (w x ≡ false))
pairs_only w pair [] p q there = absurd (Contains-nil (p, q) there)
pairs_only w pair (x ∷ more) p q there = elim (Contains-append_cases (turned (w x) (pair x)) (pairs_of w pair more) (p, q) there) [
  | inl here ↦ (x, Contains-head x more, turned_only (w x) (pair x) p q here)
  | inr later ↦ let is = pairs_only w pair more p q later in (is.0, Contains-tail x more is.0 is.1, is.2)
]

turned_all : (b : Bool) (pair : Option (Pos × Pos)) (p q : Pos) → (pair ≡ Some (p, q)) × (b ≡ true) ⊎ (pair ≡ Some (q, p)) × (b ≡ false) → Contains (turned b pair) (p, q)
turned_all b pair p q (inl (is, up)) =
    subst (λ (c : Bool). Contains (turned c pair) (p, q)) (sym up) (subst (λ (o : Option (Pos × Pos)). Contains (turned true o) (p, q)) (sym is) (Contains-head (p, q) []))
turned_all b pair p q (inr (is, down)) =
    subst (λ (c : Bool). Contains (turned c pair) (p, q)) (sym down) (subst (λ (o : Option (Pos × Pos)). Contains (turned false o) (p, q)) (sym is) (Contains-head (p, q) []))

pub pairs_all : (w : Assignment) (pair : ℕ → Option (Pos × Pos)) (xs : List ℕ) (p q : Pos) (x : ℕ) → Contains xs x
    → (pair x ≡ Some (p, q)) × (w x ≡ true) ⊎ (pair x ≡ Some (q, p)) × (w x ≡ false) → Contains (pairs_of w pair xs) (p, q)
pairs_all w pair [] p q x there is = absurd (Contains-nil x there)
pairs_all w pair (y ∷ more) p q x there is = elim (Contains-cons_cases y more x there) [
  | inl same ↦ Contains-append_left (turned (w y) (pair y)) (pairs_of w pair more) (p, q)
      (turned_all (w y) (pair y) p q
      (subst (λ (z : ℕ). (pair z ≡ Some (p, q)) × (w z ≡ true) ⊎ (pair z ≡ Some (q, p)) × (w z ≡ false)) (sym same) is))
  | inr later ↦ Contains-append_right (turned (w y) (pair y)) (pairs_of w pair more) (p, q) (pairs_all w pair more p q x later is)
]
