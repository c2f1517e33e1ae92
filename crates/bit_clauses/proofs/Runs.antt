-- Variables with literals of their own.
use Rattle.std.proofs.Common.{◌≡◌, ℕ, zero, suc, ◌+◌, ◌-◌, ◌*◌, ◌/◌, ◌%◌, ◌^◌, ◌<◌, ◌≤◌, ◌⊎◌, Bool, true, false, cond, ◌&&◌, Option, Some, None, List, [], ◌∷◌, ◌++◌, length, get_or, set, drop, nat_eq, nat_lt, slice_get, refl, sym, ◌∙◌, ap, subst, arith, inl, inr, length-append}
use Rattle.std.specs.Prelude.{All, IsSome}
use Rattle.std.proofs.Math.Nat.{mod-eq_of_lt}
use Rattle.std.proofs.lemmas.Bool.{cases_lt, and_parts}
use Rattle.std.proofs.lemmas.Bool.Decides.{nat_tests}
use Rattle.std.proofs.lemmas.Nat.{shr_split, mod-mul-add, mod_below, pow_pos}
use Rattle.std.proofs.lemmas.Option.{none-some, same_Some}
use Rattle.std.proofs.lemmas.List.{drop_more, append-nil, get_or-set_same}
use Rattle.std.proofs.lemmas.List.Elements.{All-nil, All-contains, Contains-append_right}
use Rattle.bv_terms.specs.BitVectors.{bit_of}
use Rattle.bv_terms.specs.Shapes.{Shape, Var, children}
use Rattle.bv_terms.specs.Values.{value_at, width_at}
use Rattle.bv_terms.specs.Values.{Assignment as TermAssignment}
use Rattle.bv_terms.specs.Variables.{Occurs, Here}
use Rattle.clause_store.specs.declared.lit.Lit.{Lit}
use Rattle.clause_store.specs.Literals.{Assignment}
use Rattle.clause_store.specs.Formula.{Formula, Grows, IsKnown, AllKnown}
use Rattle.clause_store.specs.Laws.{SatisfiedAlike}
use Rattle.clause_store.specs.UnitRule.{Partial}
use Rattle.clause_store.proofs.Members.{All-left, Contains-head}
use Rattle.bit_clauses.specs.declared.variables.Variable.{Variable}
use Rattle.bit_clauses.specs.Bits.{Bits, run, first_of, IsBuilt, IsOf, KeepsBits, IsBlasted}
use Rattle.bit_clauses.specs.Circuit.{Decides, DecidesAll}
use Rattle.bit_clauses.specs.Nodes.{lits_at}
use Rattle.bit_clauses.specs.Spelled.{spelled, bit}
use Rattle.bit_clauses.proofs.Adders.{pow-more}
use Rattle.bit_clauses.proofs.Blasted.{spelled_agrees, run_known, same_found, bits_later, term_more, with_term}
use Rattle.bit_clauses.proofs.Circuits.{grows_none}
use Rattle.bit_clauses.proofs.Numbers.{spelled-push}

-- ---- finding a variable

abbrev pub is_same : Variable → ℕ → ℕ → Bool
is_same x width number = nat_eq x.width width && nat_eq x.number number

found_before : (xs ys : List Variable) (width number first : ℕ) → first_of xs width number ≡ Some first → first_of (xs ++ ys) width number ≡ Some first
found_before [] ys width number first e = absurd (none-some first e)
found_before (x ∷ more) ys width number first e = by_test (is_same x width number) (λ h. found_before more ys width number first h) e
  where
    by_test : (b : Bool) → (first_of more width number ≡ Some first → first_of (more ++ ys) width number ≡ Some first)
        → cond b (Some x.first) (first_of more width number) ≡ Some first → cond b (Some x.first) (first_of (more ++ ys) width number) ≡ Some first
    by_test true later e = e
    by_test false later e = later e

-- where a variable more gives something, it is new or was there
found_cases : (xs : List Variable) (x : Variable) (width number first : ℕ) → first_of (xs ++ x ∷ []) width number ≡ Some first
    → (first_of xs width number ≡ Some first) ⊎ ((x.width ≡ width) × (x.number ≡ number) × (x.first ≡ first))
found_cases [] x width number first e = by_test (is_same x width number) refl e
  where
    by_test : (b : Bool) → is_same x width number ≡ b → cond b (Some x.first) None ≡ Some first → (None ≡ Some first) ⊎ ((x.width ≡ width) × (x.number ≡ number) × (x.first ≡ first))
    by_test true t e = let p = and_parts (nat_eq x.width width) (nat_eq x.number number) t in inr (grind (arith, nat_tests, p.0), grind (arith, nat_tests, p.1), same_Some x.first first e)
    by_test false t e = inl e
found_cases (y ∷ more) x width number first e = by_test (is_same y width number) (λ h. found_cases more x width number first h) e
  where
    by_test : (b : Bool)
        → (first_of (more ++ x ∷ []) width number ≡ Some first → (first_of more width number ≡ Some first) ⊎ ((x.width ≡ width) × (x.number ≡ number) × (x.first ≡ first)))
        → cond b (Some y.first) (first_of (more ++ x ∷ []) width number) ≡ Some first
        → (cond b (Some y.first) (first_of more width number) ≡ Some first) ⊎ ((x.width ≡ width) × (x.number ≡ number) × (x.first ≡ first))
    by_test true later e = inl e
    by_test false later e = later e

-- ---- the digits of a number as literals

pub run_length : (first count : ℕ) → length (run first count) ≡ count
run_length first zero = refl
run_length first (suc count) = length-append (run first count) (record { var = first + count; positive = true } ∷ []) ∙ omega (arith, run_length first count)

pub run_more : (first i : ℕ) (bits : List Lit) → bits ≡ run first i → bits ++ record { var = first + i; positive = true } ∷ [] ≡ run first (i + 1)
run_more first i bits e =
    let last : Lit = record { var = first + i; positive = true } in
    ap (λ (l : List Lit). l ++ last ∷ []) e ∙ ap (run first) (next i)
  where
    next : (i : ℕ) → suc i ≡ i + 1
    next i = omega arith

pub grows_vars : (f : Formula) (count : ℕ) → Grows f (record f { vars = f.vars + count })
grows_vars f count = record { vars = omega arith; more = []; clauses = sym (append-nil f.clauses) }

abbrev pub digit : ℕ → ℕ → Bool
digit value i = nat_eq (value / 2 ^ i % 2) 1

digit_is : (n : ℕ) → n < 2 → bit_of (nat_eq n 1) ≡ n
digit_is zero h = refl
digit_is (suc zero) h = refl
digit_is (suc (suc n)) h = absurd (omega (arith, h))

next_digit : (value n : ℕ) → value % 2 ^ n + 2 ^ n * (value / 2 ^ n % 2) ≡ value % 2 ^ suc n
next_digit value n =
    let q = value / 2 ^ n in
    let r = value % 2 ^ n in
    let split = shr_split value n in
    let below = mod_below value (2 ^ n) (pow_pos n) in
    let halves : q ≡ q / 2 * 2 + q % 2 = omega arith in
    let small : q % 2 < 2 = omega arith in
    let twice : 2 ^ suc n ≡ 2 ^ n * 2 = ap (λ m. 2 ^ m) (more n) ∙ pow-more n in
    let whole : value ≡ q / 2 * (2 ^ n * 2) + (r + 2 ^ n * (q % 2)) = spread value q (q / 2) (q % 2) r (2 ^ n) split halves in
    sym (ap (λ m. value % m) twice ∙ ap (λ m. m % (2 ^ n * 2)) whole ∙ mod-mul-add (q / 2) (2 ^ n * 2) (r + 2 ^ n * (q % 2)) (inside (2 ^ n) r (q % 2) below small))
  where
    more : (n : ℕ) → suc n ≡ n + 1
    more n = omega arith

    spread : (value q h d r p : ℕ) → q * p + r ≡ value → q ≡ h * 2 + d → value ≡ h * (p * 2) + (r + p * d)
    spread value q h d r p e f = omega (arith, e, ap (λ n. n * p) f)

    inside : (p r d : ℕ) → r < p → d < 2 → r + p * d < p * 2
    inside p r zero h k = omega (arith, h)
    inside p r (suc zero) h k = omega (arith, h)
    inside p r (suc (suc d)) h k = absurd (omega (arith, k))

pub run_spells : (w : Assignment) (first count value : ℕ) → ((i : ℕ) → i < count → w (first + i) ≡ digit value i) → spelled w (run first count) ≡ value % 2 ^ count
run_spells w first zero value h = sym (omega arith)
run_spells w first (suc count) value h =
    let l : Lit = record { var = first + count; positive = true } in
    spelled-push w (run first count) l
    ∙ ap (λ n. spelled w (run first count) + 2 ^ n * bit w l) (run_length first count)
    ∙ ap (λ n. n + 2 ^ count * bit w l) (run_spells w first count value (λ i k. h i (omega (arith, k))))
    ∙ ap (λ n. value % 2 ^ count + 2 ^ count * n) (ap bit_of (h count (omega arith)) ∙ digit_is (value / 2 ^ count % 2) (omega arith))
    ∙ next_digit value count

-- ---- a variable that has no literals yet

abbrev pub with_variable : Bits → Variable → Bits
with_variable b x = record b { variables = b.variables ++ x ∷ [] }

abbrev pub more_vars : Formula → ℕ → Formula
more_vars f count = record f { vars = f.vars + count }

keeps_variable : (b : Bits) (x : Variable) → KeepsBits b (with_variable b x)
keeps_variable b x = record {
  sure = λ l e. e;
  variables = λ width number first e. found_before b.variables (x ∷ []) width number first e;
  terms = λ id h. refl;
}

-- an assignment with the digits of a value from a variable on
abbrev filled : Assignment → ℕ → ℕ → Assignment
filled w vars value = λ x. cond (nat_lt x vars) (w x) (digit value (x - vars))

filled_older : (w : Assignment) (vars value x : ℕ) → x < vars → filled w vars value x ≡ w x
filled_older w vars value x h =
    let e : nat_lt x vars ≡ true = grind (arith, nat_tests, h) in
    ap (λ b. cond b (w x) (digit value (x - vars))) e

filled_newer : (w : Assignment) (vars value i : ℕ) → filled w vars value (vars + i) ≡ digit value i
filled_newer w vars value i =
    let e : nat_lt (vars + i) vars ≡ false = grind (arith, nat_tests) in
    ap (λ b. cond b (w (vars + i)) (digit value (vars + i - vars))) e ∙ ap (digit value) (left_over vars i)
  where
    left_over : (vars i : ℕ) → vars + i - vars ≡ i
    left_over vars i = omega arith

last_of_run : (v : Partial) (first count i : ℕ) → i < count → DecidesAll v (run first count) → IsSome (v (first + i))
last_of_run v first zero i h d = absurd (omega (arith, h))
last_of_run v first (suc count) i h d =
    let l : Lit = record { var = first + count; positive = true } in
    elim (cases_lt i count) [
      | inl k ↦ last_of_run v first count i k (All-left (Decides v) (run first count) (l ∷ []) d)
      | inr k ↦
          let here : first + count ≡ first + i = omega (arith, h, k) in
          subst (λ n. IsSome (v n)) here (All-contains (Decides v) (run first count ++ l ∷ []) l d (Contains-append_right (run first count) (l ∷ []) l (Contains-head l [])))
    ]

same_tests : (a b c d : ℕ) → a ≡ b → c ≡ d → (nat_eq a b && nat_eq c d) ≡ true
same_tests a b c d e f =
    let p : nat_eq a b ≡ true = grind (arith, nat_tests, e) in
    let q : nat_eq c d ≡ true = grind (arith, nat_tests, f) in
    ap (λ z. z && nat_eq c d) p ∙ q

pub found_new : (xs : List Variable) (x : Variable) (width number : ℕ) → first_of xs width number ≡ None → x.width ≡ width → x.number ≡ number → first_of (xs ++ x ∷ []) width number ≡ Some x.first
found_new [] x width number e p q =
    let nothing : Option ℕ = None in
    ap (λ b. cond b (Some x.first) nothing) (same_tests x.width width x.number number p q)
found_new (y ∷ more) x width number e p q = by_test (is_same y width number) (λ h. found_new more x width number h p q) e
  where
    by_test : (b : Bool) → (first_of more width number ≡ None → first_of (more ++ x ∷ []) width number ≡ Some x.first)
        → cond b (Some y.first) (first_of more width number) ≡ None → cond b (Some y.first) (first_of (more ++ x ∷ []) width number) ≡ Some x.first
    by_test true later e = absurd (none-some y.first (sym e))
    by_test false later e = later e

pub variable_new : (b : Bits) (nodes : List Shape) (f : Formula) (root width number : ℕ) (x : Variable) → SatisfiedAlike → AllKnown f → IsOf b nodes f
    → x.width ≡ width → x.number ≡ number → x.first ≡ f.vars → first_of b.variables width number ≡ None → Occurs nodes width number root
    → IsBlasted b (with_variable b x) nodes f (more_vars f width) root
variable_new b nodes f root width number x alike all_known of is_width is_number is_first free occurs =
    let keeps = keeps_variable b x in
    let grows : Grows f (more_vars f width) = record { vars = omega arith; more = []; clauses = sym (append-nil f.clauses) } in
    record {
      known = record {
        sure = λ l e. record { known = omega (arith, (of.sure l e).known); clause = (of.sure l e).clause };
        variables = λ n k first e. elim (found_cases b.variables x n k first e) [
          | inl old ↦ omega (arith, of.variables n k first old)
          | inr p ↦ omega (arith, p.0, p.2, is_width, is_first)
        ];
        terms = λ id built. bits_later b (with_variable b x) nodes f (more_vars f width) id keeps grows built (of.terms id built);
      };
      grows = grows;
      keeps = keeps;
      extends = λ w t s a.
          let value = t.value_of width number in
          let u = filled w f.vars value in
          let older : (y : ℕ) → y < f.vars → u y ≡ w y = λ y h. filled_older w f.vars value y h in
          record {
            extended = u;
            agrees = older;
            satisfies = alike f w u all_known older s;
            spells = λ n k first e. elim (found_cases b.variables x n k first e) [
              | inl old ↦ spelled_agrees w u f.vars (run first n) older (run_known first n f.vars (of.variables n k first old)) ∙ a n k first old
              | inr p ↦
                  let at_width : n ≡ width = sym p.0 ∙ is_width in
                  let at_number : k ≡ number = sym p.1 ∙ is_number in
                  ap (λ m. spelled u (run m n)) (sym p.2 ∙ is_first) ∙ ap (λ m. spelled u (run f.vars m)) at_width
                  ∙ run_spells u f.vars width value (λ i h. filled_newer w f.vars value i) ∙ mod-eq_of_lt (t.below width number)
                  ∙ ap (λ m. t.value_of m number) (sym at_width) ∙ ap (λ m. t.value_of n m) (sym at_number)
            ];
          };
      decides = λ v r d y low high.
          let found = found_new b.variables x width number free is_width is_number ∙ ap (λ n. Some n) is_first in
          let all : DecidesAll v (run f.vars width) = d width number f.vars occurs found in
          let at : f.vars + (y - f.vars) ≡ y = omega (arith, low) in
          subst (λ n. IsSome (v n)) at (last_of_run v f.vars width (y - f.vars) (omega (arith, low, high)) all);
    }

-- the literals of a variable's node
pub variable_more : (b : Bits) (nodes : List Shape) (f : Formula) (id root width number first : ℕ) → IsOf b nodes f → id < length nodes → id < length b.terms → length (lits_at b.terms id) ≡ 0
    → slice_get nodes id ≡ Some (Var width number) → width_at nodes id ≡ width → width ≤ 64 → ((t : TermAssignment) → value_at t nodes id ≡ t.value_of width number)
    → first_of b.variables width number ≡ Some first
    → IsBlasted b (with_term b id (run first width)) nodes f f root
variable_more b nodes f id root width number first of within room free found is_width narrow value e =
    let here : lits_at (set b.terms id (run first width)) id ≡ run first width = get_or-set_same b.terms id (run first width) [] room in
    term_more b nodes f f id root (run first width) of (grows_none f) room free
    (record {
      within = within;
      count = ap (λ (l : List Lit). length l) here ∙ run_length first width ∙ sym is_width;
      narrow = omega (arith, ap (λ (l : List Lit). length l) here, run_length first width, narrow);
      known = subst (IsKnown f.vars) (sym here) (run_known first width f.vars (of.variables width number first e));
      value = λ w t s a. ap (spelled w) here ∙ a width number first e ∙ sym (value t);
      decided = λ v r d. subst (DecidesAll v) (sym here) (d width number first (Here id found) e);
      below = λ node at.
          let new = with_term b id (run first width) in
          subst (λ n. All (IsBuilt new) (children n)) (same_found (Var width number) node (sym found ∙ at)) (All-nil (IsBuilt new));
      variable = λ w n at.
          let same = same_found (Var width number) (Var w n) (sym found ∙ at) in
          let widths : width ≡ w = cc in
          let numbers : number ≡ n = cc in
          record {
            first = first;
            found = sym (ap (λ k. first_of b.variables k number) widths ∙ ap (λ k. first_of b.variables w k) numbers) ∙ e;
            literals = here ∙ ap (run first) widths;
          };
    })
    (λ w t s a. record { extended = w; agrees = λ x h. refl; satisfies = s; spells = a })
    (λ v r d x low high. absurd (omega (arith, low, high)))
