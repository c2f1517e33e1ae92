-- Long division.
use Rattle.std.proofs.Common.{◌≡◌, ℕ, suc, zero, ◌+◌, ◌-◌, ◌*◌, ◌/◌, ◌%◌, ◌^◌, ◌<◌, ◌≤◌, Bool, true, false, cond, not, List, [], ◌∷◌, ◌++◌, length, get_or, take, drop, refl, sym, ◌∙◌, ap, subst, arith, length-drop, add-one, nat_lt, nat_eq, inl, inr}
use Rattle.std.specs.Prelude.{nat_le, replicate}
use Rattle.std.proofs.Math.Pow.{pow_mono}
use Rattle.std.proofs.lemmas.List.{drop_all, drop_more, length-replicate}
use Rattle.std.proofs.Math.Nat.{mod-eq_of_lt}
use Rattle.std.proofs.lemmas.Nat.{div-mul-add, mod-mul-add}
use Rattle.std.proofs.lemmas.Bool.{cases_lt}
use Rattle.std.proofs.lemmas.Bool.Decides.{nat_tests}
use Rattle.std.proofs.lemmas.List.Elements.{All-get_or, All-push, All-nil, All-take, All-cons, All-replicate}
use Rattle.bv_terms.specs.BitVectors.{bit_of, bits, udiv_value, urem_value}
use Rattle.clause_store.specs.declared.lit.Lit.{Lit}
use Rattle.clause_store.specs.Literals.{Assignment, literal_value, opposite}
use Rattle.clause_store.specs.Formula.{Formula, IsKnown}
use Rattle.clause_store.specs.UnitRule.{Partial}
use Rattle.clause_store.proofs.Rest.{literal_value-opposite}
use Rattle.bit_clauses.specs.Circuit.{IsCircuit, Decides, DecidesAll}
use Rattle.bit_clauses.specs.Division.{IsDigit}
use Rattle.bit_clauses.specs.Spelled.{bit, spelled}
use Rattle.bit_clauses.proofs.Circuits.{chained, no_circuit, said}
use Rattle.bit_clauses.proofs.Adders.{known_later, pow-more}
use Rattle.bit_clauses.proofs.Comparisons.{below_by_carry}
use Rattle.bit_clauses.proofs.Products.{spelled-take, spelled-replicate}
use Rattle.bit_clauses.proofs.Numbers.{bit_small, spelled-push, spelled_small}

not_below : (c : Bool) (a b : ℕ) → not c ≡ nat_lt a b → c ≡ nat_le b a
not_below true a b e = grind (arith, nat_tests, e)
not_below false a b e = grind (arith, nat_tests, e)

-- what is chosen, when the difference is taken where nothing was borrowed
remains_by : (c : Bool) (left sum a b p : ℕ) → left ≡ cond c sum a → sum + p * bit_of c + b ≡ a + p → c ≡ nat_le b a → left ≡ cond (nat_le b a) (a - b) a
remains_by true left sum a b p e f g = e ∙ (let s : sum ≡ a - b = omega (arith, f) in s) ∙ ap (λ t. cond t (a - b) a) g
remains_by false left sum a b p e f g = e ∙ ap (λ t. cond t (a - b) a) g

pub digit_value : (w : Assignment) (taken wide divisor sum left rest : List Lit) (carry first : Lit) → wide ≡ divisor ++ opposite first ∷ [] → rest ≡ take (length divisor) left
    → length sum ≡ length taken → length left ≡ length divisor + 1 → literal_value w first ≡ true
    → spelled w sum + 2 ^ length taken * bit w carry + spelled w wide ≡ spelled w taken + 2 ^ length taken
    → spelled w left ≡ cond (literal_value w carry) (spelled w sum) (spelled w taken)
    → IsDigit (spelled w taken) (spelled w divisor) (2 ^ length divisor) (literal_value w carry) (spelled w rest)
digit_value w taken wide divisor sum left rest carry first wide_is rest_is count left_count first_is e f =
    let top : bit w (opposite first) ≡ 0 = ap bit_of (literal_value-opposite w first ∙ ap not first_is) in
    let small : spelled w wide ≡ spelled w divisor = ap (spelled w) wide_is ∙ spelled-push w divisor (opposite first) ∙ ap (λ n. spelled w divisor + 2 ^ length divisor * n) top ∙ nothing_more (spelled w divisor) (2 ^ length divisor) in
    let taken_away : spelled w sum + 2 ^ length taken * bit w carry + spelled w divisor ≡ spelled w taken + 2 ^ length taken = ap (λ n. spelled w sum + 2 ^ length taken * bit w carry + n) (sym small) ∙ e in
    let goes : literal_value w carry ≡ nat_le (spelled w divisor) (spelled w taken) =
    not_below (literal_value w carry) (spelled w taken) (spelled w divisor) (sym (literal_value-opposite w carry) ∙ below_by_carry w taken divisor sum carry count taken_away) in
    record {
      goes = goes;
      remains = ap (spelled w) rest_is ∙ spelled-take w left (length divisor) (omega (arith, left_count))
          ∙ ap (λ n. n % 2 ^ length divisor) (remains_by (literal_value w carry) (spelled w left) (spelled w sum) (spelled w taken) (spelled w divisor) (2 ^ length taken) f taken_away goes);
    }
  where
    nothing_more : (a p : ℕ) → a + p * 0 ≡ a
    nothing_more a p = omega arith

pub digit_circuit : (f0 f1 f2 : Formula) (digit : Lit) (rest divisor taken wide sum left after : List Lit) (carry first : Lit) → taken ≡ digit ∷ rest → wide ≡ divisor ++ opposite first ∷ [] → after ≡ take (length divisor) left
    → length sum ≡ length taken → length left ≡ length divisor + 1
    → IsCircuit f0 f1 (λ v. DecidesAll v taken × DecidesAll v wide × Decides v first) (λ v. DecidesAll v sum × Decides v carry)
    (λ w. literal_value w first ≡ true → spelled w sum + 2 ^ length taken * bit w carry + spelled w wide ≡ spelled w taken + 2 ^ length taken)
    → IsCircuit f1 f2 (λ v. Decides v carry × DecidesAll v sum × DecidesAll v taken) (λ v. DecidesAll v left) (λ w. spelled w left ≡ cond (literal_value w carry) (spelled w sum) (spelled w taken))
    → IsCircuit f0 f2 (λ v. Decides v digit × DecidesAll v rest × DecidesAll v divisor × Decides v first) (λ v. Decides v carry × DecidesAll v after)
    (λ w. literal_value w first ≡ true → IsDigit (bit w digit + 2 * spelled w rest) (spelled w divisor) (2 ^ length divisor) (literal_value w carry) (spelled w after))
digit_circuit f0 f1 f2 digit rest divisor taken wide sum left after carry first taken_is wide_is after_is count left_count one two =
    let taken_decided : (v : Partial) → Decides v digit → DecidesAll v rest → DecidesAll v taken = λ v g h. subst (DecidesAll v) (sym taken_is) (All-cons (Decides v) digit rest g h) in
    chained f0 f1 f2 (λ v. Decides v digit × DecidesAll v rest × DecidesAll v divisor × Decides v first) (λ v. DecidesAll v sum × Decides v carry)
    (λ v. Decides v carry × DecidesAll v sum × DecidesAll v taken) (λ v. DecidesAll v left) (λ v. Decides v carry × DecidesAll v after)
    (λ w. literal_value w first ≡ true → spelled w sum + 2 ^ length taken * bit w carry + spelled w wide ≡ spelled w taken + 2 ^ length taken)
    (λ w. spelled w left ≡ cond (literal_value w carry) (spelled w sum) (spelled w taken))
    (λ w. literal_value w first ≡ true → IsDigit (bit w digit + 2 * spelled w rest) (spelled w divisor) (2 ^ length divisor) (literal_value w carry) (spelled w after))
    (said f0 f1 (λ v. Decides v digit × DecidesAll v rest × DecidesAll v divisor × Decides v first) (λ v. DecidesAll v taken × DecidesAll v wide × Decides v first)
    (λ v. DecidesAll v sum × Decides v carry) (λ v. DecidesAll v sum × Decides v carry)
    (λ w. literal_value w first ≡ true → spelled w sum + 2 ^ length taken * bit w carry + spelled w wide ≡ spelled w taken + 2 ^ length taken)
    (λ w. literal_value w first ≡ true → spelled w sum + 2 ^ length taken * bit w carry + spelled w wide ≡ spelled w taken + 2 ^ length taken)
    one (λ v g. (taken_decided v g.0 g.1, subst (DecidesAll v) (sym wide_is) (All-push (Decides v) divisor (opposite first) g.2 g.3), g.3)) (λ v g h. h) (λ w m. m))
    two
    (λ v g h. (h.1, h.0, taken_decided v g.0 g.1))
    (λ v g h k. (h.1, subst (DecidesAll v) (sym after_is) (All-take (Decides v) (length divisor) left k)))
    (λ w p q t. subst (λ n. IsDigit n (spelled w divisor) (2 ^ length divisor) (literal_value w carry) (spelled w after)) (ap (spelled w) taken_is)
    (digit_value w taken wide divisor sum left after carry first wide_is after_is count left_count t (p t) q))

-- ---- all digits

-- a long division of the first k digits
pub record IsLongDivision (number divisor k quotient rest : ℕ) : Type 0 where
  pub whole : number ≡ quotient * divisor + rest
  pub below : 0 < divisor → rest < divisor
  pub none : divisor ≡ 0 → quotient + 1 ≡ 2 ^ k

times_zero : (q r : ℕ) → q * 0 + r ≡ r
times_zero q r = omega arith

goes_whole : (n d q r a after : ℕ) → n ≡ q * d + r → d ≤ a + 2 * r → after ≡ a + 2 * r - d → a + 2 * n ≡ (1 + 2 * q) * d + after
goes_whole n d q r a after e h f = let g : after + d ≡ a + 2 * r = omega (arith, h, f) in omega (arith, e, g)

stays_whole : (n d q r a after : ℕ) → n ≡ q * d + r → after ≡ a + 2 * r → a + 2 * n ≡ (0 + 2 * q) * d + after
stays_whole n d q r a after e f = omega (arith, e, f)

le_from : (a b : ℕ) → nat_le a b ≡ true → a ≤ b
le_from a b e = grind (arith, nat_tests, e)

lt_from : (a b : ℕ) → nat_le a b ≡ false → b < a
lt_from a b e = grind (arith, nat_tests, e)

goes_in : (n d k q r a p after : ℕ) → IsLongDivision n d k q r → a ≤ 1 → a + 2 * n < p → d < p → d ≤ a + 2 * r → after ≡ (a + 2 * r - d) % p → IsLongDivision (a + 2 * n) d (k + 1) (1 + 2 * q) after
goes_in n d k q r a p after so small room fits goes e =
    let whole_before = so.whole in
    let within : a + 2 * r - d < p = elim (cases_lt 0 d) [ inl h ↦ (let b = so.below h in omega (arith, b, small, fits)) | inr h ↦ (let z : d ≡ 0 = omega (arith, h) in let all : n ≡ r = so.whole ∙ ap (λ x. q * x + r) z ∙ times_zero q r in omega (arith, all, room)) ] in
    let is : after ≡ a + 2 * r - d = e ∙ mod-eq_of_lt within in
    record {
      whole = goes_whole n d q r a after so.whole goes is;
      below = λ h. (let b = so.below h in omega (arith, b, small, is, goes));
      none = λ z. (let last = so.none z in let twice = pow-more k in omega (arith, last, twice));
    }

stays_out : (n d k q r a p after : ℕ) → IsLongDivision n d k q r → d < p → a + 2 * r < d → after ≡ (a + 2 * r) % p → IsLongDivision (a + 2 * n) d (k + 1) (0 + 2 * q) after
stays_out n d k q r a p after so fits out e =
    let is : after ≡ a + 2 * r = e ∙ mod-eq_of_lt (omega (arith, out, fits)) in
    record {
      whole = stays_whole n d q r a after so.whole is;
      below = λ h. omega (arith, is, out);
      none = λ z. absurd (omega (arith, out, z));
    }

pub next_division : (n d k q r a p after : ℕ) (goes : Bool) → IsLongDivision n d k q r → a ≤ 1 → a + 2 * n < p → d < p → IsDigit (a + 2 * r) d p goes after → IsLongDivision (a + 2 * n) d (k + 1) (bit_of goes + 2 * q) after
next_division n d k q r a p after true so small room fits digit =
    let in' : d ≤ a + 2 * r = le_from d (a + 2 * r) (sym digit.goes) in
    goes_in n d k q r a p after so small room fits in' (digit.remains ∙ ap (λ b. cond b (a + 2 * r - d) (a + 2 * r) % p) (sym digit.goes))
next_division n d k q r a p after false so small room fits digit =
    let out : a + 2 * r < d = lt_from d (a + 2 * r) (sym digit.goes) in
    stays_out n d k q r a p after so fits out (digit.remains ∙ ap (λ b. cond b (a + 2 * r - d) (a + 2 * r) % p) (sym digit.goes))

not_zero : (d : ℕ) → nat_eq (suc d) 0 ≡ false
not_zero d = grind (arith, nat_tests)

pub quotient_is : (n d k q r : ℕ) → IsLongDivision n d k q r → q ≡ udiv_value (bits k n) (bits k d)
quotient_is n zero k q r so = let last = so.none refl in omega (arith, last)
quotient_is n (suc d) k q r so = sym (ap (λ b. cond b (2 ^ k - 1) (n / suc d)) (not_zero d) ∙ ap (λ x. x / suc d) so.whole ∙ div-mul-add q (suc d) r (so.below (omega arith)))

pub remainder_is : (n d k q r : ℕ) → IsLongDivision n d k q r → r ≡ urem_value (bits k n) (bits k d)
remainder_is n zero k q r so = sym (so.whole ∙ times_zero q r)
remainder_is n (suc d) k q r so = sym (ap (λ b. cond b n (n % suc d)) (not_zero d) ∙ ap (λ x. x % suc d) so.whole ∙ mod-mul-add q (suc d) r (so.below (omega arith)))

-- the highest digits, so many as i, have been divided
pub record IsDivided (old new : Formula) (left right quotient rest : List Lit) (first : Lit) (i : ℕ) : Type 0 where
  pub circuit : IsCircuit old new (λ v. DecidesAll v left × DecidesAll v right × Decides v first) (λ v. DecidesAll v quotient × DecidesAll v rest)
      (λ w. literal_value w first ≡ true → IsLongDivision (spelled w (drop (length left - i) left)) (spelled w right) i (spelled w quotient) (spelled w rest))
  pub quotient_count : length quotient ≡ i
  pub rest_count : length rest ≡ length right
  pub left_known : IsKnown new.vars left
  pub right_known : IsKnown new.vars right
  pub quotient_known : IsKnown new.vars quotient
  pub rest_known : IsKnown new.vars rest
  pub first_known : first.var < new.vars

division_none : (d : ℕ) → IsLongDivision 0 d 0 0 0
division_none d = record { whole = omega arith; below = λ h. h; none = λ z. refl }

pub divided-none : (f : Formula) (left right rest : List Lit) (first : Lit) → rest ≡ replicate (length right) (opposite first) → IsKnown f.vars left → IsKnown f.vars right → first.var < f.vars
    → IsDivided f f left right [] rest first 0
divided-none f left right rest first e l r k = subst (λ h. IsDivided f f left right [] h first 0) (sym e) (record {
  circuit = no_circuit f (λ v. DecidesAll v left × DecidesAll v right × Decides v first) (λ v. DecidesAll v [] × DecidesAll v (replicate (length right) (opposite first)))
      (λ w. literal_value w first ≡ true → IsLongDivision (spelled w (drop (length left - 0) left)) (spelled w right) 0 0 (spelled w (replicate (length right) (opposite first))))
      (λ v g. (All-nil (Decides v), All-replicate (Decides v) (length right) (opposite first) g.2))
      (λ w t.
      subst (λ n. IsLongDivision (spelled w (drop (length left - 0) left)) (spelled w right) 0 0 n) (sym (spelled-replicate w (length right) (opposite first) (literal_value-opposite w first ∙ ap not t)))
      (subst (λ l. IsLongDivision (spelled w l) (spelled w right) 0 0 0) (sym (drop_all (length left - 0) left (omega arith))) (division_none (spelled w right))));
  quotient_count = refl;
  rest_count = length-replicate (length right) (opposite first);
  left_known = l;
  right_known = r;
  quotient_known = All-nil (λ (x : Lit). x.var < f.vars);
  rest_known = All-replicate (λ (x : Lit). x.var < f.vars) (length right) (opposite first) k;
  first_known = k;
})

-- one digit more of the number that is divided
digit_more : (w : Assignment) (xs : List Lit) (i at : ℕ) (d : Lit) → at + (i + 1) ≡ length xs → spelled w (drop (length xs - (i + 1)) xs) ≡ bit w (get_or xs at d) + 2 * spelled w (drop (length xs - i) xs)
digit_more w xs i at d e =
    let here : length xs - (i + 1) ≡ at = omega (arith, e) in
    let next : at + 1 ≡ length xs - i = omega (arith, e) in
    ap (λ n. spelled w (drop n xs)) here ∙ ap (spelled w) (drop_more xs at d (omega (arith, e))) ∙ ap (λ n. bit w (get_or xs at d) + 2 * spelled w (drop n xs)) next

rest_small : (w : Assignment) (xs : List Lit) (k : ℕ) → spelled w (drop k xs) < 2 ^ length xs
rest_small w xs k =
    let count = length-drop k xs in
    let fewer : 2 ^ length (drop k xs) ≤ 2 ^ length xs = pow_mono (omega (arith, count)) in
    let below = spelled_small w (drop k xs) in
    omega (arith, fewer, below)

pub divided-more : (old mid new : Formula) (left right quotient rest more after : List Lit) (first goes : Lit) (i at : ℕ) (d : Lit) → at + (i + 1) ≡ length left → length left ≡ length right
    → IsDivided old mid left right quotient rest first i
    → IsCircuit mid new (λ v. Decides v (get_or left at d) × DecidesAll v rest × DecidesAll v right × Decides v first) (λ v. Decides v goes × DecidesAll v after)
    (λ w. literal_value w first ≡ true → IsDigit (bit w (get_or left at d) + 2 * spelled w rest) (spelled w right) (2 ^ length right) (literal_value w goes) (spelled w after))
    → goes.var < new.vars → IsKnown new.vars after → length after ≡ length right → more ≡ goes ∷ quotient
    → IsDivided old new left right more after first (i + 1)
divided-more old mid new left right quotient rest more after first goes i at d place same before step goes_known after_known count e =
    subst (λ l. IsDivided old new left right l after first (i + 1)) (sym e) (record {
      circuit = chained old mid new (λ v. DecidesAll v left × DecidesAll v right × Decides v first) (λ v. DecidesAll v quotient × DecidesAll v rest)
          (λ v. Decides v (get_or left at d) × DecidesAll v rest × DecidesAll v right × Decides v first) (λ v. Decides v goes × DecidesAll v after) (λ v. DecidesAll v (goes ∷ quotient) × DecidesAll v after)
          (λ w. literal_value w first ≡ true → IsLongDivision (spelled w (drop (length left - i) left)) (spelled w right) i (spelled w quotient) (spelled w rest))
          (λ w. literal_value w first ≡ true → IsDigit (bit w (get_or left at d) + 2 * spelled w rest) (spelled w right) (2 ^ length right) (literal_value w goes) (spelled w after))
          (λ w. literal_value w first ≡ true → IsLongDivision (spelled w (drop (length left - (i + 1)) left)) (spelled w right) (i + 1) (bit w goes + 2 * spelled w quotient) (spelled w after))
          before.circuit step
          (λ v g h. (All-get_or (Decides v) left at d (omega (arith, place)) g.0, h.1, g.1, g.2))
          (λ v g h k. (All-cons (Decides v) goes quotient k.0 h.0, k.1))
          (λ w p q t.
          let number = digit_more w left i at d place in
          let room : bit w (get_or left at d) + 2 * spelled w (drop (length left - i) left) < 2 ^ length right =
          subst (λ n. n < 2 ^ length right) number (subst (λ n. spelled w (drop (length left - (i + 1)) left) < 2 ^ n) same (rest_small w left (length left - (i + 1)))) in
          subst (λ n. IsLongDivision n (spelled w right) (i + 1) (bit w goes + 2 * spelled w quotient) (spelled w after)) (sym number)
          (next_division (spelled w (drop (length left - i) left)) (spelled w right) i (spelled w quotient) (spelled w rest) (bit w (get_or left at d)) (2 ^ length right) (spelled w after) (literal_value w goes)
          (p t) (bit_small (literal_value w (get_or left at d))) room (spelled_small w right) (q t)));
      quotient_count = ap suc before.quotient_count ∙ sym (add-one i);
      rest_count = count;
      left_known = known_later mid.vars new.vars left step.grows.vars before.left_known;
      right_known = known_later mid.vars new.vars right step.grows.vars before.right_known;
      quotient_known = All-cons (λ (x : Lit). x.var < new.vars) goes quotient goes_known (known_later mid.vars new.vars quotient step.grows.vars before.quotient_known);
      rest_known = after_known;
      first_known = omega (arith, before.first_known, step.grows.vars);
    })

pub divided-all : (old new : Formula) (left right quotient rest : List Lit) (first : Lit) (i : ℕ) → i ≡ length left → IsDivided old new left right quotient rest first i
    → IsCircuit old new (λ v. DecidesAll v left × DecidesAll v right × Decides v first) (λ v. DecidesAll v quotient × DecidesAll v rest)
    (λ w. literal_value w first ≡ true → (spelled w quotient ≡ udiv_value (bits (length left) (spelled w left)) (bits (length left) (spelled w right)))
    × (spelled w rest ≡ urem_value (bits (length left) (spelled w left)) (bits (length left) (spelled w right))))
divided-all old new left right quotient rest first i e done =
    said old new (λ v. DecidesAll v left × DecidesAll v right × Decides v first) (λ v. DecidesAll v left × DecidesAll v right × Decides v first) (λ v. DecidesAll v quotient × DecidesAll v rest) (λ v. DecidesAll v quotient × DecidesAll v rest)
    (λ w. literal_value w first ≡ true → IsLongDivision (spelled w (drop (length left - i) left)) (spelled w right) i (spelled w quotient) (spelled w rest))
    (λ w. literal_value w first ≡ true → (spelled w quotient ≡ udiv_value (bits (length left) (spelled w left)) (bits (length left) (spelled w right)))
    × (spelled w rest ≡ urem_value (bits (length left) (spelled w left)) (bits (length left) (spelled w right))))
    done.circuit (λ v g. g) (λ v g h. h)
    (λ w m t.
    let all : length left - i ≡ 0 = omega (arith, e) in
    let whole : IsLongDivision (spelled w left) (spelled w right) (length left) (spelled w quotient) (spelled w rest) =
    subst (λ k. IsLongDivision (spelled w left) (spelled w right) k (spelled w quotient) (spelled w rest)) e
    (subst (λ n. IsLongDivision (spelled w (drop n left)) (spelled w right) i (spelled w quotient) (spelled w rest)) all (m t)) in (
      quotient_is (spelled w left) (spelled w right) (length left) (spelled w quotient) (spelled w rest) whole,
      remainder_is (spelled w left) (spelled w right) (length left) (spelled w quotient) (spelled w rest) whole,
    ))
