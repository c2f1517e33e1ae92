-- Differences and comparisons.
use Rattle.std.proofs.Common.{◌≡◌, ℕ, ◌+◌, ◌-◌, ◌*◌, ◌^◌, ◌<◌, ◌≤◌, Bool, true, false, cond, not, ◌&&◌, ◌||◌, List, [], ◌∷◌, map, length, get_or, take, refl, sym, ◌∙◌, ap, subst, arith, nat_eq, nat_lt}
use Rattle.std.specs.Prelude.{nat_le}
use Rattle.std.proofs.lemmas.List.Elements.{All-get_or, All-map}
use Rattle.std.proofs.lemmas.List.{take_all, length-map, length-take-le}
use Rattle.std.proofs.lemmas.Bool.Decides.{nat_tests}
use Rattle.bv_terms.specs.BitVectors.{bit_of, bits, is_negative, is_signed_less}
use Rattle.clause_store.specs.declared.lit.Lit.{Lit}
use Rattle.clause_store.specs.Literals.{Assignment, literal_value, opposite}
use Rattle.clause_store.specs.Formula.{Formula, IsKnown}
use Rattle.clause_store.specs.UnitRule.{Partial}
use Rattle.clause_store.proofs.Rest.{literal_value-opposite}
use Rattle.bit_gates.specs.Gate.{IsGate, BothGive, ChosenGives, joined, chosen, differ, agree, both}
use Rattle.bit_clauses.specs.Circuit.{IsCircuit, Decides, DecidesAll}
use Rattle.bit_clauses.specs.Spelled.{bit, spelled, values, number}
use Rattle.bit_clauses.proofs.Circuits.{chained, no_circuit, said}
use Rattle.bit_clauses.proofs.Gates.{by_gate, by_mux}
use Rattle.bit_clauses.proofs.Adders.{known_later}
use Rattle.bit_clauses.proofs.Numbers.{number-not, spelled-more, spelled_small}

values-opposite : (w : Assignment) (xs : List Lit) → values w (map opposite xs) ≡ map not (values w xs)
values-opposite w [] = refl
values-opposite w (x ∷ xs) = ap (λ b. b ∷ values w (map opposite xs)) (literal_value-opposite w x) ∙ ap (λ l. not (literal_value w x) ∷ l) (values-opposite w xs)

pub spelled-opposite : (w : Assignment) (xs : List Lit) → spelled w (map opposite xs) + spelled w xs + 1 ≡ 2 ^ length xs
spelled-opposite w xs =
    ap (λ l. number l + spelled w xs + 1) (values-opposite w xs) ∙ number-not (values w xs) ∙ ap (λ n. 2 ^ n) (length-map xs (literal_value w))

pub decides-opposite : (v : Partial) (xs : List Lit) → DecidesAll v xs → DecidesAll v (map opposite xs)
decides-opposite v xs h = All-map (Decides v) opposite xs h

pub known-opposite : (n : ℕ) (xs : List Lit) → IsKnown n xs → IsKnown n (map opposite xs)
known-opposite n xs h = All-map (λ (l : Lit). l.var < n) opposite xs h

-- a sum with the opposites, and one, is a difference
pub by_opposites : (w : Assignment) (left right sum : List Lit) (carry one_more : Lit) → literal_value w one_more ≡ true
    → spelled w sum + 2 ^ length left * bit w carry ≡ spelled w left + spelled w (map opposite right) + bit w one_more → length left ≡ length right
    → spelled w sum + 2 ^ length left * bit w carry + spelled w right ≡ spelled w left + 2 ^ length left
by_opposites w left right sum carry one_more is_yes e same =
    let turned = spelled-opposite w right in
    let one : bit w one_more ≡ 1 = ap bit_of is_yes in
    let width : 2 ^ length left ≡ 2 ^ length right = ap (λ n. 2 ^ n) same in
    omega (arith, e, turned, one, width)

pub difference : (old new : Formula) (left right turned sum : List Lit) (carry first : Lit) → turned ≡ map opposite right → length left ≡ length right
    → IsCircuit old new (λ v. DecidesAll v left × DecidesAll v turned × Decides v first) (λ v. DecidesAll v sum × Decides v carry)
    (λ w. spelled w sum + 2 ^ length left * bit w carry ≡ spelled w left + spelled w turned + bit w first)
    → IsCircuit old new (λ v. DecidesAll v left × DecidesAll v right × Decides v first) (λ v. DecidesAll v sum × Decides v carry)
    (λ w. literal_value w first ≡ true → spelled w sum + 2 ^ length left * bit w carry + spelled w right ≡ spelled w left + 2 ^ length left)
difference old new left right turned sum carry first e same circuit =
    said old new (λ v. DecidesAll v left × DecidesAll v right × Decides v first) (λ v. DecidesAll v left × DecidesAll v turned × Decides v first)
    (λ v. DecidesAll v sum × Decides v carry) (λ v. DecidesAll v sum × Decides v carry)
    (λ w. spelled w sum + 2 ^ length left * bit w carry ≡ spelled w left + spelled w turned + bit w first)
    (λ w. literal_value w first ≡ true → spelled w sum + 2 ^ length left * bit w carry + spelled w right ≡ spelled w left + 2 ^ length left)
    circuit (λ v g. (g.0, subst (DecidesAll v) (sym e) (decides-opposite v right g.1), g.2)) (λ v g h. h)
    (λ w m t. by_opposites w left right sum carry first t (m ∙ ap (λ l. spelled w left + spelled w l + bit w first) e) same)

-- what the carry of a difference says
no_borrow : (d p a b : ℕ) (c : Bool) → d + p * bit_of c + b ≡ a + p → d < p → a < p → not c ≡ nat_lt a b
no_borrow d p a b true e h k = let le : b ≤ a = omega (arith, e) in grind (arith, nat_tests, le)
no_borrow d p a b false e h k = let lt : a < b = omega (arith, e, h) in grind (arith, nat_tests, lt)

pub below_by_carry : (w : Assignment) (left right sum : List Lit) (carry : Lit) → length sum ≡ length left
    → spelled w sum + 2 ^ length left * bit w carry + spelled w right ≡ spelled w left + 2 ^ length left → literal_value w (opposite carry) ≡ nat_lt (spelled w left) (spelled w right)
below_by_carry w left right sum carry count e =
    literal_value-opposite w carry
    ∙ no_borrow (spelled w sum) (2 ^ length left) (spelled w left) (spelled w right) (literal_value w carry) e
    (subst (λ n. spelled w sum < 2 ^ n) count (spelled_small w sum)) (spelled_small w left)

-- ---- two's complement

top_bit : (p s : ℕ) (b : Bool) → s < p → nat_le p (s + p * bit_of b) ≡ b
top_bit p s true h = grind (arith, nat_tests)
top_bit p s false h = grind (arith, nat_tests, h)

pub negative_by_top : (w : Assignment) (xs : List Lit) (top : ℕ) (d : Lit) → top + 1 ≡ length xs → is_negative (bits (length xs) (spelled w xs)) ≡ literal_value w (get_or xs top d)
negative_by_top w xs top d e =
    let within : top < length xs = omega (arith, e) in
    let width : length xs - 1 ≡ top = omega (arith, e) in
    let whole : spelled w xs ≡ spelled w (take top xs) + 2 ^ top * bit w (get_or xs top d) =
    ap (spelled w) (sym (take_all (top + 1) xs (omega (arith, e)))) ∙ spelled-more w xs top d within in
    ap (λ n. nat_le (2 ^ n) (spelled w xs)) width ∙ ap (λ n. nat_le (2 ^ top) n) whole
    ∙ top_bit (2 ^ top) (spelled w (take top xs)) (literal_value w (get_or xs top d))
    (subst (λ n. spelled w (take top xs) < 2 ^ n) (length-take-le top xs (omega (arith, within))) (spelled_small w (take top xs)))

by_signs : (a b below : Bool) → cond (differ a b) a below ≡ ((a && not b) || (not (b && not a) && below))
by_signs true true true = refl
by_signs true true false = refl
by_signs true false true = refl
by_signs true false false = refl
by_signs false true true = refl
by_signs false true false = refl
by_signs false false true = refl
by_signs false false false = refl

pub signed_by_top : (w : Assignment) (left right : List Lit) (top : ℕ) (d below other out : Lit) → top + 1 ≡ length left → length left ≡ length right
    → literal_value w below ≡ nat_lt (spelled w left) (spelled w right)
    → literal_value w other ≡ differ (literal_value w (get_or left top d)) (literal_value w (get_or right top d))
    → literal_value w out ≡ cond (literal_value w other) (literal_value w (get_or left top d)) (literal_value w below)
    → literal_value w out ≡ is_signed_less (bits (length left) (spelled w left)) (bits (length left) (spelled w right))
signed_by_top w left right top d below other out e same f g h =
    let a = literal_value w (get_or left top d) in
    let b = literal_value w (get_or right top d) in
    let less = nat_lt (spelled w left) (spelled w right) in
    let left_sign = negative_by_top w left top d e in
    let right_sign = ap (λ n. is_negative (bits n (spelled w right))) same ∙ negative_by_top w right top d (e ∙ same) in
    h ∙ ap (λ x. cond x a (literal_value w below)) g ∙ ap (λ x. cond (differ a b) a x) f ∙ by_signs a b less
    ∙ ap (λ x. (x && not b) || (not (b && not x) && less)) (sym left_sign)
    ∙ ap (λ x. (is_negative (bits (length left) (spelled w left)) && not x) || (not (x && not (is_negative (bits (length left) (spelled w left)))) && less)) (sym right_sign)

-- ---- equality

eq_step : (l r p : ℕ) (x y : Bool) → l < p → r < p → nat_eq (l + p * bit_of x) (r + p * bit_of y) ≡ (nat_eq l r && agree x y)
eq_step l r p true true h k = grind (arith, nat_tests)
eq_step l r p false false h k = grind (arith, nat_tests)
eq_step l r p true false h k = grind (arith, nat_tests)
eq_step l r p false true h k = grind (arith, nat_tests)

pub alike_step : (mid half new : Formula) (a b all alike next : Lit) → IsGate mid half (joined agree a b) alike → BothGive agree half.clauses a b alike
    → IsGate half new (joined both all alike) next → BothGive both new.clauses all alike next
    → IsCircuit mid new (λ v. Decides v a × Decides v b × Decides v all) (λ v. Decides v next) (λ w. literal_value w next ≡ (literal_value w all && agree (literal_value w a) (literal_value w b)))
alike_step mid half new a b all alike next g1 r1 g2 r2 =
    chained mid half new (λ v. Decides v a × Decides v b × Decides v all) (λ v. Decides v alike) (λ v. Decides v all × Decides v alike) (λ v. Decides v next) (λ v. Decides v next)
    (λ w. literal_value w alike ≡ agree (literal_value w a) (literal_value w b)) (λ w. literal_value w next ≡ both (literal_value w all) (literal_value w alike))
    (λ w. literal_value w next ≡ (literal_value w all && agree (literal_value w a) (literal_value w b)))
    (said mid half (λ v. Decides v a × Decides v b × Decides v all) (λ v. Decides v a × Decides v b) (λ v. Decides v alike) (λ v. Decides v alike)
    (λ w. literal_value w alike ≡ agree (literal_value w a) (literal_value w b)) (λ w. literal_value w alike ≡ agree (literal_value w a) (literal_value w b))
    (by_gate mid half agree a b alike g1 r1) (λ v g. (g.0, g.1)) (λ v g h. h) (λ w m. m))
    (by_gate half new both all alike next g2 r2)
    (λ v g h. (g.2, h)) (λ v g h k. k) (λ w p q. q ∙ ap (λ b. literal_value w all && b) p)

-- the digits below i are equal exactly where this literal is true
pub record IsCompared (old new : Formula) (left right : List Lit) (first all : Lit) (i : ℕ) : Type 0 where
  pub circuit : IsCircuit old new (λ v. DecidesAll v left × DecidesAll v right × Decides v first) (λ v. Decides v all)
      (λ w. literal_value w first ≡ true → literal_value w all ≡ nat_eq (spelled w (take i left)) (spelled w (take i right)))
  pub left_known : IsKnown new.vars left
  pub right_known : IsKnown new.vars right
  pub all_known : all.var < new.vars

pub compared-none : (f : Formula) (left right : List Lit) (first : Lit) → IsKnown f.vars left → IsKnown f.vars right → first.var < f.vars → IsCompared f f left right first first 0
compared-none f left right first l r k = record {
  circuit = no_circuit f (λ v. DecidesAll v left × DecidesAll v right × Decides v first) (λ v. Decides v first) (λ w. literal_value w first ≡ true → literal_value w first ≡ true) (λ v g. g.2) (λ w t. t);
  left_known = l;
  right_known = r;
  all_known = k;
}

small : (w : Assignment) (xs : List Lit) (i : ℕ) → i < length xs → spelled w (take i xs) < 2 ^ i
small w xs i h = subst (λ n. spelled w (take i xs) < 2 ^ n) (length-take-le i xs (omega (arith, h))) (spelled_small w (take i xs))

pub compared-more : (old mid new : Formula) (left right : List Lit) (first all next : Lit) (i : ℕ) (d : Lit) → i < length left → length left ≡ length right
    → IsCompared old mid left right first all i
    → IsCircuit mid new (λ v. Decides v (get_or left i d) × Decides v (get_or right i d) × Decides v all) (λ v. Decides v next)
    (λ w. literal_value w next ≡ (literal_value w all && agree (literal_value w (get_or left i d)) (literal_value w (get_or right i d))))
    → next.var < new.vars → IsCompared old new left right first next (i + 1)
compared-more old mid new left right first all next i d within same before step known =
    let other : i < length right = omega (arith, within, same) in
    record {
      circuit = chained old mid new (λ v. DecidesAll v left × DecidesAll v right × Decides v first) (λ v. Decides v all)
          (λ v. Decides v (get_or left i d) × Decides v (get_or right i d) × Decides v all) (λ v. Decides v next) (λ v. Decides v next)
          (λ w. literal_value w first ≡ true → literal_value w all ≡ nat_eq (spelled w (take i left)) (spelled w (take i right)))
          (λ w. literal_value w next ≡ (literal_value w all && agree (literal_value w (get_or left i d)) (literal_value w (get_or right i d))))
          (λ w. literal_value w first ≡ true → literal_value w next ≡ nat_eq (spelled w (take (i + 1) left)) (spelled w (take (i + 1) right)))
          before.circuit step
          (λ v g h. (All-get_or (Decides v) left i d within g.0, All-get_or (Decides v) right i d other g.1, h))
          (λ v g h k. k)
          (λ w p q t.
          q ∙ ap (λ b. b && agree (literal_value w (get_or left i d)) (literal_value w (get_or right i d))) (p t)
          ∙ sym (eq_step (spelled w (take i left)) (spelled w (take i right)) (2 ^ i) (literal_value w (get_or left i d)) (literal_value w (get_or right i d)) (small w left i within) (small w right i other))
          ∙ ap (λ n. nat_eq n (spelled w (take i right) + 2 ^ i * bit w (get_or right i d))) (sym (spelled-more w left i d within))
          ∙ ap (λ n. nat_eq (spelled w (take (i + 1) left)) n) (sym (spelled-more w right i d other)));
      left_known = known_later mid.vars new.vars left step.grows.vars before.left_known;
      right_known = known_later mid.vars new.vars right step.grows.vars before.right_known;
      all_known = known;
    }

pub compared-all : (old new : Formula) (left right : List Lit) (first all : Lit) (i : ℕ) → length left ≤ i → length left ≡ length right → IsCompared old new left right first all i
    → IsCircuit old new (λ v. DecidesAll v left × DecidesAll v right × Decides v first) (λ v. Decides v all) (λ w. literal_value w first ≡ true → literal_value w all ≡ nat_eq (spelled w left) (spelled w right))
compared-all old new left right first all i h same done =
    said old new (λ v. DecidesAll v left × DecidesAll v right × Decides v first) (λ v. DecidesAll v left × DecidesAll v right × Decides v first) (λ v. Decides v all) (λ v. Decides v all)
    (λ w. literal_value w first ≡ true → literal_value w all ≡ nat_eq (spelled w (take i left)) (spelled w (take i right)))
    (λ w. literal_value w first ≡ true → literal_value w all ≡ nat_eq (spelled w left) (spelled w right))
    done.circuit (λ v g. g) (λ v g h. h)
    (λ w m t. m t ∙ ap (λ l. nat_eq (spelled w l) (spelled w (take i right))) (take_all i left h) ∙ ap (λ l. nat_eq (spelled w left) (spelled w l)) (take_all i right (omega (arith, h, same))))

pub signed_circuit : (f0 f1 f2 f3 : Formula) (left right : List Lit) (top : ℕ) (d first below other out : Lit) → top + 1 ≡ length left → length left ≡ length right
    → IsCircuit f0 f1 (λ v. DecidesAll v left × DecidesAll v right × Decides v first) (λ v. Decides v below) (λ w. literal_value w first ≡ true → literal_value w below ≡ nat_lt (spelled w left) (spelled w right))
    → IsGate f1 f2 (joined differ (get_or left top d) (get_or right top d)) other → BothGive differ f2.clauses (get_or left top d) (get_or right top d) other
    → IsGate f2 f3 (chosen other (get_or left top d) below) out → ChosenGives f3.clauses other (get_or left top d) below out
    → IsCircuit f0 f3 (λ v. DecidesAll v left × DecidesAll v right × Decides v first) (λ v. Decides v out)
    (λ w. literal_value w first ≡ true → literal_value w out ≡ is_signed_less (bits (length left) (spelled w left)) (bits (length left) (spelled w right)))
signed_circuit f0 f1 f2 f3 left right top d first below other out e same less g1 r1 g2 r2 =
    let a = get_or left top d in
    let b = get_or right top d in
    let within : top < length left = omega (arith, e) in
    let within_right : top < length right = omega (arith, e, same) in
    chained f0 f2 f3 (λ v. DecidesAll v left × DecidesAll v right × Decides v first) (λ v. Decides v below × Decides v other) (λ v. Decides v other × Decides v a × Decides v below) (λ v. Decides v out) (λ v. Decides v out)
    (λ w. (literal_value w first ≡ true → literal_value w below ≡ nat_lt (spelled w left) (spelled w right)) × (literal_value w other ≡ differ (literal_value w a) (literal_value w b)))
    (λ w. literal_value w out ≡ cond (literal_value w other) (literal_value w a) (literal_value w below))
    (λ w. literal_value w first ≡ true → literal_value w out ≡ is_signed_less (bits (length left) (spelled w left)) (bits (length left) (spelled w right)))
    (chained f0 f1 f2 (λ v. DecidesAll v left × DecidesAll v right × Decides v first) (λ v. Decides v below) (λ v. Decides v a × Decides v b) (λ v. Decides v other) (λ v. Decides v below × Decides v other)
    (λ w. literal_value w first ≡ true → literal_value w below ≡ nat_lt (spelled w left) (spelled w right)) (λ w. literal_value w other ≡ differ (literal_value w a) (literal_value w b))
    (λ w. (literal_value w first ≡ true → literal_value w below ≡ nat_lt (spelled w left) (spelled w right)) × (literal_value w other ≡ differ (literal_value w a) (literal_value w b)))
    less (by_gate f1 f2 differ a b other g1 r1)
    (λ v g h. (All-get_or (Decides v) left top d within g.0, All-get_or (Decides v) right top d within_right g.1)) (λ v g h k. (h, k)) (λ w p q. (p, q)))
    (by_mux f2 f3 other a below out g2 r2)
    (λ v g h. (h.1, All-get_or (Decides v) left top d within g.0, h.0)) (λ v g h k. k)
    (λ w p q t. signed_by_top w left right top d below other out e same (p.0 t) p.1 q)
