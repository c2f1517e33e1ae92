-- Sums.
use Rattle.std.proofs.Common.{◌≡◌, ℕ, ◌+◌, ◌*◌, ◌^◌, ◌<◌, ◌≤◌, Bool, true, false, cond, List, [], ◌∷◌, ◌++◌, length, get_or, take, refl, sym, ◌∙◌, ap, arith, length-append, add-one}
use Rattle.std.proofs.Math.Nat.{pow-suc}
use Rattle.std.proofs.lemmas.List.Elements.{All-get_or, All-push, All-nil, All-weaker}
use Rattle.std.proofs.lemmas.List.{take_all}
use Rattle.bv_terms.specs.BitVectors.{bit_of}
use Rattle.clause_store.specs.declared.lit.Lit.{Lit}
use Rattle.clause_store.specs.Literals.{Assignment, literal_value}
use Rattle.clause_store.specs.Formula.{Formula, IsKnown}
use Rattle.bit_gates.specs.Gate.{IsGate, BothGive, ChosenGives, joined, chosen, differ}
use Rattle.bit_clauses.specs.Circuit.{IsCircuit, Decides, DecidesAll}
use Rattle.bit_clauses.specs.Spelled.{bit, spelled}
use Rattle.bit_clauses.proofs.Circuits.{chained, no_circuit, said}
use Rattle.bit_clauses.proofs.Gates.{by_gate, by_mux}
use Rattle.bit_clauses.proofs.Numbers.{column, spelled-more, spelled-push}

three_bits : (a b c : Bool) → bit_of (differ (differ a b) c) + 2 * bit_of (cond (differ a b) c a) ≡ bit_of a + bit_of b + bit_of c
three_bits true true true = refl
three_bits true true false = refl
three_bits true false true = refl
three_bits true false false = refl
three_bits false true true = refl
three_bits false true false = refl
three_bits false false true = refl
three_bits false false false = refl

pub full_sum : (w : Assignment) (a b c half sum carry : Lit) → literal_value w half ≡ differ (literal_value w a) (literal_value w b)
    → literal_value w sum ≡ differ (literal_value w half) (literal_value w c) → literal_value w carry ≡ cond (literal_value w half) (literal_value w c) (literal_value w a)
    → bit w sum + 2 * bit w carry ≡ bit w a + bit w b + bit w c
full_sum w a b c half sum carry e f g =
    ap (λ s. bit_of s + 2 * bit w carry) (f ∙ ap (λ h. differ h (literal_value w c)) e)
    ∙ ap (λ d. bit_of (differ (differ (literal_value w a) (literal_value w b)) (literal_value w c)) + 2 * bit_of d) (g ∙ ap (λ h. cond h (literal_value w c) (literal_value w a)) e)
    ∙ three_bits (literal_value w a) (literal_value w b) (literal_value w c)

pub adds_three : (f0 f1 f2 f3 : Formula) (a b c half sum carry : Lit)
    → IsGate f0 f1 (joined differ a b) half → BothGive differ f1.clauses a b half
    → IsGate f1 f2 (joined differ half c) sum → BothGive differ f2.clauses half c sum
    → IsGate f2 f3 (chosen half c a) carry → ChosenGives f3.clauses half c a carry
    → IsCircuit f0 f3 (λ v. Decides v a × Decides v b × Decides v c) (λ v. Decides v sum × Decides v carry) (λ w. bit w sum + 2 * bit w carry ≡ bit w a + bit w b + bit w c)
adds_three f0 f1 f2 f3 a b c half sum carry g1 r1 g2 r2 g3 r3 =
    chained f0 f2 f3
    (λ v. Decides v a × Decides v b × Decides v c) (λ v. Decides v half × Decides v sum) (λ v. Decides v half × Decides v c × Decides v a) (λ v. Decides v carry) (λ v. Decides v sum × Decides v carry)
    (λ w. (literal_value w half ≡ differ (literal_value w a) (literal_value w b)) × (literal_value w sum ≡ differ (literal_value w half) (literal_value w c)))
    (λ w. literal_value w carry ≡ cond (literal_value w half) (literal_value w c) (literal_value w a))
    (λ w. bit w sum + 2 * bit w carry ≡ bit w a + bit w b + bit w c)
    (chained f0 f1 f2
    (λ v. Decides v a × Decides v b × Decides v c) (λ v. Decides v half) (λ v. Decides v half × Decides v c) (λ v. Decides v sum) (λ v. Decides v half × Decides v sum)
    (λ w. literal_value w half ≡ differ (literal_value w a) (literal_value w b)) (λ w. literal_value w sum ≡ differ (literal_value w half) (literal_value w c))
    (λ w. (literal_value w half ≡ differ (literal_value w a) (literal_value w b)) × (literal_value w sum ≡ differ (literal_value w half) (literal_value w c)))
    (said f0 f1 (λ v. Decides v a × Decides v b × Decides v c) (λ v. Decides v a × Decides v b) (λ v. Decides v half) (λ v. Decides v half) (λ w. literal_value w half ≡ differ (literal_value w a) (literal_value w b)) (λ w. literal_value w half ≡ differ (literal_value w a) (literal_value w b))
    (by_gate f0 f1 differ a b half g1 r1) (λ v g. (g.0, g.1)) (λ v g h. h) (λ w m. m))
    (by_gate f1 f2 differ half c sum g2 r2)
    (λ v g h. (h, g.2)) (λ v g h k. (h, k)) (λ w p q. (p, q)))
    (by_mux f2 f3 half c a carry g3 r3)
    (λ v g h. (h.0, g.2, g.0)) (λ v g h k. (h.1, k)) (λ w p q. full_sum w a b c half sum carry p.0 p.1 q)

-- ---- column by column

pub pow-more : (i : ℕ) → 2 ^ (i + 1) ≡ 2 ^ i * 2
pow-more i = ap (λ n. 2 ^ n) (add-one i) ∙ pow-suc 2 i

pub known_later : (few many : ℕ) (lits : List Lit) → few ≤ many → IsKnown few lits → IsKnown many lits
known_later few many lits h known = All-weaker (λ (l : Lit). l.var < few) (λ (l : Lit). l.var < many) (λ l k. omega (arith, h, k)) lits known

-- the columns below i have been summed
pub record IsSummed (old new : Formula) (left right bits : List Lit) (first carry : Lit) (i : ℕ) : Type 0 where
  pub circuit : IsCircuit old new (λ v. DecidesAll v left × DecidesAll v right × Decides v first) (λ v. DecidesAll v bits × Decides v carry)
      (λ w. spelled w bits + 2 ^ i * bit w carry ≡ spelled w (take i left) + spelled w (take i right) + bit w first)
  pub count : length bits ≡ i
  pub left_known : IsKnown new.vars left
  pub right_known : IsKnown new.vars right
  pub bits_known : IsKnown new.vars bits
  pub carry_known : carry.var < new.vars

pub summed-none : (f : Formula) (left right : List Lit) (first : Lit) → IsKnown f.vars left → IsKnown f.vars right → first.var < f.vars → IsSummed f f left right [] first first 0
summed-none f left right first l r c = record {
  circuit = no_circuit f (λ v. DecidesAll v left × DecidesAll v right × Decides v first) (λ v. DecidesAll v [] × Decides v first)
      (λ w. 0 + 2 ^ 0 * bit w first ≡ 0 + 0 + bit w first)
      (λ v g. (All-nil (Decides v), g.2)) (λ w. omega arith);
  count = refl;
  left_known = l;
  right_known = r;
  bits_known = All-nil (λ (l : Lit). l.var < f.vars);
  carry_known = c;
}

pub summed-more : (old mid new : Formula) (left right bits : List Lit) (first carry sum next : Lit) (i : ℕ) (d : Lit) → i < length left → length left ≡ length right
    → IsSummed old mid left right bits first carry i
    → IsCircuit mid new (λ v. Decides v (get_or left i d) × Decides v (get_or right i d) × Decides v carry) (λ v. Decides v sum × Decides v next)
    (λ w. bit w sum + 2 * bit w next ≡ bit w (get_or left i d) + bit w (get_or right i d) + bit w carry)
    → sum.var < new.vars → next.var < new.vars
    → IsSummed old new left right (bits ++ sum ∷ []) first next (i + 1)
summed-more old mid new left right bits first carry sum next i d within same before step sum_known next_known = record {
  circuit = chained old mid new
      (λ v. DecidesAll v left × DecidesAll v right × Decides v first) (λ v. DecidesAll v bits × Decides v carry)
      (λ v. Decides v (get_or left i d) × Decides v (get_or right i d) × Decides v carry) (λ v. Decides v sum × Decides v next)
      (λ v. DecidesAll v (bits ++ sum ∷ []) × Decides v next)
      (λ w. spelled w bits + 2 ^ i * bit w carry ≡ spelled w (take i left) + spelled w (take i right) + bit w first)
      (λ w. bit w sum + 2 * bit w next ≡ bit w (get_or left i d) + bit w (get_or right i d) + bit w carry)
      (λ w. spelled w (bits ++ sum ∷ []) + 2 ^ (i + 1) * bit w next ≡ spelled w (take (i + 1) left) + spelled w (take (i + 1) right) + bit w first)
      before.circuit step
      (λ v g h. (All-get_or (Decides v) left i d within g.0, All-get_or (Decides v) right i d (omega (arith, within, same)) g.1, h.1))
      (λ v g h k. (All-push (Decides v) bits sum h.0 k.0, k.1))
      (λ w p q. sum_step w p q);
  count = length-append bits (sum ∷ []) ∙ ap (λ n. n + 1) before.count;
  left_known = known_later mid.vars new.vars left step.grows.vars before.left_known;
  right_known = known_later mid.vars new.vars right step.grows.vars before.right_known;
  bits_known = All-push (λ (l : Lit). l.var < new.vars) bits sum (known_later mid.vars new.vars bits step.grows.vars before.bits_known) sum_known;
  carry_known = next_known;
}
  where
    sum_step : (w : Assignment) → spelled w bits + 2 ^ i * bit w carry ≡ spelled w (take i left) + spelled w (take i right) + bit w first
        → bit w sum + 2 * bit w next ≡ bit w (get_or left i d) + bit w (get_or right i d) + bit w carry
        → spelled w (bits ++ sum ∷ []) + 2 ^ (i + 1) * bit w next ≡ spelled w (take (i + 1) left) + spelled w (take (i + 1) right) + bit w first
    sum_step w p q =
        ap (λ n. n + 2 ^ (i + 1) * bit w next) (spelled-push w bits sum ∙ ap (λ n. spelled w bits + 2 ^ n * bit w sum) before.count)
        ∙ ap (λ n. spelled w bits + 2 ^ i * bit w sum + n * bit w next) (pow-more i)
        ∙ column (2 ^ i) (spelled w bits) (spelled w (take i left)) (spelled w (take i right)) (bit w first) (bit w carry) (bit w (get_or left i d)) (bit w (get_or right i d)) (bit w sum) (bit w next) p q
        ∙ ap (λ n. n + (spelled w (take i right) + 2 ^ i * bit w (get_or right i d)) + bit w first) (sym (spelled-more w left i d within))
        ∙ ap (λ n. spelled w (take (i + 1) left) + n + bit w first) (sym (spelled-more w right i d (omega (arith, within, same))))

pub summed-all : (old new : Formula) (left right bits : List Lit) (first carry : Lit) → length left ≡ length right → IsSummed old new left right bits first carry (length left)
    → IsCircuit old new (λ v. DecidesAll v left × DecidesAll v right × Decides v first) (λ v. DecidesAll v bits × Decides v carry)
    (λ w. spelled w bits + 2 ^ length left * bit w carry ≡ spelled w left + spelled w right + bit w first)
summed-all old new left right bits first carry same all =
    said old new (λ v. DecidesAll v left × DecidesAll v right × Decides v first) (λ v. DecidesAll v left × DecidesAll v right × Decides v first) (λ v. DecidesAll v bits × Decides v carry) (λ v. DecidesAll v bits × Decides v carry)
    (λ w. spelled w bits + 2 ^ length left * bit w carry ≡ spelled w (take (length left) left) + spelled w (take (length left) right) + bit w first)
    (λ w. spelled w bits + 2 ^ length left * bit w carry ≡ spelled w left + spelled w right + bit w first)
    all.circuit (λ v g. g) (λ v g h. h)
    (λ w m. m ∙ ap (λ l. spelled w l + spelled w (take (length left) right) + bit w first) (take_all (length left) left (omega arith)) ∙ ap (λ l. spelled w left + spelled w l + bit w first) (take_all (length left) right (omega (arith, same))))
