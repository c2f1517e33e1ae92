-- Products: the sum of shifted rows.
use Rattle.std.proofs.Common.{◌≡◌, ℕ, suc, zero, ◌+◌, ◌*◌, ◌/◌, ◌%◌, ◌^◌, ◌<◌, ◌≤◌, Bool, true, false, cond, List, [], ◌∷◌, ◌++◌, length, get_or, take, drop, refl, sym, ◌∙◌, ap, subst, arith, length-append}
use Rattle.std.specs.Prelude.{replicate}
use Rattle.std.proofs.Math.Nat.{mod-eq_of_lt}
use Rattle.std.proofs.lemmas.Nat.{pow_pos, pow-add, mod-mul-add, shr_split, mod_below, mul-add-lt, div-add-mod'}
use Rattle.std.proofs.lemmas.List.Elements.{All-get_or, All-push, All-nil, All-take, All-drop, All-replicate}
use Rattle.std.proofs.lemmas.List.{take_all, take-append-drop, length-take-le, length-replicate, nil_from_length}
use Rattle.bv_terms.specs.BitVectors.{bit_of}
use Rattle.clause_store.specs.declared.lit.Lit.{Lit}
use Rattle.clause_store.specs.Literals.{Assignment, literal_value}
use Rattle.clause_store.specs.Formula.{Formula, IsKnown}
use Rattle.bit_clauses.specs.Circuit.{IsCircuit, Decides, DecidesAll}
use Rattle.bit_clauses.specs.Spelled.{bit, spelled}
use Rattle.bit_clauses.proofs.Circuits.{chained, no_circuit, said}
use Rattle.bit_clauses.proofs.Adders.{known_later, pow-more}
use Rattle.bit_clauses.proofs.Numbers.{spelled-more, spelled-push, spelled-append, spelled_small}

-- the lower bits of a number
pub spelled-take : (w : Assignment) (xs : List Lit) (n : ℕ) → n ≤ length xs → spelled w (take n xs) ≡ spelled w xs % 2 ^ n
spelled-take w xs n h =
    let count = length-take-le n xs h in
    let whole : spelled w xs ≡ spelled w (drop n xs) * 2 ^ n + spelled w (take n xs) =
    ap (spelled w) (sym (take-append-drop n xs)) ∙ spelled-append w (take n xs) (drop n xs) ∙ ap (λ k. spelled w (take n xs) + 2 ^ k * spelled w (drop n xs)) count ∙ turn (spelled w (take n xs)) (2 ^ n) (spelled w (drop n xs)) in
    sym (mod-mul-add (spelled w (drop n xs)) (2 ^ n) (spelled w (take n xs)) (subst (λ k. spelled w (take n xs) < 2 ^ k) count (spelled_small w (take n xs)))) ∙ ap (λ k. k % 2 ^ n) (sym whole)
  where
    turn : (a p b : ℕ) → a + p * b ≡ b * p + a
    turn a p b = omega arith

-- the rows' sum modulo p, where the carry is dropped
row_true : (p s c high low more : ℕ) → s + p * c ≡ high + low → s < p → s ≡ (high + (more * p + low)) % p
row_true p s c high low more e h =
    let whole : high + (more * p + low) ≡ (c + more) * p + s = omega (arith, e) in
    sym (ap (λ n. n % p) whole ∙ mod-mul-add (c + more) p s h)

-- the value of a row by its digit
row_by_digit : (b : Bool) (bits sum high left p : ℕ) → bits ≡ cond b sum high → high < p → sum ≡ (high + left) % p → bits ≡ (high + left * bit_of b) % p
row_by_digit true bits sum high left p e h f = e ∙ f ∙ ap (λ n. (high + n) % p) (omega arith)
row_by_digit false bits sum high left p e h f = e ∙ sym (mod-eq_of_lt h) ∙ ap (λ n. n % p) (omega arith)

pub row_value : (w : Assignment) (left high sum bits : List Lit) (carry digit nil : Lit) → length high ≤ length left → length sum ≡ length high
    → literal_value w nil ≡ false
    → spelled w sum + 2 ^ length high * bit w carry ≡ spelled w high + spelled w (take (length high) left) + bit w nil
    → spelled w bits ≡ cond (literal_value w digit) (spelled w sum) (spelled w high)
    → spelled w bits ≡ (spelled w high + spelled w left * bit w digit) % 2 ^ length high
row_value w left high sum bits carry digit nil room count nil_is e f =
    let none : bit w nil ≡ 0 = ap bit_of nil_is in
    let p = 2 ^ length high in
    let lower = spelled-take w left (length high) room in
    let split = shr_split (spelled w left) (length high) in
    let small : spelled w sum < 2 ^ length high = subst (λ n. spelled w sum < 2 ^ n) count (spelled_small w sum) in
    let row : spelled w sum + 2 ^ length high * bit w carry ≡ spelled w high + spelled w left % 2 ^ length high = omega (arith, e, none, lower) in
    row_by_digit (literal_value w digit) (spelled w bits) (spelled w sum) (spelled w high) (spelled w left) (2 ^ length high) f (spelled_small w high)
    (row_true (2 ^ length high) (spelled w sum) (bit w carry) (spelled w high) (spelled w left % 2 ^ length high) (spelled w left / 2 ^ length high) row small
    ∙ ap (λ n. (spelled w high + n) % 2 ^ length high) split)

-- a row as a circuit
pub row_circuit : (f0 f1 f2 : Formula) (left high lower sum bits : List Lit) (carry digit nil : Lit) → lower ≡ take (length high) left → length high ≤ length left → length sum ≡ length high
    → IsCircuit f0 f1 (λ v. DecidesAll v high × DecidesAll v lower × Decides v nil) (λ v. DecidesAll v sum × Decides v carry) (λ w. spelled w sum + 2 ^ length high * bit w carry ≡ spelled w high + spelled w lower + bit w nil)
    → IsCircuit f1 f2 (λ v. Decides v digit × DecidesAll v sum × DecidesAll v high) (λ v. DecidesAll v bits) (λ w. spelled w bits ≡ cond (literal_value w digit) (spelled w sum) (spelled w high))
    → IsCircuit f0 f2 (λ v. DecidesAll v left × Decides v digit × DecidesAll v high × Decides v nil) (λ v. DecidesAll v bits)
    (λ w. literal_value w nil ≡ false → spelled w bits ≡ (spelled w high + spelled w left * bit w digit) % 2 ^ length high)
row_circuit f0 f1 f2 left high lower sum bits carry digit nil e room count one two =
    chained f0 f1 f2 (λ v. DecidesAll v left × Decides v digit × DecidesAll v high × Decides v nil) (λ v. DecidesAll v sum × Decides v carry)
    (λ v. Decides v digit × DecidesAll v sum × DecidesAll v high) (λ v. DecidesAll v bits) (λ v. DecidesAll v bits)
    (λ w. spelled w sum + 2 ^ length high * bit w carry ≡ spelled w high + spelled w lower + bit w nil)
    (λ w. spelled w bits ≡ cond (literal_value w digit) (spelled w sum) (spelled w high))
    (λ w. literal_value w nil ≡ false → spelled w bits ≡ (spelled w high + spelled w left * bit w digit) % 2 ^ length high)
    (said f0 f1 (λ v. DecidesAll v left × Decides v digit × DecidesAll v high × Decides v nil) (λ v. DecidesAll v high × DecidesAll v lower × Decides v nil)
    (λ v. DecidesAll v sum × Decides v carry) (λ v. DecidesAll v sum × Decides v carry)
    (λ w. spelled w sum + 2 ^ length high * bit w carry ≡ spelled w high + spelled w lower + bit w nil)
    (λ w. spelled w sum + 2 ^ length high * bit w carry ≡ spelled w high + spelled w lower + bit w nil)
    one (λ v g. (g.2, subst (DecidesAll v) (sym e) (All-take (Decides v) (length high) left g.0), g.3)) (λ v g h. h) (λ w m. m))
    two
    (λ v g h. (g.1, h.0, g.2)) (λ v g h k. k)
    (λ w p q t. row_value w left high sum bits carry digit nil room count t (p ∙ ap (λ l. spelled w high + spelled w l + bit w nil) e) q)

-- ---- the sum of the rows

-- the digits below i have been multiplied
pub record IsMultiplied (old new : Formula) (left right low high : List Lit) (nil : Lit) (i : ℕ) : Type 0 where
  pub circuit : IsCircuit old new (λ v. DecidesAll v left × DecidesAll v right × Decides v nil) (λ v. DecidesAll v low × DecidesAll v high)
      (λ w. literal_value w nil ≡ false → spelled w low + 2 ^ i * spelled w high ≡ spelled w left * spelled w (take i right) % 2 ^ length left)
  pub low_count : length low ≡ i
  pub high_count : length high + i ≡ length left
  pub left_known : IsKnown new.vars left
  pub right_known : IsKnown new.vars right
  pub low_known : IsKnown new.vars low
  pub high_known : IsKnown new.vars high
  pub nil_known : nil.var < new.vars

pub spelled-replicate : (w : Assignment) (n : ℕ) (l : Lit) → literal_value w l ≡ false → spelled w (replicate n l) ≡ 0
spelled-replicate w zero l e = refl
spelled-replicate w (suc n) l e = let rest = spelled-replicate w n l e in let bit_is : bit w l ≡ 0 = ap bit_of e in omega (arith, rest, bit_is)

zero-mod : (n : ℕ) → 0 % 2 ^ n ≡ 0
zero-mod n = mod-eq_of_lt (pow_pos n)

pub multiplied-none : (f : Formula) (left right high : List Lit) (nil : Lit) → high ≡ replicate (length left) nil → IsKnown f.vars left → IsKnown f.vars right → nil.var < f.vars
    → IsMultiplied f f left right [] high nil 0
multiplied-none f left right high nil e l r k = subst (λ h. IsMultiplied f f left right [] h nil 0) (sym e) (record {
  circuit = no_circuit f (λ v. DecidesAll v left × DecidesAll v right × Decides v nil) (λ v. DecidesAll v [] × DecidesAll v (replicate (length left) nil))
      (λ w. literal_value w nil ≡ false → 0 + 2 ^ 0 * spelled w (replicate (length left) nil) ≡ spelled w left * 0 % 2 ^ length left)
      (λ v g. (All-nil (Decides v), All-replicate (Decides v) (length left) nil g.2))
      (λ w t. ap (λ n. 0 + 2 ^ 0 * n) (spelled-replicate w (length left) nil t) ∙ sym (ap (λ n. n % 2 ^ length left) (nothing (spelled w left)) ∙ zero-mod (length left)));
  low_count = refl;
  high_count = ap (λ n. n + 0) (length-replicate (length left) nil) ∙ omega arith;
  left_known = l;
  right_known = r;
  low_known = All-nil (λ (x : Lit). x.var < f.vars);
  high_known = All-replicate (λ (x : Lit). x.var < f.vars) (length left) nil k;
  nil_known = k;
})
  where
    nothing : (n : ℕ) → n * 0 ≡ 0
    nothing n = omega arith

row_sum : (p q low high left right b row k l : ℕ) → left * right ≡ k * (p * q) + (low + p * high) → high + left * b ≡ l * q + row → left * (right + p * b) ≡ (k + l) * (p * q) + (low + p * row)
row_sum p q low high left right b row k l e f = omega (arith, e, ap (λ n. p * n) f)

-- one row more, where p and q make the whole
row_joined : (p q low high left right b row : ℕ) → low < p → low + p * high ≡ left * right % (p * q) → row ≡ (high + left * b) % q → 0 < q → low + p * row ≡ left * (right + p * b) % (p * q)
row_joined p q low high left right b row small e f some =
    let k = left * right / (p * q) in
    let l = (high + left * b) / q in
    let first : left * right ≡ k * (p * q) + (low + p * high) = sym (div-add-mod' (left * right) (p * q)) ∙ ap (λ n. k * (p * q) + n) (sym e) in
    let second : high + left * b ≡ l * q + row = sym (div-add-mod' (high + left * b) q) ∙ ap (λ n. l * q + n) (sym f) in
    let below : row < q = subst (λ n. n < q) (sym f) (mod_below (high + left * b) q some) in
    let inside : row * p + low < p * q = mul-add-lt row p low q below small in
    let within : low + p * row < p * q = omega (arith, inside) in
    sym (ap (λ n. n % (p * q)) (row_sum p q low high left right b row k l first second) ∙ mod-mul-add (k + l) (p * q) (low + p * row) within)

head_tail : (w : Assignment) (xs : List Lit) (d : Lit) → 0 < length xs → spelled w xs ≡ bit w (get_or xs 0 d) + 2 * spelled w (drop 1 xs)
head_tail w [] d h = absurd (omega arith)
head_tail w (x ∷ xs) d h = refl

length-drop-one : (xs : List Lit) → 0 < length xs → length (drop 1 xs) + 1 ≡ length xs
length-drop-one [] h = absurd (omega arith)
length-drop-one (x ∷ xs) h = omega arith

pub multiplied-more : (old mid new : Formula) (left right low high sum low_more high_rest : List Lit) (nil digit lowest : Lit) (i : ℕ) (d : Lit) → i < length right → length left ≡ length right
    → IsMultiplied old mid left right low high nil i → digit ≡ get_or right i d
    → IsCircuit mid new (λ v. DecidesAll v left × Decides v digit × DecidesAll v high × Decides v nil) (λ v. DecidesAll v sum)
    (λ w. literal_value w nil ≡ false → spelled w sum ≡ (spelled w high + spelled w left * bit w digit) % 2 ^ length high)
    → length sum ≡ length high → IsKnown new.vars sum → lowest ≡ get_or sum 0 d → low_more ≡ low ++ lowest ∷ [] → high_rest ≡ drop 1 sum
    → IsMultiplied old new left right low_more high_rest nil (i + 1)
multiplied-more old mid new left right low high sum low_more high_rest nil digit lowest i d within same before digit_is step count sum_known lowest_is low_is high_is =
    let some : 0 < length sum = omega (arith, count, before.high_count, within, same) in
    let width : 2 ^ length left ≡ 2 ^ i * 2 ^ length high = ap (λ n. 2 ^ n) (sym before.high_count ∙ omega arith) ∙ pow-add 2 i (length high) in
    subst (λ l. IsMultiplied old new left right l high_rest nil (i + 1)) (sym low_is) (subst (λ h. IsMultiplied old new left right (low ++ lowest ∷ []) h nil (i + 1)) (sym high_is) (record {
      circuit = chained old mid new (λ v. DecidesAll v left × DecidesAll v right × Decides v nil) (λ v. DecidesAll v low × DecidesAll v high)
          (λ v. DecidesAll v left × Decides v digit × DecidesAll v high × Decides v nil) (λ v. DecidesAll v sum) (λ v. DecidesAll v (low ++ lowest ∷ []) × DecidesAll v (drop 1 sum))
          (λ w. literal_value w nil ≡ false → spelled w low + 2 ^ i * spelled w high ≡ spelled w left * spelled w (take i right) % 2 ^ length left)
          (λ w. literal_value w nil ≡ false → spelled w sum ≡ (spelled w high + spelled w left * bit w digit) % 2 ^ length high)
          (λ w. literal_value w nil ≡ false → spelled w (low ++ lowest ∷ []) + 2 ^ (i + 1) * spelled w (drop 1 sum) ≡ spelled w left * spelled w (take (i + 1) right) % 2 ^ length left)
          before.circuit step
          (λ v g h. (g.0, subst (Decides v) (sym digit_is) (All-get_or (Decides v) right i d within g.1), h.1, g.2))
          (λ v g h k. (All-push (Decides v) low lowest h.0 (subst (Decides v) (sym lowest_is) (All-get_or (Decides v) sum 0 d some k)), All-drop (Decides v) 1 sum k))
          (λ w p q t.
          parts w some
          ∙ row_joined (2 ^ i) (2 ^ length high) (spelled w low) (spelled w high) (spelled w left) (spelled w (take i right)) (bit w digit) (spelled w sum)
          (subst (λ n. spelled w low < 2 ^ n) before.low_count (spelled_small w low)) (p t ∙ ap (λ n. spelled w left * spelled w (take i right) % n) width) (q t) (pow_pos (length high))
          ∙ ap (λ n. spelled w left * (spelled w (take i right) + 2 ^ i * n) % (2 ^ i * 2 ^ length high)) (ap (bit w) digit_is)
          ∙ ap (λ n. spelled w left * n % (2 ^ i * 2 ^ length high)) (sym (spelled-more w right i d within))
          ∙ ap (λ n. spelled w left * spelled w (take (i + 1) right) % n) (sym width));
      low_count = length-append low (lowest ∷ []) ∙ ap (λ n. n + 1) before.low_count;
      high_count = (let e = length-drop-one sum some in omega (arith, e, count, before.high_count));
      left_known = known_later mid.vars new.vars left step.grows.vars before.left_known;
      right_known = known_later mid.vars new.vars right step.grows.vars before.right_known;
      low_known = All-push (λ (x : Lit). x.var < new.vars) low lowest (known_later mid.vars new.vars low step.grows.vars before.low_known)
          (subst (λ (x : Lit). x.var < new.vars) (sym lowest_is) (All-get_or (λ (x : Lit). x.var < new.vars) sum 0 d some sum_known));
      high_known = All-drop (λ (x : Lit). x.var < new.vars) 1 sum sum_known;
      nil_known = omega (arith, before.nil_known, step.grows.vars);
    }))
  where
    move : (a p b c : ℕ) → a + p * b + p * 2 * c ≡ a + p * (b + 2 * c)
    move a p b c = omega arith

    parts : (w : Assignment) → 0 < length sum → spelled w (low ++ lowest ∷ []) + 2 ^ (i + 1) * spelled w (drop 1 sum) ≡ spelled w low + 2 ^ i * spelled w sum
    parts w some =
        ap (λ n. n + 2 ^ (i + 1) * spelled w (drop 1 sum)) (spelled-push w low lowest ∙ ap (λ n. spelled w low + 2 ^ n * bit w lowest) before.low_count)
        ∙ ap (λ n. spelled w low + 2 ^ i * bit w lowest + n * spelled w (drop 1 sum)) (pow-more i)
        ∙ move (spelled w low) (2 ^ i) (bit w lowest) (spelled w (drop 1 sum))
        ∙ ap (λ n. spelled w low + 2 ^ i * (n + 2 * spelled w (drop 1 sum))) (ap (bit w) lowest_is)
        ∙ ap (λ n. spelled w low + 2 ^ i * n) (sym (head_tail w sum d some))

pub multiplied-all : (old new : Formula) (left right low high : List Lit) (nil : Lit) (i : ℕ) → length right ≤ i → length left ≡ length right → IsMultiplied old new left right low high nil i
    → IsCircuit old new (λ v. DecidesAll v left × DecidesAll v right × Decides v nil) (λ v. DecidesAll v low) (λ w. literal_value w nil ≡ false → spelled w low ≡ spelled w left * spelled w right % 2 ^ length left)
multiplied-all old new left right low high nil i h same done =
    let none : high ≡ [] = nil_from_length high (omega (arith, done.high_count, h, same)) in
    said old new (λ v. DecidesAll v left × DecidesAll v right × Decides v nil) (λ v. DecidesAll v left × DecidesAll v right × Decides v nil) (λ v. DecidesAll v low × DecidesAll v high) (λ v. DecidesAll v low)
    (λ w. literal_value w nil ≡ false → spelled w low + 2 ^ i * spelled w high ≡ spelled w left * spelled w (take i right) % 2 ^ length left)
    (λ w. literal_value w nil ≡ false → spelled w low ≡ spelled w left * spelled w right % 2 ^ length left)
    done.circuit (λ v g. g) (λ v g k. k.0)
    (λ w m t. sym (ap (λ n. spelled w low + 2 ^ i * n) (ap (spelled w) none) ∙ zero_more (spelled w low) (2 ^ i)) ∙ m t ∙ ap (λ l. spelled w left * spelled w l % 2 ^ length left) (take_all i right h))
  where
    zero_more : (a p : ℕ) → a + p * 0 ≡ a
    zero_more a p = omega arith
