-- Shifts.
use Rattle.std.proofs.Common.{◌≡◌, ℕ, ◌+◌, ◌-◌, ◌*◌, ◌/◌, ◌%◌, ◌^◌, ◌<◌, ◌≤◌, Bool, true, false, cond, List, map, length, get_or, take, drop, refl, sym, ◌∙◌, ap, subst, arith, length-append, length-drop, inl, inr}
use Rattle.std.specs.Prelude.{All, replicate}
use Rattle.std.proofs.Math.Nat.{mod-eq_of_lt, div-eq_of_lt, mul-mod_left}
use Rattle.std.proofs.Math.Pow.{pow_mono}
use Rattle.std.proofs.lemmas.Bool.{cases_lt}
use Rattle.std.proofs.lemmas.Nat.{pow_pos, pow-add, shr-shr, shr_le, div-mul-add, mod-mul-add, mul-mod_first, shr_split, mod_below}
use Rattle.std.proofs.lemmas.List.Elements.{All-get_or, All-append, All-take, All-drop, All-replicate}
use Rattle.std.proofs.lemmas.List.{take_all, take-append-drop, length-take-le, length-replicate}
use Rattle.bv_terms.specs.BitVectors.{bit_of, bits}
use Rattle.clause_store.specs.declared.lit.Lit.{Lit}
use Rattle.clause_store.specs.Literals.{Assignment, literal_value, opposite}
use Rattle.clause_store.specs.Formula.{Formula, IsKnown}
use Rattle.bit_clauses.specs.declared.way.Way.{Way}
use Rattle.bit_clauses.specs.declared.way.Way.TheVariants as way
use Rattle.bit_clauses.specs.Circuit.{IsCircuit, Decides, DecidesAll}
use Rattle.bit_clauses.specs.Shift.{moved_list, shifted_value, signed_value}
use Rattle.bit_clauses.specs.Spelled.{spelled}
use Rattle.bit_clauses.proofs.Circuits.{chained, no_circuit, said}
use Rattle.bit_clauses.proofs.Adders.{known_later}
use Rattle.bit_clauses.proofs.Comparisons.{spelled-opposite, decides-opposite, negative_by_top}
use Rattle.bit_clauses.proofs.Products.{spelled-take, spelled-replicate}
use Rattle.bit_clauses.proofs.Numbers.{spelled-more, spelled-append, spelled_small}

-- ---- literals that move

pub All-moved : (P : Lit → Type 0) (w : Way) (by : ℕ) (lits : List Lit) (fill : Lit) → All P lits → P fill → All P (moved_list w by lits fill)
All-moved P way.Down by lits fill h k = All-append P (drop by lits) (replicate by fill) (All-drop P by lits h) (All-replicate P by fill k)
All-moved P way.Up by lits fill h k = All-append P (replicate by fill) (take (length lits - by) lits) (All-replicate P by fill k) (All-take P (length lits - by) lits h)

pub length-moved : (w : Way) (by : ℕ) (lits : List Lit) (fill : Lit) → by ≤ length lits → length (moved_list w by lits fill) ≡ length lits
length-moved way.Down by lits fill h = length-append (drop by lits) (replicate by fill) ∙ omega (arith, h, length-drop by lits, length-replicate by fill)
length-moved way.Up by lits fill h = length-append (replicate by fill) (take (length lits - by) lits) ∙ omega (arith, h, length-take-le (length lits - by) lits (omega arith), length-replicate by fill)

nothing_more : (a p : ℕ) → a + p * 0 ≡ a
nothing_more a p = omega arith

turn : (a p b : ℕ) → a + p * b ≡ b * p + a
turn a p b = omega arith

pub spelled-drop : (w : Assignment) (xs : List Lit) (n : ℕ) → n ≤ length xs → spelled w (drop n xs) ≡ spelled w xs / 2 ^ n
spelled-drop w xs n h =
    let count = length-take-le n xs h in
    let whole : spelled w xs ≡ spelled w (drop n xs) * 2 ^ n + spelled w (take n xs) =
    ap (spelled w) (sym (take-append-drop n xs)) ∙ spelled-append w (take n xs) (drop n xs) ∙ ap (λ k. spelled w (take n xs) + 2 ^ k * spelled w (drop n xs)) count ∙ turn (spelled w (take n xs)) (2 ^ n) (spelled w (drop n xs)) in
    sym (ap (λ k. k / 2 ^ n) whole ∙ div-mul-add (spelled w (drop n xs)) (2 ^ n) (spelled w (take n xs)) (subst (λ k. spelled w (take n xs) < 2 ^ k) count (spelled_small w (take n xs))))

-- the lower bits moved up are the product, modulo the width
lower_moved : (a by m : ℕ) → 2 ^ by * (a % 2 ^ m) ≡ a * 2 ^ by % 2 ^ (by + m)
lower_moved a by m =
    let split = shr_split a m in
    let below : a % 2 ^ m < 2 ^ m = mod_below a (2 ^ m) (pow_pos m) in
    let inside : 2 ^ by * (a % 2 ^ m) < 2 ^ by * 2 ^ m = times_lt (2 ^ by) (a % 2 ^ m) (2 ^ m) (pow_pos by) below in
    let whole : a * 2 ^ by ≡ a / 2 ^ m * (2 ^ by * 2 ^ m) + 2 ^ by * (a % 2 ^ m) = ap (λ n. n * 2 ^ by) (sym split) ∙ spread (a / 2 ^ m) (2 ^ m) (a % 2 ^ m) (2 ^ by) in
    sym (ap (λ n. a * 2 ^ by % n) (pow-add 2 by m) ∙ ap (λ n. n % (2 ^ by * 2 ^ m)) whole ∙ mod-mul-add (a / 2 ^ m) (2 ^ by * 2 ^ m) (2 ^ by * (a % 2 ^ m)) inside)
  where
    times_lt : (p r m : ℕ) → 0 < p → r < m → p * r < p * m
    times_lt p r m h k = grind arith

    spread : (q m r p : ℕ) → (q * m + r) * p ≡ q * (p * m) + p * r
    spread q m r p = omega arith

pub spelled-moved : (w : Assignment) (x : Way) (by : ℕ) (lits : List Lit) (fill : Lit) → literal_value w fill ≡ false → by ≤ length lits
    → spelled w (moved_list x by lits fill) ≡ shifted_value x (length lits) (spelled w lits) by
spelled-moved w way.Down by lits fill e h =
    spelled-append w (drop by lits) (replicate by fill) ∙ ap (λ n. spelled w (drop by lits) + 2 ^ length (drop by lits) * n) (spelled-replicate w by fill e)
    ∙ nothing_more (spelled w (drop by lits)) (2 ^ length (drop by lits)) ∙ spelled-drop w lits by h
spelled-moved w way.Up by lits fill e h =
    let whole : by + (length lits - by) ≡ length lits = omega (arith, h) in
    spelled-append w (replicate by fill) (take (length lits - by) lits)
    ∙ ap (λ n. n + 2 ^ length (replicate by fill) * spelled w (take (length lits - by) lits)) (spelled-replicate w by fill e)
    ∙ ap (λ n. 0 + 2 ^ n * spelled w (take (length lits - by) lits)) (length-replicate by fill)
    ∙ ap (λ n. 0 + 2 ^ by * n) (spelled-take w lits (length lits - by) (omega arith))
    ∙ nothing (2 ^ by * (spelled w lits % 2 ^ (length lits - by)))
    ∙ lower_moved (spelled w lits) by (length lits - by) ∙ ap (λ n. spelled w lits * 2 ^ by % 2 ^ n) whole
  where
    nothing : (n : ℕ) → 0 + n ≡ n
    nothing n = omega arith

-- ---- a digit of the amount

-- what a digit moves, which may be all that there is
pub record IsDistance (i width by : ℕ) : Type 0 where
  pub within : by ≤ width
  pub near : 2 ^ i ≤ width → by ≡ 2 ^ i
  pub far : width ≤ 2 ^ i → by ≡ width

down_further : (i n a s by : ℕ) → IsDistance i n by → a < 2 ^ n → a / 2 ^ s / 2 ^ by ≡ a / 2 ^ (s + 2 ^ i)
down_further i n a s by d h = elim (cases_lt n (2 ^ i)) [
  | inl far ↦
      let small : a / 2 ^ s < 2 ^ n = omega (arith, shr_le a s, h) in
      let more : 2 ^ n ≤ 2 ^ (2 ^ i) = pow_mono (omega (arith, far)) in
      let all : by ≡ n = d.far (omega (arith, far)) in
      ap (λ k. a / 2 ^ s / 2 ^ k) all ∙ div-eq_of_lt small ∙ sym (sym (shr-shr a s (2 ^ i)) ∙ div-eq_of_lt (omega (arith, small, more)))
  | inr near ↦ ap (λ k. a / 2 ^ s / 2 ^ k) (d.near near) ∙ shr-shr a s (2 ^ i)
]

pub up_far : (a n k : ℕ) → n ≤ k → a * 2 ^ k % 2 ^ n ≡ 0
up_far a n k h =
    let parts : k ≡ (k - n) + n = omega (arith, h) in
    ap (λ j. a * 2 ^ j % 2 ^ n) parts ∙ ap (λ j. a * j % 2 ^ n) (pow-add 2 (k - n) n) ∙ ap (λ j. j % 2 ^ n) (regroup a (2 ^ (k - n)) (2 ^ n)) ∙ mul-mod_left (a * 2 ^ (k - n)) (2 ^ n)
  where
    regroup : (a p q : ℕ) → a * (p * q) ≡ a * p * q
    regroup a p q = omega arith

up_further : (i n a s by : ℕ) → IsDistance i n by → a * 2 ^ s % 2 ^ n * 2 ^ by % 2 ^ n ≡ a * 2 ^ (s + 2 ^ i) % 2 ^ n
up_further i n a s by d = elim (cases_lt n (2 ^ i)) [
  | inl far ↦ up_far (a * 2 ^ s % 2 ^ n) n by (omega (arith, d.far (omega (arith, far)))) ∙ sym (up_far a n (s + 2 ^ i) (omega (arith, far)))
  | inr near ↦
      ap (λ k. a * 2 ^ s % 2 ^ n * 2 ^ k % 2 ^ n) (d.near near) ∙ mul-mod_first (a * 2 ^ s) (2 ^ (2 ^ i)) (2 ^ n)
      ∙ ap (λ k. k % 2 ^ n) (regroup a (2 ^ s) (2 ^ (2 ^ i))) ∙ ap (λ k. a * k % 2 ^ n) (sym (pow-add 2 s (2 ^ i)))
]
  where
    regroup : (a p q : ℕ) → a * p * q ≡ a * (p * q)
    regroup a p q = omega arith

further : (x : Way) (i n a s by : ℕ) → IsDistance i n by → a < 2 ^ n → shifted_value x n (shifted_value x n a s) by ≡ shifted_value x n a (s + 2 ^ i)
further way.Down i n a s by d h = down_further i n a s by d h
further way.Up i n a s by d h = up_further i n a s by d

pub next_shift : (x : Way) (b : Bool) (i n a s by current moved after : ℕ) → IsDistance i n by → a < 2 ^ n → current ≡ shifted_value x n a s → moved ≡ shifted_value x n current by → after ≡ cond b moved current
    → after ≡ shifted_value x n a (s + 2 ^ i * bit_of b)
next_shift x true i n a s by current moved after d h e f g =
    g ∙ f ∙ ap (λ c. shifted_value x n c by) e ∙ further x i n a s by d h ∙ ap (λ k. shifted_value x n a (s + k)) (once (2 ^ i))
  where
    once : (p : ℕ) → p ≡ p * 1
    once p = omega arith
next_shift x false i n a s by current moved after d h e f g = g ∙ e ∙ ap (λ k. shifted_value x n a k) (sym (nothing_more s (2 ^ i)))

shift_none : (x : Way) (n a : ℕ) → a < 2 ^ n → a ≡ shifted_value x n a 0
shift_none way.Down n a h = sym (by_one a)
  where
    by_one : (a : ℕ) → a / 2 ^ 0 ≡ a
    by_one a = omega arith
shift_none way.Up n a h = sym (ap (λ k. k % 2 ^ n) (by_one a) ∙ mod-eq_of_lt h)
  where
    by_one : (a : ℕ) → a * 2 ^ 0 ≡ a
    by_one a = omega arith

-- ---- all digits of the amount

pub record IsShifted (old new : Formula) (x : Way) (lits amount current : List Lit) (nil : Lit) (i : ℕ) : Type 0 where
  pub circuit : IsCircuit old new (λ v. DecidesAll v lits × DecidesAll v amount × Decides v nil) (λ v. DecidesAll v current)
      (λ w. literal_value w nil ≡ false → spelled w current ≡ shifted_value x (length lits) (spelled w lits) (spelled w (take i amount)))
  pub count : length current ≡ length lits
  pub amount_known : IsKnown new.vars amount
  pub current_known : IsKnown new.vars current
  pub nil_known : nil.var < new.vars

pub shifted-none : (f : Formula) (x : Way) (lits amount current : List Lit) (nil : Lit) → current ≡ lits → IsKnown f.vars lits → IsKnown f.vars amount → nil.var < f.vars → IsShifted f f x lits amount current nil 0
shifted-none f x lits amount current nil e l a k = subst (λ c. IsShifted f f x lits amount c nil 0) (sym e) (record {
  circuit = no_circuit f (λ v. DecidesAll v lits × DecidesAll v amount × Decides v nil) (λ v. DecidesAll v lits)
      (λ w. literal_value w nil ≡ false → spelled w lits ≡ shifted_value x (length lits) (spelled w lits) 0) (λ v g. g.0) (λ w t. shift_none x (length lits) (spelled w lits) (spelled_small w lits));
  count = refl;
  amount_known = a;
  current_known = l;
  nil_known = k;
})

pub shifted-more : (old mid new : Formula) (x : Way) (lits amount current moved after : List Lit) (nil : Lit) (i by : ℕ) (d : Lit) → i < length amount
    → IsShifted old mid x lits amount current nil i → IsDistance i (length lits) by → moved ≡ moved_list x by current nil
    → IsCircuit mid new (λ v. Decides v (get_or amount i d) × DecidesAll v moved × DecidesAll v current) (λ v. DecidesAll v after)
    (λ w. spelled w after ≡ cond (literal_value w (get_or amount i d)) (spelled w moved) (spelled w current))
    → length after ≡ length moved → IsKnown new.vars after → IsShifted old new x lits amount after nil (i + 1)
shifted-more old mid new x lits amount current moved after nil i by d within before far moved_is step count known =
    let inside : by ≤ length current = omega (arith, far.within, before.count) in
    record {
      circuit = chained old mid new (λ v. DecidesAll v lits × DecidesAll v amount × Decides v nil) (λ v. DecidesAll v current)
          (λ v. Decides v (get_or amount i d) × DecidesAll v moved × DecidesAll v current) (λ v. DecidesAll v after) (λ v. DecidesAll v after)
          (λ w. literal_value w nil ≡ false → spelled w current ≡ shifted_value x (length lits) (spelled w lits) (spelled w (take i amount)))
          (λ w. spelled w after ≡ cond (literal_value w (get_or amount i d)) (spelled w moved) (spelled w current))
          (λ w. literal_value w nil ≡ false → spelled w after ≡ shifted_value x (length lits) (spelled w lits) (spelled w (take (i + 1) amount)))
          before.circuit step
          (λ v g h. (All-get_or (Decides v) amount i d within g.1, subst (DecidesAll v) (sym moved_is) (All-moved (Decides v) x by current nil h g.2), h)) (λ v g h k. k)
          (λ w p q t.
          next_shift x (literal_value w (get_or amount i d)) i (length lits) (spelled w lits) (spelled w (take i amount)) by (spelled w current) (spelled w moved) (spelled w after) far (spelled_small w lits) (p t)
          (ap (spelled w) moved_is ∙ spelled-moved w x by current nil t inside ∙ ap (λ n. shifted_value x n (spelled w current) by) before.count) q
          ∙ ap (λ k. shifted_value x (length lits) (spelled w lits) k) (sym (spelled-more w amount i d within)));
      count = count ∙ ap (λ (l : List Lit). length l) moved_is ∙ length-moved x by current nil inside ∙ before.count;
      amount_known = known_later mid.vars new.vars amount step.grows.vars before.amount_known;
      current_known = known;
      nil_known = omega (arith, before.nil_known, step.grows.vars);
    }

pub shifted-all : (old new : Formula) (x : Way) (lits amount current : List Lit) (nil : Lit) (i : ℕ) → length amount ≤ i → IsShifted old new x lits amount current nil i
    → IsCircuit old new (λ v. DecidesAll v lits × DecidesAll v amount × Decides v nil) (λ v. DecidesAll v current)
    (λ w. literal_value w nil ≡ false → spelled w current ≡ shifted_value x (length lits) (spelled w lits) (spelled w amount))
shifted-all old new x lits amount current nil i h done =
    said old new (λ v. DecidesAll v lits × DecidesAll v amount × Decides v nil) (λ v. DecidesAll v lits × DecidesAll v amount × Decides v nil) (λ v. DecidesAll v current) (λ v. DecidesAll v current)
    (λ w. literal_value w nil ≡ false → spelled w current ≡ shifted_value x (length lits) (spelled w lits) (spelled w (take i amount)))
    (λ w. literal_value w nil ≡ false → spelled w current ≡ shifted_value x (length lits) (spelled w lits) (spelled w amount))
    done.circuit (λ v g. g) (λ v g h. h) (λ w m t. m t ∙ ap (λ l. shifted_value x (length lits) (spelled w lits) (spelled w l)) (take_all i amount h))

-- ---- two's complement

pub opposite_value : (w : Assignment) (xs : List Lit) → spelled w (map opposite xs) ≡ 2 ^ length xs - 1 - spelled w xs
opposite_value w xs = let e = spelled-opposite w xs in omega (arith, e)

pub magnitude_circuit : (old new : Formula) (lits opposites out : List Lit) (sign : Lit) → opposites ≡ map opposite lits
    → IsCircuit old new (λ v. Decides v sign × DecidesAll v opposites × DecidesAll v lits) (λ v. DecidesAll v out) (λ w. spelled w out ≡ cond (literal_value w sign) (spelled w opposites) (spelled w lits))
    → IsCircuit old new (λ v. Decides v sign × DecidesAll v lits) (λ v. DecidesAll v out) (λ w. spelled w out ≡ cond (literal_value w sign) (2 ^ length lits - 1 - spelled w lits) (spelled w lits))
magnitude_circuit old new lits opposites out sign e one =
    said old new (λ v. Decides v sign × DecidesAll v lits) (λ v. Decides v sign × DecidesAll v opposites × DecidesAll v lits) (λ v. DecidesAll v out) (λ v. DecidesAll v out)
    (λ w. spelled w out ≡ cond (literal_value w sign) (spelled w opposites) (spelled w lits)) (λ w. spelled w out ≡ cond (literal_value w sign) (2 ^ length lits - 1 - spelled w lits) (spelled w lits))
    one (λ v g. (g.0, subst (DecidesAll v) (sym e) (decides-opposite v lits g.1), g.1)) (λ v g h. h)
    (λ w m. m ∙ ap (λ n. cond (literal_value w sign) n (spelled w lits)) (ap (spelled w) e ∙ opposite_value w lits))

signed_by : (b : Bool) (p a by turned shifted out : ℕ) → turned ≡ cond b (p - 1 - a) a → shifted ≡ turned / by → out ≡ cond b (p - 1 - shifted) shifted
    → out ≡ cond b (p - 1 - (p - 1 - a) / by) (a / by)
signed_by true p a by turned shifted out e f g = g ∙ ap (λ n. p - 1 - n) (f ∙ ap (λ n. n / by) e)
signed_by false p a by turned shifted out e f g = g ∙ f ∙ ap (λ n. n / by) e

pub signed_circuit : (f0 f1 f2 f3 : Formula) (lits amount turned shifted out : List Lit) (nil : Lit) (top : ℕ) (d : Lit) → top + 1 ≡ length lits → length turned ≡ length lits → length shifted ≡ length lits
    → IsCircuit f0 f1 (λ v. Decides v (get_or lits top d) × DecidesAll v lits) (λ v. DecidesAll v turned) (λ w. spelled w turned ≡ cond (literal_value w (get_or lits top d)) (2 ^ length lits - 1 - spelled w lits) (spelled w lits))
    → IsCircuit f1 f2 (λ v. DecidesAll v turned × DecidesAll v amount × Decides v nil) (λ v. DecidesAll v shifted) (λ w. literal_value w nil ≡ false → spelled w shifted ≡ spelled w turned / 2 ^ spelled w amount)
    → IsCircuit f2 f3 (λ v. Decides v (get_or lits top d) × DecidesAll v shifted) (λ v. DecidesAll v out) (λ w. spelled w out ≡ cond (literal_value w (get_or lits top d)) (2 ^ length shifted - 1 - spelled w shifted) (spelled w shifted))
    → IsCircuit f0 f3 (λ v. DecidesAll v lits × DecidesAll v amount × Decides v nil) (λ v. DecidesAll v out) (λ w. literal_value w nil ≡ false → spelled w out ≡ signed_value (bits (length lits) (spelled w lits)) (spelled w amount))
signed_circuit f0 f1 f2 f3 lits amount turned shifted out nil top d place turned_count shifted_count one two three =
    let sign = get_or lits top d in
    let within : top < length lits = omega (arith, place) in
    chained f0 f2 f3 (λ v. DecidesAll v lits × DecidesAll v amount × Decides v nil) (λ v. DecidesAll v shifted) (λ v. Decides v sign × DecidesAll v shifted) (λ v. DecidesAll v out) (λ v. DecidesAll v out)
    (λ w. (spelled w turned ≡ cond (literal_value w sign) (2 ^ length lits - 1 - spelled w lits) (spelled w lits)) × (literal_value w nil ≡ false → spelled w shifted ≡ spelled w turned / 2 ^ spelled w amount))
    (λ w. spelled w out ≡ cond (literal_value w sign) (2 ^ length shifted - 1 - spelled w shifted) (spelled w shifted))
    (λ w. literal_value w nil ≡ false → spelled w out ≡ signed_value (bits (length lits) (spelled w lits)) (spelled w amount))
    (chained f0 f1 f2 (λ v. DecidesAll v lits × DecidesAll v amount × Decides v nil) (λ v. DecidesAll v turned) (λ v. DecidesAll v turned × DecidesAll v amount × Decides v nil) (λ v. DecidesAll v shifted) (λ v. DecidesAll v shifted)
    (λ w. spelled w turned ≡ cond (literal_value w sign) (2 ^ length lits - 1 - spelled w lits) (spelled w lits)) (λ w. literal_value w nil ≡ false → spelled w shifted ≡ spelled w turned / 2 ^ spelled w amount)
    (λ w. (spelled w turned ≡ cond (literal_value w sign) (2 ^ length lits - 1 - spelled w lits) (spelled w lits)) × (literal_value w nil ≡ false → spelled w shifted ≡ spelled w turned / 2 ^ spelled w amount))
    (said f0 f1 (λ v. DecidesAll v lits × DecidesAll v amount × Decides v nil) (λ v. Decides v sign × DecidesAll v lits) (λ v. DecidesAll v turned) (λ v. DecidesAll v turned)
    (λ w. spelled w turned ≡ cond (literal_value w sign) (2 ^ length lits - 1 - spelled w lits) (spelled w lits)) (λ w. spelled w turned ≡ cond (literal_value w sign) (2 ^ length lits - 1 - spelled w lits) (spelled w lits))
    one (λ v g. (All-get_or (Decides v) lits top d within g.0, g.0)) (λ v g h. h) (λ w m. m))
    two (λ v g h. (h, g.1, g.2)) (λ v g h k. k) (λ w p q. (p, q)))
    three (λ v g h. (All-get_or (Decides v) lits top d within g.0, h)) (λ v g h k. k)
    (λ w p q t.
    signed_by (literal_value w sign) (2 ^ length lits) (spelled w lits) (2 ^ spelled w amount) (spelled w turned) (spelled w shifted) (spelled w out) p.0 (p.1 t) (q ∙ ap (λ n. cond (literal_value w sign) (2 ^ n - 1 - spelled w shifted) (spelled w shifted)) shifted_count)
    ∙ ap (λ b. cond b (2 ^ length lits - 1 - (2 ^ length lits - 1 - spelled w lits) / 2 ^ spelled w amount) (spelled w lits / 2 ^ spelled w amount)) (sym (negative_by_top w lits top d place)))
