-- Variables given to pairs, place by place.
use Rattle.std.proofs.Common.{◌≡◌, ◌≢◌, ℕ, zero, suc, ◌<◌, ◌≤◌, ◌+◌, ◌*◌, ◌/◌, ◌%◌, ◌⊎◌, Bool, true, false, not, cond, List, [], ◌∷◌, ◌++◌, length, get_or, refl, sym, ◌∙◌, ap, subst, inl, inr, arith}
use Rattle.std.specs.Prelude.{nat_lt, nat_eq, Result, Ok, Err, OnErr}
use Rattle.std.proofs.Math.ListN.{get_or-append}
use Rattle.std.proofs.Math.Seq.{get_or-append_seam}
use Rattle.std.proofs.lemmas.Nat.{div-add-mod', mod_below, same_from_place}
use Rattle.std.proofs.lemmas.List.{length-append}
use Rattle.std.proofs.lemmas.Bool.{false≢true, and_parts, and_from, ltb-true, lt-ltb, not-true, eq-eqb, ne_eqb, cond-true, cond-false, false_from_ne_true}
use Rattle.clause_store.specs.declared.lit.Lit.{Lit}
use Rattle.clause_store.specs.Formula.{Formula, Grows}
use Rattle.order_clauses.specs.declared.order_lit.OrderLit.{OrderLit}
use Rattle.order_clauses.specs.declared.order_lit.OrderLit.TheVariants as order_lit
use Rattle.order_clauses.specs.declared.pair.Pair.{Pair}
use Rattle.order_clauses.specs.declared.table.Table.{Table}
use Rattle.order_clauses.specs.Literals.{literal_of}
use Rattle.order_clauses.specs.Tables.{pair_at, IsTable, IsOpened}
use Rattle.order_clauses.specs.Grid.{recorded_in, number_at, open_literal, lit_in, is_open_at, is_pair_at, IsNumber}
use Rattle.order_clauses.proofs.Counts.{split-below}
use Rattle.order_clauses.proofs.Places.{place_within}

-- a pair has this place among the pairs, and its variable stands where its places meet
pub record HasNumber (first count : ℕ) (recorded : List Bool) (numbers : List ℕ) (pairs : List Pair) (upto m a b : ℕ) : Type 0 where
  pub listed : m < length pairs
  pub pair : pair_at pairs m ≡ record { first = a; second = b }
  pub within : b < count
  pub passed : a * count + b < upto
  pub is_pair : is_pair_at recorded count a b ≡ true
  pub number : number_at numbers count a b ≡ first + m

-- the places below `upto` passed
pub record IsNumbered (old now : Formula) (count : ℕ) (recorded : List Bool) (numbers : List ℕ) (pairs : List Pair) (upto : ℕ) : Type 0 where
  pub counted : length numbers ≡ upto
  pub bounded : upto ≤ count * count
  pub vars : now.vars ≡ old.vars + length pairs
  pub clauses : now.clauses ≡ old.clauses
  pub opened : (a b : ℕ) → b < count → a * count + b < upto → is_pair_at recorded count a b ≡ true
      → (m : ℕ) × HasNumber old.vars count recorded numbers pairs upto m a b
  pub listed : (m : ℕ) → m < length pairs → HasNumber old.vars count recorded numbers pairs upto m (pair_at pairs m).first (pair_at pairs m).second

pub numbered_none : (old : Formula) (count : ℕ) (recorded : List Bool) → IsNumbered old old count recorded [] [] 0
numbered_none old count recorded =
    record {
      counted = refl;
      bounded = omega arith;
      vars = omega arith;
      clauses = refl;
      opened = λ a b _ h _. absurd (omega (arith, h));
      listed = λ m h. absurd (omega (arith, h));
    }

abbrev none_yet : Pair
none_yet = record { first = 0; second = 0 }

length_one : {X : Type 0} (xs : List X) (x : X) → length (xs ++ x ∷ []) ≡ length xs + 1
length_one xs x = length-append xs (x ∷ [])

-- a pair keeps its number where more places are passed
later : (first count : ℕ) (recorded : List Bool) (numbers : List ℕ) (pairs after : List Pair) (var upto m a b : ℕ) → length numbers ≡ upto
    → m < length after → pair_at after m ≡ pair_at pairs m
    → HasNumber first count recorded numbers pairs upto m a b → HasNumber first count recorded (numbers ++ var ∷ []) after (upto + 1) m a b
later first count recorded numbers pairs after var upto m a b counted listed same has =
    record {
      listed = listed;
      pair = same ∙ has.pair;
      within = has.within;
      passed = omega (arith, has.passed);
      is_pair = has.is_pair;
      number = get_or-append numbers (var ∷ []) 0 (a * count + b) (subst (λ (n : ℕ). a * count + b < n) (sym counted) has.passed) ∙ has.number;
    }

numbered_other : (old now : Formula) (count : ℕ) (recorded : List Bool) (numbers : List ℕ) (pairs : List Pair) (var k i j : ℕ)
    → k < count * count → i * count + j ≡ k → j < count → is_pair_at recorded count i j ≡ false
    → IsNumbered old now count recorded numbers pairs k → IsNumbered old now count recorded (numbers ++ var ∷ []) pairs (k + 1)
numbered_other old now count recorded numbers pairs var k i j below at j_in none so_far =
    record {
      counted = length_one numbers var ∙ ap (λ (n : ℕ). n + 1) so_far.counted;
      bounded = omega (arith, below);
      vars = so_far.vars;
      clauses = so_far.clauses;
      opened = λ a b b_in h p. opened a b b_in p (split-below (a * count + b) k (omega (arith, h)));
      listed =
          λ m h.
          later old.vars count recorded numbers pairs pairs var k m (pair_at pairs m).first (pair_at pairs m).second so_far.counted h refl (so_far.listed m h);
    }
  where
    opened : (a b : ℕ) → b < count → is_pair_at recorded count a b ≡ true → (a * count + b < k) ⊎ (a * count + b ≡ k)
        → (m : ℕ) × HasNumber old.vars count recorded (numbers ++ var ∷ []) pairs (k + 1) m a b
    opened a b b_in p (inl before) =
        let some = so_far.opened a b b_in before p in
        (some.0, later old.vars count recorded numbers pairs pairs var k some.0 a b so_far.counted some.1.listed refl some.1)
    opened a b b_in p (inr e) =
        let same = same_from_place a b i j count b_in j_in (e ∙ sym at) in
        absurd
        (false≢true
        (sym none ∙ subst (λ (y : ℕ). is_pair_at recorded count i y ≡ true) same.1 (subst (λ (x : ℕ). is_pair_at recorded count x b ≡ true) same.0 p)))

numbered_pair : (old now new : Formula) (count : ℕ) (recorded : List Bool) (numbers : List ℕ) (pairs : List Pair) (var k i j : ℕ)
    → k < count * count → i * count + j ≡ k → j < count → is_pair_at recorded count i j ≡ true → var ≡ now.vars → new ≡ record now { vars = now.vars + 1 }
    → IsNumbered old now count recorded numbers pairs k
    → IsNumbered old new count recorded (numbers ++ var ∷ []) (pairs ++ record { first = i; second = j } ∷ []) (k + 1)
numbered_pair old now new count recorded numbers pairs var k i j below at j_in pair_there is_var is_new so_far =
    record {
      counted = length_one numbers var ∙ ap (λ (n : ℕ). n + 1) so_far.counted;
      bounded = omega (arith, below);
      vars = omega (arith, ap (λ (f : Formula). f.vars) is_new, so_far.vars, length_one pairs pair);
      clauses = ap (λ (f : Formula). f.clauses) is_new ∙ so_far.clauses;
      opened = λ a b b_in h p. opened a b b_in p (split-below (a * count + b) k (omega (arith, h)));
      listed = λ m h. listed m (split-below m (length pairs) (subst (λ (n : ℕ). m < n) (length_one pairs pair ∙ omega arith) h));
    }
  where
    pair : Pair
    pair = record { first = i; second = j }

    after : List Pair
    after = pairs ++ pair ∷ []

    new_one : HasNumber old.vars count recorded (numbers ++ var ∷ []) after (k + 1) (length pairs) i j
    new_one =
        record {
          listed = omega (arith, length_one pairs pair);
          pair = get_or-append_seam pairs pair [] none_yet;
          within = j_in;
          passed = omega (arith, at);
          is_pair = pair_there;
          number =
              ap (λ (n : ℕ). get_or (numbers ++ var ∷ []) n 0) (at ∙ sym so_far.counted) ∙ get_or-append_seam numbers var [] 0 ∙ is_var ∙ so_far.vars;
        }

    kept : (m : ℕ) → m < length pairs → pair_at after m ≡ pair_at pairs m
    kept m h = get_or-append pairs (pair ∷ []) none_yet m h

    opened : (a b : ℕ) → b < count → is_pair_at recorded count a b ≡ true → (a * count + b < k) ⊎ (a * count + b ≡ k)
        → (m : ℕ) × HasNumber old.vars count recorded (numbers ++ var ∷ []) after (k + 1) m a b
    opened a b b_in p (inl before) =
        let some = so_far.opened a b b_in before p in (
          some.0,
          later old.vars count recorded numbers pairs after var k some.0 a b so_far.counted (omega (arith, some.1.listed, length_one pairs pair))
              (kept some.0 some.1.listed) some.1,
        )
    opened a b b_in p (inr e) =
        let same = same_from_place a b i j count b_in j_in (e ∙ sym at) in (
          length pairs,
          subst (λ (x : ℕ). HasNumber old.vars count recorded (numbers ++ var ∷ []) after (k + 1) (length pairs) x b) (sym same.0)
              (subst (λ (y : ℕ). HasNumber old.vars count recorded (numbers ++ var ∷ []) after (k + 1) (length pairs) i y) (sym same.1) new_one),
        )

    listed : (m : ℕ) → (m < length pairs) ⊎ (m ≡ length pairs)
        → HasNumber old.vars count recorded (numbers ++ var ∷ []) after (k + 1) m (pair_at after m).first (pair_at after m).second
    listed m (inl h) =
        subst (λ (p : Pair). HasNumber old.vars count recorded (numbers ++ var ∷ []) after (k + 1) m p.first p.second) (sym (kept m h))
        (later old.vars count recorded numbers pairs after var k m (pair_at pairs m).first (pair_at pairs m).second so_far.counted
        (omega (arith, h, length_one pairs pair)) (kept m h) (so_far.listed m h))
    listed m (inr e) =
        subst (λ (x : ℕ). HasNumber old.vars count recorded (numbers ++ var ∷ []) after (k + 1) x (pair_at after x).first (pair_at after x).second) (sym e)
        (subst (λ (p : Pair). HasNumber old.vars count recorded (numbers ++ var ∷ []) after (k + 1) (length pairs) p.first p.second)
        (sym (get_or-append_seam pairs pair [] none_yet)) new_one)

pub some_column : (count k : ℕ) → k < count * count → 0 < count
some_column zero k h = absurd (omega (arith, h))
some_column (suc count) k h = omega arith

pub numbered_more : (old now new : Formula) (count : ℕ) (recorded : List Bool) (numbers : List ℕ) (pairs after : List Pair) (var k : ℕ)
    → k < count * count
    → IsNumber (is_pair_at recorded count (k / count) (k % count)) (record { first = k / count; second = k % count }) now new pairs after var
    → IsNumbered old now count recorded numbers pairs k → IsNumbered old new count recorded (numbers ++ var ∷ []) after (k + 1)
numbered_more old now new count recorded numbers pairs after var k below step so_far = go (is_pair_at recorded count i j) refl
  where
    i : ℕ
    i = k / count

    j : ℕ
    j = k % count

    at : i * count + j ≡ k
    at = div-add-mod' k count

    j_in : j < count
    j_in = mod_below k count (some_column count k below)

    go : (t : Bool) → is_pair_at recorded count i j ≡ t → IsNumbered old new count recorded (numbers ++ var ∷ []) after (k + 1)
    go true e =
        let made = step.made e in
        subst (λ (ps : List Pair). IsNumbered old new count recorded (numbers ++ var ∷ []) ps (k + 1)) (sym made.pairs)
        (numbered_pair old now new count recorded numbers pairs var k i j below at j_in e made.number made.formula so_far)
    go false e =
        subst (λ (f : Formula). IsNumbered old f count recorded (numbers ++ var ∷ []) after (k + 1)) (sym (step.formula e))
        (subst (λ (ps : List Pair). IsNumbered old now count recorded (numbers ++ var ∷ []) ps (k + 1)) (sym (step.pairs e))
        (numbered_other old now count recorded numbers pairs var k i j below at j_in e so_far))

-- what a table says of two places, by cases

abbrev unless_after : Table → ℕ → ℕ → OrderLit
unless_after t i j = cond (recorded_in t j i) order_lit.Never (open_literal t i j)

abbrev unless_before : Table → ℕ → ℕ → OrderLit
unless_before t i j = cond (recorded_in t i j) order_lit.Always (unless_after t i j)

lit_differ : (t : Table) (a b : ℕ) → a ≢ b → lit_in t a b ≡ unless_before t a b
lit_differ t a b differ = cond-false (nat_eq a b) order_lit.Never (unless_before t a b) (ne_eqb a b differ)

lit_open : (t : Table) (a b : ℕ) → a ≢ b → recorded_in t a b ≡ false → recorded_in t b a ≡ false → lit_in t a b ≡ open_literal t a b
lit_open t a b differ f g =
    lit_differ t a b differ ∙ cond-false (recorded_in t a b) order_lit.Always (unless_after t a b) f
    ∙ cond-false (recorded_in t b a) order_lit.Never (open_literal t a b) g

opened_by : (t : Table) (first upto m a b : ℕ) → HasNumber first t.count t.recorded t.numbers t.pairs upto m a b
    → IsOpened t.count (recorded_in t) (lit_in t) first t.pairs m a b
opened_by t first upto m a b has =
    let parts = and_parts (nat_lt a b) (is_open_at t.recorded t.count a b) has.is_pair in
    let opens = and_parts (not (recorded_in t a b)) (not (recorded_in t b a)) parts.1 in
    let rising : a < b = ltb-true a b parts.0 in
    let f : recorded_in t a b ≡ false = not-true (recorded_in t a b) opens.0 in
    let g : recorded_in t b a ≡ false = not-true (recorded_in t b a) opens.1 in
    let up : OrderLit = order_lit.Is (literal_of (number_at t.numbers t.count a b) true) in
    let other : OrderLit = order_lit.Is (literal_of (number_at t.numbers t.count b a) false) in
    let turned : OrderLit = order_lit.Is (literal_of (number_at t.numbers t.count a b) false) in
    let unused : OrderLit = order_lit.Is (literal_of (number_at t.numbers t.count b a) true) in
    record {
      pair = has.pair;
      rising = rising;
      within = has.within;
      not_before = f;
      not_after = g;
      forth =
          lit_open t a b (λ e. omega (arith, rising, e)) f g ∙ cond-true (nat_lt a b) up other parts.0
          ∙ ap (λ (n : ℕ). order_lit.Is (literal_of n true)) has.number;
      back =
          lit_open t b a (λ e. omega (arith, rising, e)) g f
          ∙ cond-false (nat_lt b a) unused turned (false_from_ne_true (nat_lt b a) (λ e. omega (arith, rising, ltb-true b a e)))
          ∙ ap (λ (n : ℕ). order_lit.Is (literal_of n false)) has.number;
    }

pub numbered_all : (old now : Formula) (t : Table) (upto : ℕ) → t.count * t.count ≤ upto → IsNumbered old now t.count t.recorded t.numbers t.pairs upto
    → IsTable t.count (recorded_in t) (lit_in t) old.vars t.pairs
numbered_all old now t upto done so_far =
    record {
      own = λ a. cond-true (nat_eq a a) order_lit.Never (unless_before t a a) (eq-eqb a a refl);
      always = λ a b differ r. lit_differ t a b differ ∙ cond-true (recorded_in t a b) order_lit.Always (unless_after t a b) r;
      never =
          λ a b differ f r.
          lit_differ t a b differ ∙ cond-false (recorded_in t a b) order_lit.Always (unless_after t a b) f
          ∙ cond-true (recorded_in t b a) order_lit.Never (open_literal t a b) r;
      opened = λ a b rising b_in f g. opened a b rising b_in f g;
      listed = λ m h. opened_by t old.vars upto m (pair_at t.pairs m).first (pair_at t.pairs m).second (so_far.listed m h);
    }
  where
    is_pair : (a b : ℕ) → a < b → recorded_in t a b ≡ false → recorded_in t b a ≡ false → is_pair_at t.recorded t.count a b ≡ true
    is_pair a b rising f g =
        and_from (nat_lt a b) (is_open_at t.recorded t.count a b) (lt-ltb a b rising)
        (and_from (not (recorded_in t a b)) (not (recorded_in t b a)) (ap (λ (x : Bool). not x) f) (ap (λ (x : Bool). not x) g))

    opened : (a b : ℕ) → a < b → b < t.count → recorded_in t a b ≡ false → recorded_in t b a ≡ false
        → (k : ℕ) × (k < length t.pairs) × IsOpened t.count (recorded_in t) (lit_in t) old.vars t.pairs k a b
    opened a b rising b_in f g =
        let a_in : a < t.count = omega (arith, rising, b_in) in
        let some = so_far.opened a b b_in (omega (arith, place_within t.count a b a_in b_in, done)) (is_pair a b rising f g) in
        (some.0, some.1.listed, opened_by t old.vars upto some.0 a b some.1)

pub numbered_grows : (old now : Formula) (count : ℕ) (recorded : List Bool) (numbers : List ℕ) (pairs : List Pair) (upto : ℕ)
    → IsNumbered old now count recorded numbers pairs upto → Grows old now
numbered_grows old now count recorded numbers pairs upto so_far =
    record { vars = omega (arith, so_far.vars); more = []; clauses = so_far.clauses ∙ append_none old.clauses }
  where
    append_none : (cs : List (List Lit)) → cs ≡ cs ++ []
    append_none [] = refl
    append_none (c ∷ cs) = ap (λ (x : List (List Lit)). c ∷ x) (append_none cs)

pub on_err : {T E : Type 0} (r : Result T E) {P : Type 0} → P → OnErr r P
on_err (Ok x) p = tt
on_err (Err e) p = p
