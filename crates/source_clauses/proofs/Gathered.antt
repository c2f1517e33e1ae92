-- Conditions joined, and gathered candidate by candidate.
use Rattle.std.proofs.Common.{◌≡◌, ℕ, suc, ◌<◌, ◌≤◌, ◌+◌, ◌⊎◌, Bool, true, false, ◌&&◌, List, [], ◌∷◌, ◌++◌, length, get_or, refl, sym, ◌∙◌, ap, subst, inl, inr, arith}
use Rattle.std.specs.Prelude.{IsSome}
use Rattle.std.proofs.lemmas.Bool.{cases_lt}
use Rattle.std.proofs.lemmas.List.{length_push, get_or_push, get_or_append_left}
use Rattle.clause_store.specs.declared.lit.Lit.{Lit}
use Rattle.clause_store.specs.Literals.{Assignment, Satisfies}
use Rattle.clause_store.specs.UnitRule.{Partial, IsGiven, AllAtRest}
use Rattle.clause_store.specs.Formula.{Formula, IsKnown, Grows, Extension}
use Rattle.clause_store.proofs.Agreement.{composed}
use Rattle.clause_store.proofs.Growth.{growth_then, older_satisfied, older_at_rest}
use Rattle.clause_store.proofs.Rooting.{value_from_given}
use Rattle.bit_gates.specs.Gate.{both, joined, IsGate, BothGive, OneGives}
use Rattle.order_clauses.specs.declared.order_lit.OrderLit.{OrderLit}
use Rattle.order_clauses.specs.declared.order_lit.OrderLit.TheVariants as order_lit
use Rattle.order_clauses.specs.declared.table.Table.{Table}
use Rattle.order_clauses.specs.Literals.{spelled}
use Rattle.order_clauses.specs.Grid.{lit_in, IsKnownOrder}
use Rattle.order_clauses.proofs.Added.{adds_none, adds_grows}
use Rattle.order_clauses.proofs.Counts.{split-below}
use Rattle.order_clauses.proofs.Known.{never_is}
use Rattle.source_clauses.specs.declared.reader.Reader.{Reader}
use Rattle.source_clauses.specs.Conditions.{IsDecided, IsBoth}
use Rattle.source_clauses.specs.Sees.{candidate_at, before_reader, is_older}
use Rattle.source_clauses.specs.Clauses.{older_at}
use Rattle.source_clauses.specs.Contract.{KnowsReader, KnowsCandidate}
use Rattle.source_clauses.specs.Olders.{AreOlders}

pub grows_self : (f : Formula) → Grows f f
grows_self f = adds_grows f f (λ c. ⊥) (adds_none f (λ c. ⊥) (λ c h. h))

pub itself : (vars : ℕ) (w : Assignment) (clauses : List (List Lit)) → Satisfies w clauses → Extension vars w clauses
itself vars w clauses sat = record { extended = w; agrees = λ x below. refl; satisfies = sat }

pub none_new : (f : Formula) (x : ℕ) → f.vars ≤ x → x < f.vars → ⊥
none_new f x h g = omega (arith, h, g)

-- two conditions joined

pub never_first : (f : Formula) (second : OrderLit) → IsBoth f f order_lit.Never second order_lit.Never
never_first f second =
    record {
      grows = grows_self f;
      known = λ l e. absurd (never_is l e);
      has_value = λ w sat. refl;
      extends = λ w sat. itself f.vars w f.clauses sat;
      given = λ v a b rest g h. ap (λ (c : Bool). c && b) g;
      decides = λ v b g x from to. absurd (none_new f x from to);
    }

both_false : (a b : Bool) → (a ≡ true → b ≡ false) → a && b ≡ false
both_false true b h = h refl
both_false false b h = refl

and_false : (p : Bool) → false ≡ p && false
and_false true = refl
and_false false = refl

and_true : (p : Bool) → p ≡ p && true
and_true true = refl
and_true false = refl

pub never_second : (f : Formula) (first : OrderLit) → IsBoth f f first order_lit.Never order_lit.Never
never_second f first =
    record {
      grows = grows_self f;
      known = λ l e. absurd (never_is l e);
      has_value = λ w sat. and_false (spelled w first);
      extends = λ w sat. itself f.vars w f.clauses sat;
      given = λ v a b rest g h. both_false a b h;
      decides = λ v b g x from to. absurd (none_new f x from to);
    }

pub always_first : (f : Formula) (second : OrderLit) → IsKnownOrder f.vars second → IsBoth f f order_lit.Always second second
always_first f second known =
    record {
      grows = grows_self f;
      known = known;
      has_value = λ w sat. refl;
      extends = λ w sat. itself f.vars w f.clauses sat;
      given = λ v a b rest g h. subst (λ (c : Bool). IsDecided v second (c && b)) (sym g) (h g);
      decides = λ v b g x from to. absurd (none_new f x from to);
    }

left_alone : (v : Partial) (first : OrderLit) (a b : Bool) → IsDecided v first a → (a ≡ true → b ≡ true) → IsDecided v first (a && b)
left_alone v first true b g h = subst (λ (c : Bool). IsDecided v first c) (sym (h refl)) g
left_alone v first false b g h = g

pub always_second : (f : Formula) (first : OrderLit) → IsKnownOrder f.vars first → IsBoth f f first order_lit.Always first
always_second f first known =
    record {
      grows = grows_self f;
      known = known;
      has_value = λ w sat. and_true (spelled w first);
      extends = λ w sat. itself f.vars w f.clauses sat;
      given = λ v a b rest g h. left_alone v first a b g h;
      decides = λ v b g x from to. absurd (none_new f x from to);
    }

abbrev variable_of : OrderLit → ℕ
variable_of order_lit.Always = 0
variable_of order_lit.Never = 0
variable_of (order_lit.Is l) = l.var

pub is_known_order : (vars : ℕ) (out : Lit) → out.var < vars → IsKnownOrder vars (order_lit.Is out)
is_known_order vars out known l e = subst (λ (x : ℕ). x < vars) (ap (λ (o : OrderLit). variable_of o) e) known

gate_given : (clauses : List (List Lit)) (one other out : Lit) → BothGive both clauses one other out → OneGives false clauses one other out
    → (v : Partial) (a b : Bool) → AllAtRest v clauses → IsGiven v one a → (a ≡ true → IsGiven v other b) → IsGiven v out (a && b)
gate_given clauses one other out given settled v true b rest g h = given v true b rest g (h refl)
gate_given clauses one other out given settled v false b rest g h = settled v rest (inl g)

pub gate_both : (old new : Formula) (one other out : Lit) → Grows old new → IsGate old new (joined both one other) out
    → BothGive both new.clauses one other out → OneGives false new.clauses one other out
    → IsBoth old new (order_lit.Is one) (order_lit.Is other) (order_lit.Is out)
gate_both old new one other out grows is given settled =
    record {
      grows = grows;
      known = is_known_order new.vars out (next old.vars new.vars out.var is.fresh is.vars);
      has_value = λ w sat. is.has_value w sat;
      extends = λ w sat. is.extends w sat;
      given = λ v a b rest g h. gate_given new.clauses one other out given settled v a b rest g h;
      decides =
          λ v b g x from to.
          subst (λ (y : ℕ). IsSome (v y)) (sym (only old.vars new.vars out.var x is.fresh is.vars from to)) (value_from_given v out b g);
    }
  where
    next : (m n x : ℕ) → x ≡ m → n ≡ m + 1 → x < n
    next m n x e f = omega (arith, e, f)

    only : (m n x y : ℕ) → x ≡ m → n ≡ m + 1 → m ≤ y → y < n → y ≡ x
    only m n x y e f h g = omega (arith, e, f, h, g)

-- one candidate after another

pub older_push : (olders : List OrderLit) (out : OrderLit) (k : ℕ) → length olders ≡ k → older_at (olders ++ out ∷ []) k ≡ out
older_push olders out k e = get_or_push olders out order_lit.Always k e

pub older_kept : (olders : List OrderLit) (out : OrderLit) (i : ℕ) → i < length olders → older_at (olders ++ out ∷ []) i ≡ older_at olders i
older_kept olders out i h = get_or_append_left olders (out ∷ []) order_lit.Always i h

pub olders_none : (f : Formula) (table : Table) (reader : Reader) → AreOlders f f table reader 0 []
olders_none f table reader =
    record {
      counted = refl;
      grows = grows_self f;
      known = λ i h. absurd (none i h);
      has_value = λ w sat i h. absurd (none i h);
      extends = λ w sat. itself f.vars w f.clauses sat;
      given = λ v a b rest i h. absurd (none i h);
      decides = λ v each x from to. absurd (none_new f x from to);
    }
  where
    none : (i : ℕ) → i < 0 → ⊥
    none i h = omega (arith, h)

known_later : (vars more : ℕ) → vars ≤ more → (o : OrderLit) → IsKnownOrder vars o → IsKnownOrder more o
known_later vars more le o known l e = later l.var vars more (known l e) le
  where
    later : (x m n : ℕ) → x < m → m ≤ n → x < n
    later x m n h g = omega (arith, h, g)

pub olders_more : (old between new : Formula) (table : Table) (reader : Reader) (k : ℕ) (olders : List OrderLit) (out : OrderLit)
    → AreOlders old between table reader k olders
    → IsBoth between new (before_reader table reader k) (candidate_at reader.candidates k).hit out
    → AreOlders old new table reader (k + 1) (olders ++ out ∷ [])
olders_more old between new table reader k olders out are two =
    record {
      counted = length_push olders out ∙ ap (λ (n : ℕ). n + 1) are.counted;
      grows = growth_then old between new are.grows two.grows;
      known = λ i h. known_at i (split-below i k (as_suc i k h));
      has_value = λ w sat i h. value_at w sat i (split-below i k (as_suc i k h));
      extends =
          λ w sat.
          let first : Extension old.vars w between.clauses = are.extends w sat in
          composed old.vars between.vars w between.clauses new.clauses first are.grows.vars (two.extends first.extended first.satisfies);
      given = λ v a b rest i h. given_at v a b rest i (split-below i k (as_suc i k h));
      decides = λ v each x from to. by_place v each x from to (cases_lt x between.vars);
    }
  where
    as_suc : (i k : ℕ) → i < k + 1 → i < suc k
    as_suc i k h = omega (arith, h)

    one_more : (i k : ℕ) → i < k → i < k + 1
    one_more i k h = omega (arith, h)

    last_one : (k : ℕ) → k < k + 1
    last_one k = omega arith

    added : List OrderLit
    added = olders ++ out ∷ []

    before : (i : ℕ) → i < k → older_at added i ≡ older_at olders i
    before i h = older_kept olders out i (subst (λ (n : ℕ). i < n) (sym are.counted) h)

    here : older_at added k ≡ out
    here = older_push olders out k are.counted

    known_at : (i : ℕ) → (i < k) ⊎ (i ≡ k) → IsKnownOrder new.vars (older_at added i)
    known_at i (inl h) =
        subst (λ (o : OrderLit). IsKnownOrder new.vars o) (sym (before i h))
        (known_later between.vars new.vars two.grows.vars (older_at olders i) (are.known i h))
    known_at i (inr e) =
        subst (λ (j : ℕ). IsKnownOrder new.vars (older_at added j)) (sym e)
        (subst (λ (o : OrderLit). IsKnownOrder new.vars o) (sym here) two.known)

    value_at : (w : Assignment) → Satisfies w new.clauses → (i : ℕ) → (i < k) ⊎ (i ≡ k) → spelled w (older_at added i) ≡ is_older w table reader i
    value_at w sat i (inl h) =
        ap (λ (o : OrderLit). spelled w o) (before i h) ∙ are.has_value w (older_satisfied between new w two.grows sat) i h
    value_at w sat i (inr e) =
        subst (λ (j : ℕ). spelled w (older_at added j) ≡ is_older w table reader j) (sym e)
        (ap (λ (o : OrderLit). spelled w o) here ∙ two.has_value w sat)

    given_at : (v : Partial) (a b : Bool) → AllAtRest v new.clauses → (i : ℕ) → (i < k) ⊎ (i ≡ k) → IsDecided v (before_reader table reader i) a
        → (a ≡ true → IsDecided v (candidate_at reader.candidates i).hit b) → IsDecided v (older_at added i) (a && b)
    given_at v a b rest i (inl h) g t =
        subst (λ (o : OrderLit). IsDecided v o (a && b)) (sym (before i h)) (are.given v a b (older_at_rest between new v two.grows rest) i h g t)
    given_at v a b rest i (inr e) g t =
        subst
        (λ (j : ℕ). IsDecided v (before_reader table reader j) a → (a ≡ true → IsDecided v (candidate_at reader.candidates j).hit b)
        → IsDecided v (older_at added j) (a && b)) (sym e)
        (λ p q. subst (λ (o : OrderLit). IsDecided v o (a && b)) (sym here) (two.given v a b rest p q)) g t

    by_place : (v : Partial) → ((i : ℕ) → i < k + 1 → (b : Bool) × IsDecided v (older_at added i) b) → (x : ℕ) → old.vars ≤ x → x < new.vars
        → (x < between.vars) ⊎ (between.vars ≤ x) → IsSome (v x)
    by_place v each x from to (inl h) =
        are.decides v
        (λ i i_in.
        let one = each i (one_more i k i_in) in
        (one.0, subst (λ (o : OrderLit). IsDecided v o one.0) (before i i_in) one.1)) x from h
    by_place v each x from to (inr h) =
        let one = each k (last_one k) in
        two.decides v one.0 (subst (λ (o : OrderLit). IsDecided v o one.0) here one.1) x h to

pub olders_grow : (old new : Formula) (table : Table) (reader : Reader) (k : ℕ) (olders : List OrderLit) → AreOlders old new table reader k olders → Grows old new
olders_grow old new table reader k olders are = are.grows

pub olders_all : (old new : Formula) (table : Table) (reader : Reader) (k count : ℕ) (olders : List OrderLit) → AreOlders old new table reader k olders
    → k ≡ count → AreOlders old new table reader count olders
olders_all old new table reader k count olders are e = subst (λ (n : ℕ). AreOlders old new table reader n olders) e are

-- what a reader knows, later
pub later_reader : (vars more : ℕ) → vars ≤ more → (table : Table) (reader : Reader) → KnowsReader vars table reader → KnowsReader more table reader
later_reader vars more le table reader knows =
    record {
      square = knows.square;
      known = λ i j i_in j_in. known_later vars more le (lit_in table i j) (knows.known i j i_in j_in);
      at = knows.at;
      read = all_later reader.read knows.read;
      initial = all_later reader.initial knows.initial;
      width_is = knows.width_is;
      candidates =
          λ i i_in.
          let one : KnowsCandidate vars table (length reader.read) (candidate_at reader.candidates i) = knows.candidates i i_in in
          record {
            at = one.at;
            hit = known_later vars more le (candidate_at reader.candidates i).hit one.hit;
            bits = all_later (candidate_at reader.candidates i).bits one.bits;
            width_is = one.width_is;
          };
    }
  where
    later : (x m n : ℕ) → x < m → m ≤ n → x < n
    later x m n h g = omega (arith, h, g)

    all_later : (bits : List Lit) → IsKnown vars bits → IsKnown more bits
    all_later bits known k d k_in = later (get_or bits k d).var vars more (known k d k_in) le
