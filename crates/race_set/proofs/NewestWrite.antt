-- A walk over the accesses finds the write that a reader surely sees.
use Rattle.std.proofs.Common.{◌≡◌, ℕ, ◌<◌, ◌+◌, ◌⊎◌, Bool, true, false, ◌&&◌, List, length, Option, Some, None, refl, sym, ◌∙◌, ap, subst, inl, inr, arith}
use Rattle.std.specs.Prelude.{nat_eq, is_none, IfSome, if◌then◌else◌}
use Rattle.std.proofs.lemmas.Bool.{false≢true, and_parts, and_from, and_cases, or_cases, eqb-true}
use Rattle.order_clauses.specs.Orders.{IsStrict}
use Rattle.order_clauses.proofs.Counts.{split-below}
use Rattle.race_set.specs.declared.shape.AccessShape.{AccessShape}
use Rattle.race_set.specs.declared.shape.Span.{Span}
use Rattle.race_set.specs.declared.source.Source.TheVariants as source
use Rattle.race_set.specs.Bytes.{surely_at, may_be_at, may_write, surely_writes}
use Rattle.race_set.specs.Accesses.{shape_at}
use Rattle.race_set.specs.Places.{is_after, is_passed, is_later, later, IsInitial, IsCandidate, IsWrite, IsSource}

-- ---- tests, as facts

sure_place : (byte : ℕ) (place : Option Span) → surely_at byte place ≡ true → may_be_at byte place ≡ true
sure_place byte None e = absurd (false≢true e)
sure_place byte (Some span) e = e

pub surely_may : (byte : ℕ) (z : AccessShape) → surely_writes byte z ≡ true → may_write byte z ≡ true
surely_may byte z e =
    let parts = and_parts z.writes (is_none z.link && surely_at byte z.place) e in
    and_from z.writes (may_be_at byte z.place) parts.0 (sure_place byte z.place (and_parts (is_none z.link) (surely_at byte z.place) parts.1).1)

pub after_cases : (recorded : ℕ → ℕ → Bool) (x z : ℕ) → is_after recorded x z ≡ true → (z ≡ x) ⊎ (recorded x z ≡ true)
after_cases recorded x z e = go (or_cases (nat_eq z x) (recorded x z) e)
  where
    go : (nat_eq z x ≡ true) ⊎ (recorded x z ≡ true) → (z ≡ x) ⊎ (recorded x z ≡ true)
    go (inl same) = inl (eqb-true z x same)
    go (inr h) = inr h

-- another access is the writer, or before it, or the reader, or after it
pub passed_cases : (recorded : ℕ → ℕ → Bool) (x y z : ℕ) → is_passed recorded x y z ≡ true
    → ((y ≡ z) ⊎ (recorded z y ≡ true)) ⊎ ((z ≡ x) ⊎ (recorded x z ≡ true))
passed_cases recorded x y z e = go (or_cases (is_after recorded z y) (is_after recorded x z) e)
  where
    go : (is_after recorded z y ≡ true) ⊎ (is_after recorded x z ≡ true) → ((y ≡ z) ⊎ (recorded z y ≡ true)) ⊎ ((z ≡ x) ⊎ (recorded x z ≡ true))
    go (inl a) = inl (after_cases recorded z y a)
    go (inr b) = inr (after_cases recorded x z b)

module _ (recorded : ℕ → ℕ → Bool) (strict : IsStrict recorded) where
  pub never_back : (a b : ℕ) → recorded a b ≡ true → recorded b a ≡ true → ⊥
  never_back a b e f = false≢true (sym (strict.irreflexive a) ∙ strict.transitive a b a e f)

  pub never_itself : (a : ℕ) → recorded a a ≡ true → ⊥
  never_itself a e = false≢true (sym (strict.irreflexive a) ∙ e)

  -- one that stands before the reader isn't it, nor after it
  pub not_after : (x z : ℕ) → recorded z x ≡ true → (z ≡ x) ⊎ (recorded x z ≡ true) → ⊥
  not_after x z e (inl same) = never_itself x (subst (λ (t : ℕ). recorded t x ≡ true) same e)
  not_after x z e (inr back) = never_back z x e back

  -- of one that stands before the reader only the first two cases are left
  pub passed_older : (x y z : ℕ) → recorded z x ≡ true → is_passed recorded x y z ≡ true → (y ≡ z) ⊎ (recorded z y ≡ true)
  passed_older x y z e p = go (passed_cases recorded x y z p)
    where
      go : ((y ≡ z) ⊎ (recorded z y ≡ true)) ⊎ ((z ≡ x) ⊎ (recorded x z ≡ true)) → (y ≡ z) ⊎ (recorded z y ≡ true)
      go (inl one) = one
      go (inr two) = absurd (not_after x z e two)

-- ---- the walk

-- what the walk has found among the first so many accesses
pub record IsNewestOf (shapes : List AccessShape) (recorded : ℕ → ℕ → Bool) (byte reader upto : ℕ) (newest : Option ℕ) : Type 0 where
  pub candidate : IfSome newest (λ y. IsCandidate shapes recorded byte reader y)
  pub found : IsStrict recorded → (y : ℕ) → y < upto → IsWrite shapes recorded byte reader y → newest ≡ Some y

pub newest_none : (shapes : List AccessShape) (recorded : ℕ → ℕ → Bool) (byte reader : ℕ) → IsNewestOf shapes recorded byte reader 0 None
newest_none shapes recorded byte reader = record { candidate = tt; found = λ strict y below. absurd (omega (arith, below)) }

pub candidate_within : (shapes : List AccessShape) (recorded : ℕ → ℕ → Bool) (byte reader count : ℕ) (newest : Option ℕ)
    → count ≡ length shapes → IfSome newest (λ y. IsCandidate shapes recorded byte reader y) → IfSome newest (λ y. y < count)
candidate_within shapes recorded byte reader count None same c = tt
candidate_within shapes recorded byte reader count (Some y) same c = omega (arith, same, c.within)

later_older : (recorded : ℕ → ℕ → Bool) (reader : ℕ) (newest : Option ℕ) (other : ℕ) → is_later recorded reader newest other ≡ true → recorded other reader ≡ true
later_older recorded reader None other e = e
later_older recorded reader (Some y) other e = (and_parts (recorded other reader) (recorded y other) e).0

-- a surely seen write isn't followed by another
seen_last : (shapes : List AccessShape) (recorded : ℕ → ℕ → Bool) (byte reader y other : ℕ) → IsStrict recorded → IsWrite shapes recorded byte reader y
    → other < length shapes → may_write byte (shape_at shapes other) ≡ true → recorded other reader ≡ true → recorded y other ≡ true → ⊥
seen_last shapes recorded byte reader y other strict write within writes older later =
    go (passed_older recorded strict reader y other older (write.passed other within writes))
  where
    go : (y ≡ other) ⊎ (recorded other y ≡ true) → ⊥
    go (inl same) = never_itself recorded strict other (subst (λ (t : ℕ). recorded t other ≡ true) same later)
    go (inr back) = never_back recorded strict y other later back

newest_taken : (shapes : List AccessShape) (recorded : ℕ → ℕ → Bool) (byte reader other : ℕ) (newest : Option ℕ) → other < length shapes
    → IsNewestOf shapes recorded byte reader other newest → may_write byte (shape_at shapes other) ≡ true
    → is_later recorded reader newest other ≡ true → IsNewestOf shapes recorded byte reader (other + 1) (Some other)
newest_taken shapes recorded byte reader other newest within so writes is_last =
    record {
      candidate = record { within = within; writes = writes; older = later_older recorded reader newest other is_last };
      found = λ strict y below write. go strict y write (split-below y other (omega (arith, below)));
    }
  where
    taken : IsStrict recorded → (y : ℕ) → IsWrite shapes recorded byte reader y → (o : Option ℕ) → o ≡ Some y
        → is_later recorded reader o other ≡ true → ⊥
    taken strict y write o e last =
        let both = and_parts (recorded other reader) (recorded y other) (subst (λ (t : Option ℕ). is_later recorded reader t other ≡ true) e last) in
        seen_last shapes recorded byte reader y other strict write within writes both.0 both.1

    go : IsStrict recorded → (y : ℕ) → IsWrite shapes recorded byte reader y → (y < other) ⊎ (y ≡ other) → Some other ≡ Some y
    go strict y write (inl before) = absurd (taken strict y write newest (so.found strict y before write) is_last)
    go strict y write (inr same) = ap (λ (t : ℕ). Some t) (sym same)

newest_left : (shapes : List AccessShape) (recorded : ℕ → ℕ → Bool) (byte reader other : ℕ) (newest : Option ℕ) → other < length shapes
    → IsNewestOf shapes recorded byte reader other newest
    → (may_write byte (shape_at shapes other) && is_later recorded reader newest other) ≡ false → IsNewestOf shapes recorded byte reader (other + 1) newest
newest_left shapes recorded byte reader other newest within so fails =
    record {
      candidate = so.candidate;
      found = λ strict y below write. go strict y write (split-below y other (omega (arith, below)));
    }
  where
    not_later : IsWrite shapes recorded byte reader other → is_later recorded reader newest other ≡ false
    not_later write = pick (and_cases (may_write byte (shape_at shapes other)) (is_later recorded reader newest other) fails)
      where
        pick : (may_write byte (shape_at shapes other) ≡ false) ⊎ (is_later recorded reader newest other ≡ false) → is_later recorded reader newest other ≡ false
        pick (inl no_write) = absurd (false≢true (sym no_write ∙ surely_may byte (shape_at shapes other) write.writes))
        pick (inr f) = f

    same_write : IsStrict recorded → IsWrite shapes recorded byte reader other → (o : Option ℕ) → IfSome o (λ y. IsCandidate shapes recorded byte reader y)
        → is_later recorded reader o other ≡ false → o ≡ Some other
    same_write strict write None c f = absurd (false≢true (sym f ∙ write.older))
    same_write strict write (Some y) c f = pick (passed_older recorded strict reader other y c.older (write.passed y c.within c.writes))
      where
        pick : (other ≡ y) ⊎ (recorded y other ≡ true) → Some y ≡ Some other
        pick (inl same) = ap (λ (t : ℕ). Some t) (sym same)
        pick (inr later) = absurd (false≢true (sym f ∙ and_from (recorded other reader) (recorded y other) write.older later))

    go : IsStrict recorded → (y : ℕ) → IsWrite shapes recorded byte reader y → (y < other) ⊎ (y ≡ other) → newest ≡ Some y
    go strict y write (inl before) = so.found strict y before write
    go strict y write (inr same) =
        let here : IsWrite shapes recorded byte reader other = subst (λ (t : ℕ). IsWrite shapes recorded byte reader t) same write in
        same_write strict here newest so.candidate (not_later here) ∙ ap (λ (t : ℕ). Some t) (sym same)

pub newest_more : (shapes : List AccessShape) (recorded : ℕ → ℕ → Bool) (byte reader other : ℕ) (newest : Option ℕ) → other < length shapes
    → IsNewestOf shapes recorded byte reader other newest → IsNewestOf shapes recorded byte reader (other + 1) (later shapes recorded byte reader newest other)
newest_more shapes recorded byte reader other newest within so =
    go (may_write byte (shape_at shapes other) && is_later recorded reader newest other) refl
  where
    go : (b : Bool) → (may_write byte (shape_at shapes other) && is_later recorded reader newest other) ≡ b
        → IsNewestOf shapes recorded byte reader (other + 1) (if b then Some other else newest)
    go true e =
        let both = and_parts (may_write byte (shape_at shapes other)) (is_later recorded reader newest other) e in
        newest_taken shapes recorded byte reader other newest within so both.0 both.1
    go false e = newest_left shapes recorded byte reader other newest within so e

-- ---- the source

pub some_not : (y z : ℕ) (o : Option ℕ) → o ≡ Some y → o ≡ Some z → y ≡ z
some_not y z o e f = go (sym e ∙ f)
  where
    value : Option ℕ → ℕ
    value None = y
    value (Some x) = x

    go : Some y ≡ Some z → y ≡ z
    go g = ap (λ (t : Option ℕ). value t) g

-- a candidate that isn't seen leaves the source open
pub open_by : (shapes : List AccessShape) (recorded : ℕ → ℕ → Bool) (byte reader y : ℕ) (newest : Option ℕ) → newest ≡ Some y
    → IsCandidate shapes recorded byte reader y → (IsWrite shapes recorded byte reader y → ⊥)
    → (IsStrict recorded → (z : ℕ) → IsWrite shapes recorded byte reader z → newest ≡ Some z)
    → IsStrict recorded → IsSource shapes recorded byte reader source.Open
open_by shapes recorded byte reader y newest is candidate never found strict = (
  λ initial. not_after recorded strict reader y candidate.older (after_cases recorded reader y (initial y candidate.within candidate.writes)),
  λ z write. never (subst (λ (t : ℕ). IsWrite shapes recorded byte reader t) (sym (some_not y z newest is (found strict z write))) write),
)

-- no candidate, and the initial byte isn't seen
pub open_without : (shapes : List AccessShape) (recorded : ℕ → ℕ → Bool) (byte reader : ℕ) (newest : Option ℕ) → newest ≡ None
    → (IsInitial shapes recorded byte reader → ⊥) → (IsStrict recorded → (z : ℕ) → IsWrite shapes recorded byte reader z → newest ≡ Some z)
    → IsStrict recorded → IsSource shapes recorded byte reader source.Open
open_without shapes recorded byte reader newest is never found strict = (never, λ z write. absurd (none (sym is ∙ found strict z write)))
  where
    is_there : Option ℕ → Bool
    is_there None = false
    is_there (Some x) = true

    none : {z : ℕ} → None ≡ Some z → ⊥
    none e = false≢true (ap (λ (t : Option ℕ). is_there t) e)
