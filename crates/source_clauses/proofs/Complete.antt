-- Where a reader sees the newest write, selecting it makes all its clauses true.
use Rattle.std.proofs.Common.{◌≡◌, ◌≢◌, ℕ, ◌<◌, ◌+◌, ◌-◌, ◌⊎◌, Bool, true, false, not, cond, List, [], length, refl, sym, ◌∙◌, ap, subst, inl, inr, arith}
use Rattle.std.specs.Prelude.{nat_eq, nat_lt, Contains}
use Rattle.std.proofs.lemmas.Bool.{false≢true, and_parts, eq-eqb, eqb-true, lt-ltb, ltb-true, cond-true, cond-false, false_from_ne_true}
use Rattle.std.proofs.lemmas.List.Elements.{Contains-append_cases, Contains-get_or}
use Rattle.clause_store.specs.declared.lit.Lit.{Lit}
use Rattle.clause_store.specs.Literals.{Assignment, opposite, literal_value, IsTrueUnder}
use Rattle.clause_store.proofs.Members.{Contains-nil, Any-from_contains}
use Rattle.order_clauses.specs.declared.order_lit.OrderLit.TheVariants as order_lit
use Rattle.order_clauses.specs.declared.table.Table.{Table}
use Rattle.order_clauses.specs.Literals.{spelled}
use Rattle.source_clauses.specs.declared.reader.Candidate.{Candidate}
use Rattle.source_clauses.specs.declared.reader.Reader.{Reader}
use Rattle.source_clauses.specs.declared.named.Named.{Named}
use Rattle.source_clauses.specs.Sees.{candidate_at, bit_at, between, is_older, ReadsBits, SeesNewest}
use Rattle.source_clauses.specs.Clauses.{implied, Copied, selection_at, AreSelected, older_at, next_at, is_covered, is_apart, newest, OlderClause, UnwrittenClause, WrittenBits}
use Rattle.source_clauses.specs.Named.{ReaderClause}
use Rattle.source_clauses.proofs.Alike.{source_of}
use Rattle.source_clauses.proofs.Conditional.{implied_holds}
use Rattle.source_clauses.proofs.Sound.{HasOlders, not_value, not_from}

-- an assignment, and from a variable on the selection of one source
pub with_source : ℕ → ℕ → Assignment → Assignment
with_source first source w x = cond (nat_lt x first) (w x) (nat_eq (x - first) source)

pub with_source-below : (first source : ℕ) (w : Assignment) (x : ℕ) → x < first → with_source first source w x ≡ w x
unfolding with_source
with_source-below first source w x below = cond-true (nat_lt x first) (w x) (nat_eq (x - first) source) (lt-ltb x first below)

with_source-at : (first source : ℕ) (w : Assignment) (i : ℕ) → with_source first source w (first + i) ≡ nat_eq i source
unfolding with_source
with_source-at first source w i =
    let x : ℕ = first + i in
    let back : x - first ≡ i = omega arith in
    cond-false (nat_lt x first) (w x) (nat_eq (x - first) source)
    (false_from_ne_true (nat_lt x first) (λ e. omega (arith, ltb-true x first e)))
    ∙ ap (λ (j : ℕ). nat_eq j source) back

-- The source that a reader sees is selected, and the conditions of its candidates have their meaning.
pub record Selecting (w : Assignment) (table : Table) (reader : Reader) (named : Named) (source : ℕ) : Type 0 where
  pub selected : (i : ℕ) → i < length reader.candidates + 1 → literal_value w (selection_at named.selected i) ≡ nat_eq i source
  pub counted : length named.selected ≡ length reader.candidates + 1
  pub source_in : source < length reader.candidates + 1
  pub olders : HasOlders w table reader named
  pub older : source < length reader.candidates → is_older w table reader source ≡ true
  pub newest_is : source < length reader.candidates → (j : ℕ) → j < length reader.candidates → j ≢ source → is_older w table reader j ≡ true
      → spelled w (between table reader.candidates j source) ≡ true
  pub none_older : source ≡ length reader.candidates → (j : ℕ) → j < length reader.candidates → is_older w table reader j ≡ false
  pub reads : source < length reader.candidates → ReadsBits w reader (candidate_at reader.candidates source).bits
  pub reads_initial : source ≡ length reader.candidates → ReadsBits w reader reader.initial

below_not : (a b : ℕ) → a < b → a ≡ b → ⊥
below_not a b h e = omega (arith, h, e)

same_below : (n : ℕ) → n < n → ⊥
same_below n h = omega (arith, h)

one_more : (a n : ℕ) → a < n → a < n + 1
one_more a n h = omega (arith, h)

last_one : (n : ℕ) → n < n + 1
last_one n = omega arith

pub selecting : (w : Assignment) (table : Table) (reader : Reader) (named : Named) (sees : SeesNewest w table reader)
    → ((i : ℕ) → i < length reader.candidates + 1 → literal_value w (selection_at named.selected i) ≡ nat_eq i (source_of w table reader sees))
    → length named.selected ≡ length reader.candidates + 1 → HasOlders w table reader named
    → Selecting w table reader named (source_of w table reader sees)
selecting w table reader named (inl write) selected counted olders =
    record {
      selected = selected;
      counted = counted;
      source_in = one_more write.source (length reader.candidates) write.is_newest.listed;
      olders = olders;
      older = λ _. write.is_newest.older;
      newest_is = λ _. write.is_newest.newest;
      none_older = λ e. absurd (below_not write.source (length reader.candidates) write.is_newest.listed e);
      reads = λ _. write.reads;
      reads_initial = λ e. absurd (below_not write.source (length reader.candidates) write.is_newest.listed e);
    }
selecting w table reader named (inr initial) selected counted olders =
    record {
      selected = selected;
      counted = counted;
      source_in = last_one (length reader.candidates);
      olders = olders;
      older = λ h. absurd (same_below (length reader.candidates) h);
      newest_is = λ h. absurd (same_below (length reader.candidates) h);
      none_older = λ _. initial.none_older;
      reads = λ h. absurd (same_below (length reader.candidates) h);
      reads_initial = λ _. initial.reads;
    }

is_source : (w : Assignment) (table : Table) (reader : Reader) (named : Named) (source : ℕ) → Selecting w table reader named source
    → (i : ℕ) → i < length reader.candidates + 1 → literal_value w (selection_at named.selected i) ≡ true → i ≡ source
is_source w table reader named source s i i_in e = eqb-true i source (sym (s.selected i i_in) ∙ e)

-- the bits of a source
copied_true : (w : Assignment) (c : Lit) (reader : Reader) (bits : List Lit) → (literal_value w c ≡ true → ReadsBits w reader bits)
    → (k : List Lit) → Copied c bits reader.read k → IsTrueUnder w k
copied_true w c reader bits reads k kind =
    by_half
    (Contains-append_cases (implied c (order_lit.Is bit) (order_lit.Is read)) (implied c (order_lit.Is (opposite bit)) (order_lit.Is (opposite read))) k kind.kind)
  where
    bit : Lit
    bit = bit_at bits kind.at

    read : Lit
    read = bit_at reader.read kind.at

    by_half : Contains (implied c (order_lit.Is bit) (order_lit.Is read)) k
        ⊎ Contains (implied c (order_lit.Is (opposite bit)) (order_lit.Is (opposite read))) k
        → IsTrueUnder w k
    by_half (inl listed) =
        implied_holds w c (order_lit.Is bit) (order_lit.Is read) (λ e h. reads e kind.at kind.within ∙ h) k listed
    by_half (inr listed) =
        implied_holds w c (order_lit.Is (opposite bit)) (order_lit.Is (opposite read))
        (λ e h. not_value w read (reads e kind.at kind.within ∙ not_from w bit h)) k listed

no_clause : (w : Assignment) (k : List Lit) → Contains [] k → IsTrueUnder w k
no_clause w k listed = absurd (Contains-nil k listed)

pub selecting_true : (w : Assignment) (table : Table) (reader : Reader) (named : Named) (source : ℕ) → Selecting w table reader named source
    → (k : List Lit) → ReaderClause table reader named k → IsTrueUnder w k
selecting_true w table reader named source s = by_kind
  where
    cs : List Candidate
    cs = reader.candidates

    n : ℕ
    n = length cs

    select : ℕ → Lit
    select i = selection_at named.selected i

    seen : IsTrueUnder w named.selected
    seen =
        Any-from_contains (λ l. literal_value w l ≡ true) named.selected (select source)
        (Contains-get_or named.selected source (record { var = 0; positive = false }) (subst (λ (m : ℕ). source < m) (sym s.counted) s.source_in))
        (s.selected source s.source_in ∙ eq-eqb source source refl)

    source_is : (i : ℕ) → i < n + 1 → literal_value w (select i) ≡ true → i ≡ source
    source_is i i_in e = is_source w table reader named source s i i_in e

    older_true : (k : List Lit) → OlderClause n named.selected named.olders k → IsTrueUnder w k
    older_true k kind =
        implied_holds w (select kind.at) order_lit.Always (older_at named.olders kind.at)
        (λ e _.
        let same : kind.at ≡ source = source_is kind.at (one_more kind.at n kind.within) e in
        s.olders kind.at kind.within
        ∙ subst (λ (x : ℕ). is_older w table reader x ≡ true) (sym same) (s.older (subst (λ (x : ℕ). x < n) same kind.within)))
        k kind.kind

    pair_true : (i j : ℕ) → i < n → j < n → i ≢ j → (k : List Lit)
        → Contains (implied (select i) (older_at named.olders j) (between table cs j i)) k → IsTrueUnder w k
    pair_true i j i_in j_in differ k listed =
        implied_holds w (select i) (older_at named.olders j) (between table cs j i)
        (λ e h.
        let same : i ≡ source = source_is i (one_more i n i_in) e in
        subst (λ (x : ℕ). spelled w (between table cs j x) ≡ true) (sym same)
        (s.newest_is (subst (λ (x : ℕ). x < n) same i_in) j j_in (λ f. differ (same ∙ sym f)) (sym (s.olders j j_in) ∙ h)))
        k listed

    newest_true : (i j : ℕ) → i < n → j < n → (k : List Lit) → Contains (newest table cs named.nexts named.selected named.olders i j) k → IsTrueUnder w k
    newest_true i j i_in j_in k = by_apart (is_apart table cs (next_at named.nexts i) i j) refl
      where
        kept : List (List Lit)
        kept = implied (select i) (older_at named.olders j) (between table cs j i)

        apart : Bool
        apart = is_apart table cs (next_at named.nexts i) i j

        differs : apart ≡ true → i ≢ j
        differs e same =
            false≢true
            (sym (ap (λ (b : Bool). not b) (eq-eqb i j same)) ∙ (and_parts (not (nat_eq i j)) (not (is_covered table cs (next_at named.nexts i) j)) e).0)

        by_apart : (t : Bool) → apart ≡ t → Contains (cond t kept []) k → IsTrueUnder w k
        by_apart true e listed = pair_true i j i_in j_in (differs e) k listed
        by_apart false e listed = no_clause w k listed

    unwritten_true : (k : List Lit) → UnwrittenClause n (select n) named.olders k → IsTrueUnder w k
    unwritten_true k kind =
        implied_holds w (select n) (older_at named.olders kind.at) order_lit.Never
        (λ e h.
        sym (s.none_older (sym (source_is n (last_one n) e)) kind.at kind.within)
        ∙ (sym (s.olders kind.at kind.within) ∙ h))
        k kind.kind

    written_true : (k : List Lit) → WrittenBits reader named.selected k → IsTrueUnder w k
    written_true k kind =
        copied_true w (select kind.at) reader (candidate_at cs kind.at).bits
        (λ e.
        let same : kind.at ≡ source = source_is kind.at (one_more kind.at n kind.within) e in
        subst (λ (x : ℕ). ReadsBits w reader (candidate_at cs x).bits) (sym same) (s.reads (subst (λ (x : ℕ). x < n) same kind.within)))
        k kind.kind

    initial_true : (k : List Lit) → Copied (select n) reader.initial reader.read k → IsTrueUnder w k
    initial_true k kind =
        copied_true w (select n) reader reader.initial (λ e. s.reads_initial (sym (source_is n (last_one n) e))) k kind

    by_kind : (k : List Lit) → ReaderClause table reader named k → IsTrueUnder w k
    by_kind k (inl same) = subst (λ (c : List Lit). IsTrueUnder w c) (sym same) seen
    by_kind k (inr (inl kind)) = older_true k kind
    by_kind k (inr (inr (inl kind))) = newest_true kind.at kind.kind.at kind.within kind.kind.within k kind.kind.kind
    by_kind k (inr (inr (inr (inl kind)))) = unwritten_true k kind
    by_kind k (inr (inr (inr (inr (inl kind))))) = written_true k kind
    by_kind k (inr (inr (inr (inr (inr kind))))) = initial_true k kind

pub selected_value : (w : Assignment) (first count source : ℕ) (selected : List Lit) → AreSelected first count selected → (i : ℕ) → i < count
    → literal_value (with_source first source w) (selection_at selected i) ≡ nat_eq i source
selected_value w first count source selected are i i_in =
    ap (λ (l : Lit). literal_value (with_source first source w) l) (are.each i i_in) ∙ with_source-at first source w i
