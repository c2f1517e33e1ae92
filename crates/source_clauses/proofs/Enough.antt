-- The newest among the candidates is the newest among all.
use Rattle.std.proofs.Common.{◌≡◌, ◌≢◌, ◌⊎◌, ℕ, ◌<◌, Bool, true, List, length, sym, ◌∙◌, ap, subst, inl, inr}
use Rattle.std.proofs.lemmas.Bool.{false≢true, and_parts, and_from, false_from_ne_true}
use Rattle.clause_store.specs.declared.lit.Lit.{Lit}
use Rattle.clause_store.specs.Literals.{Assignment}
use Rattle.order_clauses.specs.declared.table.Table.{Table}
use Rattle.order_clauses.specs.Literals.{spelled}
use Rattle.order_clauses.specs.Orders.{IsStrict}
use Rattle.source_clauses.specs.declared.reader.Reader.{Reader}
use Rattle.source_clauses.specs.Sees.{between, is_older, IsNewest, ReadsBits, SeesWrite, SeesInitial, SeesNewest}
use Rattle.source_clauses.specs.Among.{Accesses, IsSeenBefore, SeesByte, SeesNone, SeesAmongAll, AreCandidates, CandidatesAreEnough}
use Rattle.source_clauses.proofs.Latest.{either_same}

seen_older : (w : Assignment) (table : Table) (reader : Reader) (accesses : Accesses) (lt : ℕ → ℕ → Bool) (x : ℕ) (are : AreCandidates w table reader accesses lt x)
    → (i : ℕ) → i < length reader.candidates → is_older w table reader i ≡ true → IsSeenBefore accesses lt x (are.access i) (are.byte i)
seen_older w table reader accesses lt x are i i_in older =
    let parts = and_parts (lt (are.access i) x) (accesses.hits (are.access i) (are.byte i)) (sym (are.older i i_in) ∙ older) in
    record { there = are.there i i_in; within = are.within i i_in; before = parts.0; hits = parts.1 }

older_seen : (w : Assignment) (table : Table) (reader : Reader) (accesses : Accesses) (lt : ℕ → ℕ → Bool) (x : ℕ) (are : AreCandidates w table reader accesses lt x)
    → (i z m : ℕ) → i < length reader.candidates → are.access i ≡ z → are.byte i ≡ m → IsSeenBefore accesses lt x z m → is_older w table reader i ≡ true
older_seen w table reader accesses lt x are i z m i_in same_access same_byte seen =
    are.older i i_in
    ∙ and_from (lt (are.access i) x) (accesses.hits (are.access i) (are.byte i)) (ap (λ (y : ℕ). lt y x) same_access ∙ seen.before)
    (ap (λ (y : ℕ). accesses.hits y (are.byte i)) same_access ∙ ap (λ (k : ℕ). accesses.hits z k) same_byte ∙ seen.hits)

-- an older candidate of another access is before the newest one
newest_access : (w : Assignment) (table : Table) (reader : Reader) (accesses : Accesses) (lt : ℕ → ℕ → Bool) (x : ℕ) (are : AreCandidates w table reader accesses lt x)
    → (i : ℕ) → IsNewest w table reader i → (j : ℕ) → j < length reader.candidates → is_older w table reader j ≡ true → are.access j ≢ are.access i
    → lt (are.access j) (are.access i) ≡ true
newest_access w table reader accesses lt x are i newest j j_in older apart =
    sym (are.spells j i j_in newest.listed apart) ∙ newest.newest j j_in (λ same. apart (ap (λ (k : ℕ). are.access k) same)) older

all_from_write : (w : Assignment) (table : Table) (reader : Reader) (accesses : Accesses) (lt : ℕ → ℕ → Bool) (x : ℕ) → IsStrict lt
    → (are : AreCandidates w table reader accesses lt x) → SeesWrite w table reader → SeesByte w accesses lt reader x
all_from_write w table reader accesses lt x strict are sees =
    record {
      access = y;
      byte = are.byte i;
      seen = seen_older w table reader accesses lt x are i newest.listed newest.older;
      newest = λ z m apart seen. by_cover z m apart seen (are.covers z m seen);
      reads = subst (λ (bits : List Lit). ReadsBits w reader bits) (are.bits i newest.listed) sees.reads;
    }
  where
    i : ℕ
    i = sees.source

    newest : IsNewest w table reader i
    newest = sees.is_newest

    y : ℕ
    y = are.access i

    hidden : (z j : ℕ) → j < length reader.candidates → lt z (are.access j) ≡ true → is_older w table reader j ≡ true
        → (are.access j ≡ y) ⊎ (are.access j ≢ y) → lt z y ≡ true
    hidden z j j_in before older (inl same) = subst (λ (a : ℕ). lt z a ≡ true) same before
    hidden z j j_in before older (inr apart) =
        strict.transitive z (are.access j) y before (newest_access w table reader accesses lt x are i newest j j_in older apart)

    by_cover : (z m : ℕ) → z ≢ y → IsSeenBefore accesses lt x z m
        → (j : ℕ) × (j < length reader.candidates)
        × (((are.access j ≡ z) × (are.byte j ≡ m)) ⊎ ((lt z (are.access j) ≡ true) × (is_older w table reader j ≡ true)))
        → lt z y ≡ true
    by_cover z m apart seen (j, j_in, inl same) =
        subst (λ (a : ℕ). lt a y ≡ true) same.0
        (newest_access w table reader accesses lt x are i newest j j_in (older_seen w table reader accesses lt x are j z m j_in same.0 same.1 seen)
        (λ e. apart (sym same.0 ∙ e)))
    by_cover z m apart seen (j, j_in, inr hides) = hidden z j j_in hides.0 hides.1 (either_same (are.access j) y)

all_from_initial : (w : Assignment) (table : Table) (reader : Reader) (accesses : Accesses) (lt : ℕ → ℕ → Bool) (x : ℕ)
    → (are : AreCandidates w table reader accesses lt x) → SeesInitial w table reader → SeesNone w accesses lt reader x
all_from_initial w table reader accesses lt x are sees =
    record { none = λ z m seen. by_cover z m seen (are.covers z m seen); reads = sees.reads }
  where
    by_cover : (z m : ℕ) → IsSeenBefore accesses lt x z m
        → (j : ℕ) × (j < length reader.candidates)
        × (((are.access j ≡ z) × (are.byte j ≡ m)) ⊎ ((lt z (are.access j) ≡ true) × (is_older w table reader j ≡ true)))
        → ⊥
    by_cover z m seen (j, j_in, inl same) =
        false≢true (sym (sees.none_older j j_in) ∙ older_seen w table reader accesses lt x are j z m j_in same.0 same.1 seen)
    by_cover z m seen (j, j_in, inr hides) = false≢true (sym (sees.none_older j j_in) ∙ hides.1)

write_from_all : (w : Assignment) (table : Table) (reader : Reader) (accesses : Accesses) (lt : ℕ → ℕ → Bool) (x : ℕ) → IsStrict lt
    → (are : AreCandidates w table reader accesses lt x) → SeesByte w accesses lt reader x → SeesWrite w table reader
write_from_all w table reader accesses lt x strict are sees = by_cover (are.covers sees.access sees.byte sees.seen)
  where
    y : ℕ
    y = sees.access

    -- what the newest one of all is hidden by isn't older
    not_hidden : (j : ℕ) → j < length reader.candidates → lt y (are.access j) ≡ true → is_older w table reader j ≡ true
        → (are.access j ≡ y) ⊎ (are.access j ≢ y) → ⊥
    not_hidden j j_in before older (inl same) =
        false≢true (sym (strict.irreflexive y) ∙ subst (λ (a : ℕ). lt y a ≡ true) same before)
    not_hidden j j_in before older (inr apart) =
        false≢true
        (sym (strict.irreflexive y)
        ∙ strict.transitive y (are.access j) y before
        (sees.newest (are.access j) (are.byte j) apart (seen_older w table reader accesses lt x are j j_in older)))

    is_newest : (i : ℕ) → i < length reader.candidates → are.access i ≡ y → are.byte i ≡ sees.byte → IsNewest w table reader i
    is_newest i i_in same_access same_byte =
        record {
          listed = i_in;
          older = older_seen w table reader accesses lt x are i y sees.byte i_in same_access same_byte sees.seen;
          newest = λ j j_in differ older. by_access j j_in differ older (either_same (are.access j) y);
        }
      where
        by_access : (j : ℕ) → j < length reader.candidates → j ≢ i → is_older w table reader j ≡ true → (are.access j ≡ y) ⊎ (are.access j ≢ y)
            → spelled w (between table reader.candidates j i) ≡ true
        by_access j j_in differ older (inl same) =
            let seen = seen_older w table reader accesses lt x are j j_in older in
            let hits : accesses.hits y (are.byte j) ≡ true = subst (λ (a : ℕ). accesses.hits a (are.byte j) ≡ true) same seen.hits in
            absurd
            (differ
            (are.distinct j i j_in i_in (same ∙ sym same_access) (are.single y (are.byte j) sees.byte hits sees.seen.hits ∙ sym same_byte)))
        by_access j j_in differ older (inr apart) =
            are.spells j i j_in i_in (λ e. apart (e ∙ same_access))
            ∙ subst (λ (a : ℕ). lt (are.access j) a ≡ true) (sym same_access)
            (sees.newest (are.access j) (are.byte j) apart (seen_older w table reader accesses lt x are j j_in older))

    by_cover : (j : ℕ) × (j < length reader.candidates)
        × (((are.access j ≡ y) × (are.byte j ≡ sees.byte)) ⊎ ((lt y (are.access j) ≡ true) × (is_older w table reader j ≡ true)))
        → SeesWrite w table reader
    by_cover (j, j_in, inl same) =
        record {
          source = j;
          is_newest = is_newest j j_in same.0 same.1;
          reads =
              subst (λ (bits : List Lit). ReadsBits w reader bits)
              (sym (are.bits j j_in ∙ ap (λ (a : ℕ). accesses.bits a (are.byte j)) same.0 ∙ ap (λ (k : ℕ). accesses.bits y k) same.1)) sees.reads;
        }
    by_cover (j, j_in, inr hides) = absurd (not_hidden j j_in hides.0 hides.1 (either_same (are.access j) y))

initial_from_all : (w : Assignment) (table : Table) (reader : Reader) (accesses : Accesses) (lt : ℕ → ℕ → Bool) (x : ℕ)
    → (are : AreCandidates w table reader accesses lt x) → SeesNone w accesses lt reader x → SeesInitial w table reader
initial_from_all w table reader accesses lt x are sees =
    record {
      none_older =
          λ i i_in.
          false_from_ne_true (is_older w table reader i)
          (λ older. sees.none (are.access i) (are.byte i) (seen_older w table reader accesses lt x are i i_in older));
      reads = sees.reads;
    }

pub candidates_enough : CandidatesAreEnough
candidates_enough w table reader accesses lt x strict are = (to_all, from_all)
  where
    to_all : SeesNewest w table reader → SeesAmongAll w accesses lt reader x
    to_all (inl write) = inl (all_from_write w table reader accesses lt x strict are write)
    to_all (inr initial) = inr (all_from_initial w table reader accesses lt x are initial)

    from_all : SeesAmongAll w accesses lt reader x → SeesNewest w table reader
    from_all (inl byte) = inl (write_from_all w table reader accesses lt x strict are byte)
    from_all (inr none) = inr (initial_from_all w table reader accesses lt x are none)
