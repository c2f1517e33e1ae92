-- Where all clauses of a reader are true, it sees the newest write.
use Rattle.std.proofs.Common.{◌≡◌, ◌≢◌, ℕ, suc, ◌<◌, ◌+◌, ◌⊎◌, Bool, true, false, not, cond, Option, Some, None, List, [], length, get_or, refl, sym, ◌∙◌, ap, subst, inl, inr, arith}
use Rattle.std.specs.Prelude.{nat_eq, Contains, IfSome}
use Rattle.std.proofs.lemmas.Bool.{false≢true, and_parts, and_from, false_from_ne_true, eq-eqb, ne_eqb, cond-true}
use Rattle.std.proofs.lemmas.List.Elements.{All-contains}
use Rattle.std.proofs.lemmas.List.{get_or_default}
use Rattle.clause_store.specs.declared.lit.Lit.{Lit}
use Rattle.clause_store.specs.Literals.{Assignment, opposite, literal_value, IsTrueUnder, Satisfies}
use Rattle.clause_store.proofs.Rest.{literal_value-opposite}
use Rattle.order_clauses.specs.declared.order_lit.OrderLit.{OrderLit}
use Rattle.order_clauses.specs.declared.order_lit.OrderLit.TheVariants as order_lit
use Rattle.order_clauses.specs.declared.table.Table.{Table}
use Rattle.order_clauses.specs.Literals.{spelled, all_given}
use Rattle.order_clauses.specs.Grid.{recorded_in, open_literal, lit_in}
use Rattle.order_clauses.proofs.Counts.{split-below}
use Rattle.order_clauses.proofs.Known.{known-parts, known-from, known_spelled}
use Rattle.source_clauses.specs.declared.reader.Candidate.{Candidate}
use Rattle.source_clauses.specs.declared.reader.Reader.{Reader}
use Rattle.source_clauses.specs.declared.named.Named.{Named}
use Rattle.source_clauses.specs.Sees.{candidate_at, bit_at, before_reader, between, is_older, IsNewest, ReadsBits, SeesNewest}
use Rattle.source_clauses.specs.Clauses.{implied, selection_at, older_at, next_at, is_always, is_covered, is_apart, newest, IsNext, AreNexts}
use Rattle.source_clauses.specs.Contract.{KnowsReader, SpellsStrict}
use Rattle.source_clauses.proofs.Conditional.{HasImplied, implied_true}
use Rattle.source_clauses.proofs.Force.{HasBits, InForce}

-- the clauses of two candidates

pub always_from : (o : OrderLit) → is_always o ≡ true → o ≡ order_lit.Always
always_from order_lit.Always e = refl
always_from order_lit.Never e = absurd (false≢true e)
always_from (order_lit.Is l) e = absurd (false≢true e)

pub not_own : (table : Table) (a : ℕ) → lit_in table a a ≡ order_lit.Never
not_own table a =
    cond-true (nat_eq a a) order_lit.Never
    (cond (recorded_in table a a) order_lit.Always (cond (recorded_in table a a) order_lit.Never (open_literal table a a))) (eq-eqb a a refl)

-- candidate k hides what stands after it where candidate i is selected
pub record Hides (table : Table) (candidates : List Candidate) (i j k : ℕ) : Type 0 where
  pub next : IsNext table candidates i k
  pub earlier : lit_in table (candidate_at candidates k).at (candidate_at candidates j).at ≡ order_lit.Always

-- the clauses of candidates i and j: an implication, or one of i and a candidate that hides j
abbrev pub Pair : List (List Lit) → Table → Reader → Named → ℕ → ℕ → Type 0
Pair clauses table reader named i j =
    HasImplied clauses (selection_at named.selected i) (older_at named.olders j) (between table reader.candidates j i)
    ⊎ ((k : ℕ) × Hides table reader.candidates i j k
    × HasImplied clauses (selection_at named.selected i) (older_at named.olders k) (between table reader.candidates k i))

newest_kept : (table : Table) (candidates : List Candidate) (nexts : List (Option ℕ)) (selected : List Lit) (olders : List OrderLit) (i j : ℕ) → i ≢ j
    → is_covered table candidates (next_at nexts i) j ≡ false
    → newest table candidates nexts selected olders i j ≡ implied (selection_at selected i) (older_at olders j) (between table candidates j i)
newest_kept table candidates nexts selected olders i j differ fails =
    cond-true (is_apart table candidates (next_at nexts i) i j) (implied (selection_at selected i) (older_at olders j) (between table candidates j i)) []
    (and_from (not (nat_eq i j)) (not (is_covered table candidates (next_at nexts i) j)) (ap (λ (b : Bool). not b) (ne_eqb i j differ))
    (ap (λ (b : Bool). not b) fails))

implied_kept : (clauses : List (List Lit)) (table : Table) (reader : Reader) (named : Named) → InForce clauses table reader named
    → (i j : ℕ) → i < length reader.candidates → j < length reader.candidates → i ≢ j
    → is_covered table reader.candidates (next_at named.nexts i) j ≡ false
    → HasImplied clauses (selection_at named.selected i) (older_at named.olders j) (between table reader.candidates j i)
implied_kept clauses table reader named force i j i_in j_in differ fails k listed =
    force.newest_so i j i_in j_in k
    (subst (λ (cs : List (List Lit)). Contains cs k) (sym (newest_kept table reader.candidates named.nexts named.selected named.olders i j differ fails)) listed)

never_sure : (o : OrderLit) → o ≡ order_lit.Never → is_always o ≡ false
never_sure o e = ap (λ (p : OrderLit). is_always p) e

pub pair_clauses : (clauses : List (List Lit)) (table : Table) (reader : Reader) (named : Named) → InForce clauses table reader named
    → AreNexts table reader.candidates (length reader.candidates) named.nexts
    → (i j : ℕ) → i < length reader.candidates → j < length reader.candidates → i ≢ j → Pair clauses table reader named i j
pair_clauses clauses table reader named force nexts i j i_in j_in differ =
    by_next (next_at named.nexts i) refl (nexts.each i i_in)
  where
    cs : List Candidate
    cs = reader.candidates

    kept : (o : Option ℕ) → next_at named.nexts i ≡ o → is_covered table cs o j ≡ false → Pair clauses table reader named i j
    kept o e fails =
        inl
        (implied_kept clauses table reader named force i j i_in j_in differ
        (subst (λ (p : Option ℕ). is_covered table cs p j ≡ false) (sym e) fails))

    by_test : (k : ℕ) → next_at named.nexts i ≡ Some k → IsNext table cs i k → (t : Bool) → is_covered table cs (Some k) j ≡ t → Pair clauses table reader named i j
    by_test k e next false fails = kept (Some k) e fails
    by_test k e next true holds =
        inr (
          k,
          record { next = next; earlier = always_from (lit_in table (candidate_at cs k).at (candidate_at cs j).at) holds },
          implied_kept clauses table reader named force i k i_in next.within (lower_differs i k next.differs)
              (subst (λ (p : Option ℕ). is_covered table cs p k ≡ false) (sym e)
              (never_sure (lit_in table (candidate_at cs k).at (candidate_at cs k).at) (not_own table (candidate_at cs k).at))),
        )
      where
        lower_differs : (i k : ℕ) → i < k → i ≢ k
        lower_differs i k h e = omega (arith, h, e)

    by_next : (o : Option ℕ) → next_at named.nexts i ≡ o → IfSome (next_at named.nexts i) (IsNext table cs i) → Pair clauses table reader named i j
    by_next None e is = kept None e refl
    by_next (Some k) e is = by_test k e (subst (λ (p : Option ℕ). IfSome p (IsNext table cs i)) e is) (is_covered table cs (Some k) j) refl

-- what is true under an assignment

-- no place stands before itself
spelled_differ : (w : Assignment) (table : Table) (a b : ℕ) → spelled w (lit_in table a b) ≡ true → a ≢ b
spelled_differ w table a b e same =
    false≢true
    (subst (λ (o : OrderLit). spelled w o ≡ true) (not_own table b) (subst (λ (x : ℕ). spelled w (lit_in table x b) ≡ true) same e))

spelled_then : (w : Assignment) (table : Table) → SpellsStrict table w → (a b c : ℕ) → a < table.count → b < table.count → c < table.count
    → spelled w (lit_in table a b) ≡ true → spelled w (lit_in table b c) ≡ true → spelled w (lit_in table a c) ≡ true
spelled_then w table strict a b c a_in b_in c_in e f =
    sym (known_spelled w (lit_in table a c))
    ∙ (known-parts table.count (lit_in table) (all_given w) a c
    (strict.transitive a b c
    (known-from table.count (lit_in table) (all_given w) a b
    (record { left = a_in; right = b_in; differ = spelled_differ w table a b e; known = known_spelled w (lit_in table a b) ∙ e }))
    (known-from table.count (lit_in table) (all_given w) b c
    (record { left = b_in; right = c_in; differ = spelled_differ w table b c f; known = known_spelled w (lit_in table b c) ∙ f })))).known

-- what hides an older candidate is older
hidden_older : (w : Assignment) (table : Table) (reader : Reader) (vars : ℕ) → KnowsReader vars table reader → SpellsStrict table w
    → (i j k : ℕ) → j < length reader.candidates → Hides table reader.candidates i j k → is_older w table reader j ≡ true → is_older w table reader k ≡ true
hidden_older w table reader vars knows strict i j k j_in hides older =
    let cs : List Candidate = reader.candidates in
    let before = and_parts (spelled w (before_reader table reader j)) (spelled w (candidate_at cs j).hit) older in
    and_from (spelled w (before_reader table reader k)) (spelled w (candidate_at cs k).hit)
    (spelled_then w table strict (candidate_at cs k).at (candidate_at cs j).at reader.at (knows.candidates k hides.next.within).at (knows.candidates j j_in).at
    knows.at (ap (λ (o : OrderLit). spelled w o) hides.earlier) before.0)
    (ap (λ (o : OrderLit). spelled w o) hides.next.hits)

-- Soundness

-- the conditions have their meaning
abbrev pub HasOlders : Assignment → Table → Reader → Named → Type 0
HasOlders w table reader named = (i : ℕ) → i < length reader.candidates → spelled w (older_at named.olders i) ≡ is_older w table reader i

pub not_value : (w : Assignment) (l : Lit) → literal_value w l ≡ false → literal_value w (opposite l) ≡ true
not_value w l e = literal_value-opposite w l ∙ ap (λ (b : Bool). not b) e

pub not_from : (w : Assignment) (l : Lit) → literal_value w (opposite l) ≡ true → literal_value w l ≡ false
not_from w l e = flip (literal_value w l) (sym (literal_value-opposite w l) ∙ e)
  where
    flip : (b : Bool) → not b ≡ true → b ≡ false
    flip true h = absurd (false≢true h)
    flip false h = refl

pub bits_read : (w : Assignment) (clauses : List (List Lit)) → Satisfies w clauses → (c : Lit) (reader : Reader) (bits : List Lit)
    → HasBits clauses c bits reader.read → literal_value w c ≡ true → ReadsBits w reader bits
bits_read w clauses sat c reader bits has e b b_in = go (literal_value w (bit_at bits b)) refl
  where
    go : (t : Bool) → literal_value w (bit_at bits b) ≡ t → literal_value w (bit_at reader.read b) ≡ literal_value w (bit_at bits b)
    go true h =
        implied_true w clauses sat c (order_lit.Is (bit_at bits b)) (order_lit.Is (bit_at reader.read b)) (has.up b b_in) e h ∙ sym h
    go false h =
        not_from w (bit_at reader.read b)
        (implied_true w clauses sat c (order_lit.Is (opposite (bit_at bits b))) (order_lit.Is (opposite (bit_at reader.read b))) (has.down b b_in) e
        (not_value w (bit_at bits b) h))
        ∙ sym h

pub sees_sound : (w : Assignment) (clauses : List (List Lit)) (vars : ℕ) (table : Table) (reader : Reader) (named : Named) → Satisfies w clauses
    → KnowsReader vars table reader → SpellsStrict table w → length named.selected ≡ length reader.candidates + 1
    → AreNexts table reader.candidates (length reader.candidates) named.nexts → InForce clauses table reader named → HasOlders w table reader named
    → SeesNewest w table reader
sees_sound w clauses vars table reader named sat knows strict counted nexts force olders = from_seen (All-contains (IsTrueUnder w) clauses named.selected sat force.seen)
  where
    n : ℕ
    n = length reader.candidates

    select : ℕ → Lit
    select i = selection_at named.selected i

    is_selected : (m : ℕ) (l : Lit) → m < length named.selected → get_or named.selected m l ≡ l → literal_value w l ≡ true → literal_value w (select m) ≡ true
    is_selected m l m_in at e =
        subst (λ (k : Lit). literal_value w k ≡ true) (sym (sym (get_or_default named.selected m l (record { var = 0; positive = false }) m_in) ∙ at)) e

    newest_one : (m : ℕ) → m < n → literal_value w (select m) ≡ true → IsNewest w table reader m
    newest_one m m_in e =
        record {
          listed = m_in;
          older =
              sym (olders m m_in) ∙ implied_true w clauses sat (select m) order_lit.Always (older_at named.olders m) (force.older m m_in) e refl;
          newest = λ j j_in differ older. by_pair j j_in older (pair_clauses clauses table reader named force nexts m j m_in j_in (λ s. differ (sym s)));
        }
      where
        by_pair : (j : ℕ) → j < n → is_older w table reader j ≡ true → Pair clauses table reader named m j → spelled w (between table reader.candidates j m) ≡ true
        by_pair j j_in older (inl has) =
            implied_true w clauses sat (select m) (older_at named.olders j) (between table reader.candidates j m) has e (olders j j_in ∙ older)
        by_pair j j_in older (inr hidden) =
            let k : ℕ = hidden.0 in
            let k_in = hidden.1.next.within in
            absurd
            (false≢true
            (sym (ap (λ (o : OrderLit). spelled w o) hidden.1.next.after)
            ∙ implied_true w clauses sat (select m) (older_at named.olders k) (between table reader.candidates k m) hidden.2 e
            (olders k k_in ∙ hidden_older w table reader vars knows strict m j k j_in hidden.1 older)))

    by_number : (m : ℕ) → (m < n) ⊎ (m ≡ n) → literal_value w (select m) ≡ true → SeesNewest w table reader
    by_number m (inl m_in) e =
        inl
        (record {
          source = m;
          is_newest = newest_one m m_in e;
          reads = bits_read w clauses sat (select m) reader (candidate_at reader.candidates m).bits (force.written m m_in) e;
        })
    by_number m (inr same) e =
        let unwritten : literal_value w (select n) ≡ true = subst (λ (x : ℕ). literal_value w (select x) ≡ true) same e in
        inr
        (record {
          none_older =
              λ j j_in.
              false_from_ne_true (is_older w table reader j)
              (λ older.
              false≢true
              (implied_true w clauses sat (select n) (older_at named.olders j) order_lit.Never (force.unwritten j j_in) unwritten (olders j j_in ∙ older)));
          reads = bits_read w clauses sat (select n) reader reader.initial force.initial unwritten;
        })

    from_seen : IsTrueUnder w named.selected → SeesNewest w table reader
    from_seen some =
        by_number some.0 (split-below some.0 n (within some.0 n (length named.selected) some.2 counted))
        (is_selected some.0 some.1 some.2 some.3 some.4)
      where
        within : (m n l : ℕ) → m < l → l ≡ n + 1 → m < suc n
        within m n l h e = omega (arith, h, e)
