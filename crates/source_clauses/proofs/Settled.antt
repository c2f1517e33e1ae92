-- Where the unit rule has nothing to do and an order is given, the clauses of a reader select one source.
use Rattle.std.proofs.Common.{◌≡◌, ◌≢◌, ℕ, suc, ◌<◌, ◌+◌, ◌⊎◌, Bool, true, false, not, ◌&&◌, cond, Option, Some, List, length, get_or, refl, sym, ◌∙◌, ap, subst, inl, inr, arith}
use Rattle.std.specs.Prelude.{nat_eq, nat_lt, IsSome}
use Rattle.std.proofs.lemmas.Bool.{false≢true, eq-eqb, ne_eqb, eqb-true, lt-ltb, ltb-true, cond-true, cond-false, false_from_ne_true}
use Rattle.std.proofs.lemmas.List.Elements.{All-contains}
use Rattle.std.proofs.lemmas.List.{get_or_default}
use Rattle.clause_store.specs.declared.lit.Lit.{Lit}
use Rattle.clause_store.specs.Literals.{opposite}
use Rattle.clause_store.specs.UnitRule.{Partial, MakesTrue, MakesFalse, IsGiven, IsAtRest, AllAtRest}
use Rattle.clause_store.proofs.Rest.{forced}
use Rattle.clause_store.proofs.Rooting.{given_from_value, value_from_given}
use Rattle.order_clauses.specs.declared.order_lit.OrderLit.{OrderLit}
use Rattle.order_clauses.specs.declared.order_lit.OrderLit.TheVariants as order_lit
use Rattle.order_clauses.specs.declared.table.Table.{Table}
use Rattle.order_clauses.specs.Literals.{is_value, is_known}
use Rattle.order_clauses.specs.Grid.{lit_in}
use Rattle.order_clauses.proofs.Counts.{split-below, lower-first}
use Rattle.source_clauses.specs.declared.reader.Candidate.{Candidate}
use Rattle.source_clauses.specs.declared.reader.Reader.{Reader}
use Rattle.source_clauses.specs.declared.named.Named.{Named}
use Rattle.source_clauses.specs.Conditions.{IsDecided}
use Rattle.source_clauses.specs.Sees.{candidate_at, bit_at, before_reader, between}
use Rattle.source_clauses.specs.Clauses.{selection_at, older_at, AreNexts}
use Rattle.source_clauses.specs.Contract.{IsPlaced, AreWritten}
use Rattle.source_clauses.proofs.Conditional.{implied_given, implied_not}
use Rattle.source_clauses.proofs.Force.{HasBits, InForce}
use Rattle.source_clauses.proofs.Latest.{IsTotal, IsLatest, NonePasses, latest_or_none, either_same}
use Rattle.source_clauses.proofs.Sound.{Hides, Pair, pair_clauses, not_own}

-- what is known of a condition that has a value

value_self : (b : Bool) → is_value (Some b) b ≡ true
value_self true = refl
value_self false = refl

value_other : (b : Bool) → is_value (Some (not b)) b ≡ false
value_other true = refl
value_other false = refl

pub known_as : (v : Partial) (o : OrderLit) (b : Bool) → IsDecided v o b → is_known v o ≡ b
known_as v order_lit.Always b h = sym h
known_as v order_lit.Never b h = sym h
known_as v (order_lit.Is l) true h = ap (λ (o : Option Bool). is_value o l.positive) h ∙ value_self l.positive
known_as v (order_lit.Is l) false h = ap (λ (o : Option Bool). is_value o l.positive) h ∙ value_other l.positive

-- the order of two candidates
abbrev pub stands : List Candidate → (ℕ → ℕ → Bool) → ℕ → ℕ → Bool
stands cs lt i j = cond (nat_eq (candidate_at cs i).at (candidate_at cs j).at) (nat_lt i j) (lt (candidate_at cs i).at (candidate_at cs j).at)

-- Candidates that are placed, and conditions that say which of them are older than the reader.
pub record Placing (v : Partial) (clauses : List (List Lit)) (table : Table) (reader : Reader) (named : Named) (lt : ℕ → ℕ → Bool) : Type 0 where
  pub rest : AllAtRest v clauses
  pub placed : IsPlaced v table reader lt
  pub force : InForce clauses table reader named
  pub nexts : AreNexts table reader.candidates (length reader.candidates) named.nexts
  pub selected : length named.selected ≡ length reader.candidates + 1
  pub given : (a b : Bool) (i : ℕ) → i < length reader.candidates → IsDecided v (before_reader table reader i) a
      → (a ≡ true → IsDecided v (candidate_at reader.candidates i).hit b) → IsDecided v (older_at named.olders i) (a && b)

-- whether a candidate is known to be older
abbrev pub older_known : Partial → Named → ℕ → Bool
older_known v named i = is_known v (older_at named.olders i)

pub record OlderIs (v : Partial) (table : Table) (reader : Reader) (named : Named) (lt : ℕ → ℕ → Bool) (i : ℕ) : Type 0 where
  pub decided : IsDecided v (older_at named.olders i) (older_known v named i)
  pub before : older_known v named i ≡ true → lt (candidate_at reader.candidates i).at reader.at ≡ true

pub older_is : (v : Partial) (clauses : List (List Lit)) (table : Table) (reader : Reader) (named : Named) (lt : ℕ → ℕ → Bool)
    → Placing v clauses table reader named lt → (i : ℕ) → i < length reader.candidates → OlderIs v table reader named lt i
older_is v clauses table reader named lt p i i_in = by_test (lt (candidate_at reader.candidates i).at reader.at) refl
  where
    o : OrderLit
    o = older_at named.olders i

    from : (b : Bool) → IsDecided v o b → IsDecided v o (is_known v o)
    from b h = subst (λ (c : Bool). IsDecided v o c) (sym (known_as v o b h)) h

    by_test : (t : Bool) → lt (candidate_at reader.candidates i).at reader.at ≡ t → OlderIs v table reader named lt i
    by_test true e =
        let hit = p.placed.hit i i_in e in
        record {
          decided = from hit.0 (p.given true hit.0 i i_in (subst (λ (c : Bool). IsDecided v (before_reader table reader i) c) e (p.placed.before i i_in)) (λ _. hit.1));
          before = λ _. e;
        }
    by_test false e =
        let decided : IsDecided v o false =
        p.given false false i i_in (subst (λ (c : Bool). IsDecided v (before_reader table reader i) c) e (p.placed.before i i_in))
        (λ t. absurd (false≢true t))
        in
        record { decided = from false decided; before = λ t. absurd (false≢true (sym (known_as v o false decided) ∙ t)) }

-- the order of candidates is known

between_is : (v : Partial) (table : Table) (reader : Reader) (lt : ℕ → ℕ → Bool) → IsPlaced v table reader lt → (i j : ℕ) → i < length reader.candidates
    → j < length reader.candidates → IsDecided v (between table reader.candidates i j) (stands reader.candidates lt i j)
between_is v table reader lt placed i j i_in j_in = by_test (nat_eq a b) refl
  where
    a : ℕ
    a = (candidate_at reader.candidates i).at

    b : ℕ
    b = (candidate_at reader.candidates j).at

    in_list : (t : Bool) → IsDecided v (cond t order_lit.Always order_lit.Never) t
    in_list true = refl
    in_list false = refl

    apart : nat_eq a b ≡ false → a ≢ b
    apart e same = false≢true (sym e ∙ eq-eqb a b same)

    by_test : (t : Bool) → nat_eq a b ≡ t → IsDecided v (between table reader.candidates i j) (stands reader.candidates lt i j)
    by_test true e =
        subst (λ (c : Bool). IsDecided v (cond c (cond (nat_lt i j) order_lit.Always order_lit.Never) (lit_in table a b)) (cond c (nat_lt i j) (lt a b))) (sym e)
        (in_list (nat_lt i j))
    by_test false e =
        subst (λ (c : Bool). IsDecided v (cond c (cond (nat_lt i j) order_lit.Always order_lit.Never) (lit_in table a b)) (cond c (nat_lt i j) (lt a b))) (sym e)
        (placed.between i j i_in j_in (apart e))

-- of a place and another, by their access and their number
data Standing (cs : List Candidate) (lt : ℕ → ℕ → Bool) (i j : ℕ) : Type 0 where
  within : (candidate_at cs i).at ≡ (candidate_at cs j).at → i < j → Standing cs lt i j
  across : (candidate_at cs i).at ≢ (candidate_at cs j).at → lt (candidate_at cs i).at (candidate_at cs j).at ≡ true → Standing cs lt i j

standing_from : (cs : List Candidate) (lt : ℕ → ℕ → Bool) (i j : ℕ) → stands cs lt i j ≡ true → Standing cs lt i j
standing_from cs lt i j e = by_test (nat_eq a b) refl
  where
    a : ℕ
    a = (candidate_at cs i).at

    b : ℕ
    b = (candidate_at cs j).at

    by_test : (t : Bool) → nat_eq a b ≡ t → Standing cs lt i j
    by_test true h = within (eqb-true a b h) (ltb-true i j (sym (cond-true (nat_eq a b) (nat_lt i j) (lt a b) h) ∙ e))
    by_test false h =
        across (λ same. false≢true (sym h ∙ eq-eqb a b same)) (sym (cond-false (nat_eq a b) (nat_lt i j) (lt a b) h) ∙ e)

stands_from : (cs : List Candidate) (lt : ℕ → ℕ → Bool) (i j : ℕ) → Standing cs lt i j → stands cs lt i j ≡ true
stands_from cs lt i j (within same h) =
    cond-true (nat_eq (candidate_at cs i).at (candidate_at cs j).at) (nat_lt i j) (lt (candidate_at cs i).at (candidate_at cs j).at)
    (eq-eqb (candidate_at cs i).at (candidate_at cs j).at same)
    ∙ lt-ltb i j h
stands_from cs lt i j (across differ h) =
    cond-false (nat_eq (candidate_at cs i).at (candidate_at cs j).at) (nat_lt i j) (lt (candidate_at cs i).at (candidate_at cs j).at)
    (ne_eqb (candidate_at cs i).at (candidate_at cs j).at differ)
    ∙ h

less_then : (i j k : ℕ) → i < j → j < k → i < k
less_then i j k h g = omega (arith, h, g)

never_round : (lt : ℕ → ℕ → Bool) (a b : ℕ) → ((x : ℕ) → lt x x ≡ false) → lt a b ≡ true → a ≡ b → ⊥
never_round lt a b irreflexive h same = false≢true (sym (irreflexive b) ∙ subst (λ (x : ℕ). lt x b ≡ true) same h)

candidates_total : (v : Partial) (table : Table) (reader : Reader) (lt : ℕ → ℕ → Bool) → IsPlaced v table reader lt
    → IsTotal (length reader.candidates) (stands reader.candidates lt)
candidates_total v table reader lt placed =
    record {
      transitive =
          λ a b c a_in b_in c_in e f. stands_from cs lt a c (joined a b c (standing_from cs lt a b e) (standing_from cs lt b c f));
      all = λ a b a_in b_in differ. one_way a b a_in b_in differ (either_same (at a) (at b));
    }
  where
    cs : List Candidate
    cs = reader.candidates

    at : ℕ → ℕ
    at i = (candidate_at cs i).at

    irreflexive : (x : ℕ) → lt x x ≡ false
    irreflexive = placed.strict.irreflexive

    across_by : (a c : ℕ) → lt (at a) (at c) ≡ true → Standing cs lt a c
    across_by a c h = across (λ same. never_round lt (at a) (at c) irreflexive h same) h

    joined : (a b c : ℕ) → Standing cs lt a b → Standing cs lt b c → Standing cs lt a c
    joined a b c (within s h) (within t g) = within (s ∙ t) (less_then a b c h g)
    joined a b c (within s h) (across d g) = across_by a c (subst (λ (x : ℕ). lt x (at c) ≡ true) (sym s) g)
    joined a b c (across d h) (within t g) = across_by a c (subst (λ (x : ℕ). lt (at a) x ≡ true) t h)
    joined a b c (across d h) (across e g) = across_by a c (placed.strict.transitive (at a) (at b) (at c) h g)

    in_list : (a b : ℕ) → at a ≡ at b → (a < b) ⊎ (b < a) → (stands cs lt a b ≡ true) ⊎ (stands cs lt b a ≡ true)
    in_list a b same (inl h) = inl (stands_from cs lt a b (within same h))
    in_list a b same (inr h) = inr (stands_from cs lt b a (within (sym same) h))

    by_order : (a b : ℕ) → (lt (at a) (at b) ≡ true) ⊎ (lt (at b) (at a) ≡ true) → (stands cs lt a b ≡ true) ⊎ (stands cs lt b a ≡ true)
    by_order a b (inl h) = inl (stands_from cs lt a b (across_by a b h))
    by_order a b (inr h) = inr (stands_from cs lt b a (across_by b a h))

    one_way : (a b : ℕ) → a < length cs → b < length cs → a ≢ b → (at a ≡ at b) ⊎ (at a ≢ at b) → (stands cs lt a b ≡ true) ⊎ (stands cs lt b a ≡ true)
    one_way a b a_in b_in differ (inl same) = in_list a b same (lower-first a b differ)
    one_way a b a_in b_in differ (inr apart) = by_order a b (placed.total a b a_in b_in apart)

not_back : (n : ℕ) (lt : ℕ → ℕ → Bool) → IsTotal n lt → ((a : ℕ) → lt a a ≡ false) → (a b : ℕ) → a < n → b < n → lt a b ≡ true → lt b a ≡ false
not_back n lt total irreflexive a b a_in b_in h =
    false_from_ne_true (lt b a) (λ g. false≢true (sym (irreflexive a) ∙ total.transitive a b a a_in b_in a_in h g))

stands_not_self : (cs : List Candidate) (lt : ℕ → ℕ → Bool) (a : ℕ) → stands cs lt a a ≡ false
stands_not_self cs lt a = false_from_ne_true (stands cs lt a a) (λ e. by (standing_from cs lt a a e))
  where
    below_self : (a : ℕ) → a < a → ⊥
    below_self a h = omega (arith, h)

    by : Standing cs lt a a → ⊥
    by (within same h) = below_self a h
    by (across differ h) = differ refl

-- The selected source: a candidate or the initial bits; all others aren't selected.
pub record IsChosen (v : Partial) (reader : Reader) (named : Named) (s : ℕ) : Type 0 where
  pub within : s < length reader.candidates + 1
  pub is_true : MakesTrue v (selection_at named.selected s)
  pub others : (i : ℕ) → i < length reader.candidates + 1 → i ≢ s → MakesFalse v (selection_at named.selected i)

-- where all others aren't selected, this one is
only_left : (v : Partial) (clauses : List (List Lit)) (table : Table) (reader : Reader) (named : Named) (lt : ℕ → ℕ → Bool)
    → Placing v clauses table reader named lt → (s : ℕ) → s < length reader.candidates + 1
    → ((i : ℕ) → i < length reader.candidates + 1 → i ≢ s → MakesFalse v (selection_at named.selected i)) → IsChosen v reader named s
only_left v clauses table reader named lt p s s_in others =
    record {
      within = s_in;
      is_true =
          forced v named.selected (selection_at named.selected s) (All-contains (IsAtRest v) clauses named.selected p.rest p.force.seen)
          (λ k listed. by_place k listed.0 listed.1 listed.2 (either_same listed.0 s));
      others = others;
    }
  where
    by_place : (k : Lit) (m : ℕ) → m < length named.selected → get_or named.selected m k ≡ k → (m ≡ s) ⊎ (m ≢ s)
        → (k ≡ selection_at named.selected s) ⊎ MakesFalse v k
    by_place k m m_in at (inl same) =
        inl (sym at ∙ get_or_default named.selected m k (record { var = 0; positive = false }) m_in ∙ ap (λ (x : ℕ). selection_at named.selected x) same)
    by_place k m m_in at (inr differ) =
        inr
        (subst (λ (l : Lit). MakesFalse v l) (sym (get_or_default named.selected m k (record { var = 0; positive = false }) m_in) ∙ at)
        (others m (subst (λ (n : ℕ). m < n) p.selected m_in) differ))

-- a candidate that is known to be older, and each other such candidate stands before it
abbrev Latest : Partial → Reader → Named → (ℕ → ℕ → Bool) → ℕ → Type 0
Latest v reader named lt = IsLatest (length reader.candidates) (stands reader.candidates lt) (older_known v named)

not_selected : (v : Partial) (clauses : List (List Lit)) (table : Table) (reader : Reader) (named : Named) (lt : ℕ → ℕ → Bool)
    → Placing v clauses table reader named lt → (i : ℕ) → i < length reader.candidates → older_known v named i ≡ false → MakesFalse v (selection_at named.selected i)
not_selected v clauses table reader named lt p i i_in e =
    implied_not v clauses p.rest (selection_at named.selected i) order_lit.Always (older_at named.olders i) (p.force.older i i_in) refl
    (subst (λ (c : Bool). IsDecided v (older_at named.olders i) c) e (older_is v clauses table reader named lt p i i_in).decided)

older_given : (v : Partial) (clauses : List (List Lit)) (table : Table) (reader : Reader) (named : Named) (lt : ℕ → ℕ → Bool)
    → Placing v clauses table reader named lt → (i : ℕ) → i < length reader.candidates → older_known v named i ≡ true → IsDecided v (older_at named.olders i) true
older_given v clauses table reader named lt p i i_in e =
    subst (λ (c : Bool). IsDecided v (older_at named.olders i) c) e (older_is v clauses table reader named lt p i i_in).decided

-- what hides a candidate that is older is older
hidden_given : (v : Partial) (clauses : List (List Lit)) (table : Table) (reader : Reader) (named : Named) (lt : ℕ → ℕ → Bool)
    → Placing v clauses table reader named lt → (i j k : ℕ) → j < length reader.candidates → Hides table reader.candidates i j k
    → lt (candidate_at reader.candidates j).at reader.at ≡ true → IsDecided v (older_at named.olders k) true
hidden_given v clauses table reader named lt p i j k j_in hides before =
    p.given true true k k_in (subst (λ (c : Bool). IsDecided v (before_reader table reader k) c) k_before (p.placed.before k k_in))
    (λ _. subst (λ (o : OrderLit). IsDecided v o true) (sym hides.next.hits) refl)
  where
    cs : List Candidate
    cs = reader.candidates

    k_in : k < length cs
    k_in = hides.next.within

    always_not_never : order_lit.Always ≡ order_lit.Never → ⊥
    always_not_never e = false≢true (sym (ap (λ (o : OrderLit). is_known v o) e))

    apart : (candidate_at cs k).at ≢ (candidate_at cs j).at
    apart same =
        always_not_never
        (sym hides.earlier ∙ ap (λ (x : ℕ). lit_in table x (candidate_at cs j).at) same ∙ not_own table (candidate_at cs j).at)

    earlier : lt (candidate_at cs k).at (candidate_at cs j).at ≡ true
    earlier = subst (λ (o : OrderLit). IsDecided v o (lt (candidate_at cs k).at (candidate_at cs j).at)) hides.earlier (p.placed.between k j k_in j_in apart)

    k_before : lt (candidate_at cs k).at reader.at ≡ true
    k_before = p.placed.strict.transitive (candidate_at cs k).at (candidate_at cs j).at reader.at earlier before

chosen_latest : (v : Partial) (clauses : List (List Lit)) (table : Table) (reader : Reader) (named : Named) (lt : ℕ → ℕ → Bool)
    → Placing v clauses table reader named lt → (s : ℕ) → Latest v reader named lt s → IsChosen v reader named s
chosen_latest v clauses table reader named lt p s latest =
    only_left v clauses table reader named lt p s (one_more s (length reader.candidates) latest.within)
    (λ i i_in differ. by_number i (split-below i (length reader.candidates) (as_suc i (length reader.candidates) i_in)) differ)
  where
    cs : List Candidate
    cs = reader.candidates

    n : ℕ
    n = length cs

    one_more : (s n : ℕ) → s < n → s < n + 1
    one_more s n h = omega (arith, h)

    as_suc : (i n : ℕ) → i < n + 1 → i < suc n
    as_suc i n h = omega (arith, h)

    s_given : IsDecided v (older_at named.olders s) true
    s_given = older_given v clauses table reader named lt p s latest.within latest.passes

    s_before : lt (candidate_at cs s).at reader.at ≡ true
    s_before = (older_is v clauses table reader named lt p s latest.within).before latest.passes

    by_pair : (i : ℕ) → i < n → stands cs lt i s ≡ true → Pair clauses table reader named i s → MakesFalse v (selection_at named.selected i)
    by_pair i i_in h (inl has) =
        implied_not v clauses p.rest (selection_at named.selected i) (older_at named.olders s) (between table cs s i) has s_given
        (subst (λ (c : Bool). IsDecided v (between table cs s i) c)
        (not_back n (stands cs lt) (candidates_total v table reader lt p.placed) (stands_not_self cs lt) i s i_in latest.within h)
        (between_is v table reader lt p.placed s i latest.within i_in))
    by_pair i i_in h (inr hidden) =
        implied_not v clauses p.rest (selection_at named.selected i) (older_at named.olders hidden.0) (between table cs hidden.0 i) hidden.2
        (hidden_given v clauses table reader named lt p i s hidden.0 latest.within hidden.1 s_before)
        (subst (λ (o : OrderLit). IsDecided v o false) (sym hidden.1.next.after) refl)

    by_test : (i : ℕ) → i < n → i ≢ s → (t : Bool) → older_known v named i ≡ t → MakesFalse v (selection_at named.selected i)
    by_test i i_in differ false e = not_selected v clauses table reader named lt p i i_in e
    by_test i i_in differ true e =
        by_pair i i_in (latest.last i i_in differ e) (pair_clauses clauses table reader named p.force p.nexts i s i_in latest.within differ)

    by_number : (i : ℕ) → (i < n) ⊎ (i ≡ n) → i ≢ s → MakesFalse v (selection_at named.selected i)
    by_number i (inl i_in) differ = by_test i i_in differ (older_known v named i) refl
    by_number i (inr same) differ =
        subst (λ (x : ℕ). MakesFalse v (selection_at named.selected x)) (sym same)
        (implied_not v clauses p.rest (selection_at named.selected n) (older_at named.olders s) order_lit.Never (p.force.unwritten s latest.within) s_given refl)

chosen_initial : (v : Partial) (clauses : List (List Lit)) (table : Table) (reader : Reader) (named : Named) (lt : ℕ → ℕ → Bool)
    → Placing v clauses table reader named lt → NonePasses (length reader.candidates) (older_known v named)
    → IsChosen v reader named (length reader.candidates)
chosen_initial v clauses table reader named lt p none =
    only_left v clauses table reader named lt p (length reader.candidates) (last_in (length reader.candidates))
    (λ i i_in differ. by_number i (split-below i (length reader.candidates) (as_suc i (length reader.candidates) i_in)) differ)
  where
    last_in : (n : ℕ) → n < n + 1
    last_in n = omega arith

    as_suc : (i n : ℕ) → i < n + 1 → i < suc n
    as_suc i n h = omega (arith, h)

    by_number : (i : ℕ) → (i < length reader.candidates) ⊎ (i ≡ length reader.candidates) → i ≢ length reader.candidates
        → MakesFalse v (selection_at named.selected i)
    by_number i (inl i_in) differ = not_selected v clauses table reader named lt p i i_in (none i i_in)
    by_number i (inr same) differ = absurd (differ same)

-- the bits that are read where a source is selected
bits_settled : (v : Partial) (clauses : List (List Lit)) → AllAtRest v clauses → (c : Lit) (bits read : List Lit) → HasBits clauses c bits read
    → MakesTrue v c → (b : ℕ) → b < length read → IsSome (v (bit_at bits b).var) → IsSome (v (bit_at read b).var)
bits_settled v clauses rest c bits read has t b b_in some =
    let given = given_from_value v (bit_at bits b) some in
    by_value given.0 given.1
  where
    by_value : (p : Bool) → IsGiven v (bit_at bits b) p → IsSome (v (bit_at read b).var)
    by_value true up =
        value_from_given v (bit_at read b) true
        (implied_given v clauses rest c (order_lit.Is (bit_at bits b)) (order_lit.Is (bit_at read b)) (has.up b b_in) t up)
    by_value false down =
        value_from_given v (bit_at read b) false
        (implied_given v clauses rest c (order_lit.Is (opposite (bit_at bits b))) (order_lit.Is (opposite (bit_at read b))) (has.down b b_in) t down)

-- Some source is selected, and its bits are read.
pub record Settles (v : Partial) (reader : Reader) (named : Named) (lt : ℕ → ℕ → Bool) : Type 0 where
  pub source : ℕ
  pub chosen : IsChosen v reader named source
  pub reads : AreWritten v reader lt → (b : ℕ) → b < length reader.read → IsSome (v (bit_at reader.read b).var)

pub settles : (v : Partial) (clauses : List (List Lit)) (table : Table) (reader : Reader) (named : Named) (lt : ℕ → ℕ → Bool)
    → Placing v clauses table reader named lt → Settles v reader named lt
settles v clauses table reader named lt p =
    by_latest (latest_or_none (length reader.candidates) (stands reader.candidates lt) (candidates_total v table reader lt p.placed) (older_known v named))
  where
    by_latest : ((s : ℕ) × Latest v reader named lt s) ⊎ NonePasses (length reader.candidates) (older_known v named) → Settles v reader named lt
    by_latest (inl some) =
        let s : ℕ = some.0 in
        let chosen : IsChosen v reader named s = chosen_latest v clauses table reader named lt p s some.1 in
        record {
          source = s;
          chosen = chosen;
          reads =
              λ written b b_in.
              bits_settled v clauses p.rest (selection_at named.selected s) (candidate_at reader.candidates s).bits reader.read
              (p.force.written s some.1.within) chosen.is_true b b_in
              (written.bits s b some.1.within b_in ((older_is v clauses table reader named lt p s some.1.within).before some.1.passes));
        }
    by_latest (inr none) =
        let n : ℕ = length reader.candidates in
        let chosen : IsChosen v reader named n = chosen_initial v clauses table reader named lt p none in
        record {
          source = n;
          chosen = chosen;
          reads =
              λ written b b_in.
              bits_settled v clauses p.rest (selection_at named.selected n) reader.initial reader.read p.force.initial chosen.is_true b b_in
              (written.initial b b_in);
        }

-- each selection has a value
pub selection_some : (v : Partial) (reader : Reader) (named : Named) (s : ℕ) → IsChosen v reader named s → (i : ℕ) → i < length reader.candidates + 1
    → IsSome (v (selection_at named.selected i).var)
selection_some v reader named s chosen i i_in = by_same (either_same i s)
  where
    by_same : (i ≡ s) ⊎ (i ≢ s) → IsSome (v (selection_at named.selected i).var)
    by_same (inl same) =
        subst (λ (x : ℕ). IsSome (v (selection_at named.selected x).var)) (sym same) (value_from_given v (selection_at named.selected s) true chosen.is_true)
    by_same (inr differ) = value_from_given v (selection_at named.selected i) false (chosen.others i i_in differ)
