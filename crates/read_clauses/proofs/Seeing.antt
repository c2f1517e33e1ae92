-- A reader sees the newest of its candidates exactly where its access sees the newest of all writes.
use Rattle.std.specs.Prelude.{◌≡◌, ◌≢◌, ◌⊎◌, ◌↔◌, ℕ, ◌+◌, ◌<◌, ◌≤◌, ◌%◌, ◌^◌, ◌&&◌, Bool, true, cond, List, length, nat_eq, nat_lt, slice_index_or, refl}
use Rattle.std.proofs.Common.{sym, ◌∙◌, ap, arith, inl, inr}
use Rattle.std.proofs.lemmas.Bool.{and_from, and_parts, eqb-true, lt-ltb, ltb-true, ne_eqb}
use Rattle.elf_image.specs.Layout.{Layout}
use Rattle.bv_terms.specs.Values.{value_at}
use Rattle.bv_terms.specs.Values.{Assignment as TermAssignment}
use Rattle.clause_store.specs.Literals.{Assignment}
use Rattle.order_clauses.specs.declared.order_lit.OrderLit.TheVariants as order_lit
use Rattle.order_clauses.specs.declared.table.Table.{Table}
use Rattle.order_clauses.specs.Grid.{lit_in}
use Rattle.order_clauses.specs.Literals.{spelled}
use Rattle.bit_clauses.specs.Nodes.{lits_at}
use Rattle.source_clauses.specs.declared.reader.Reader.{Reader}
use Rattle.source_clauses.specs.Among.{Accesses, AreCandidates, IsSeenBefore, SeesAmongAll}
use Rattle.source_clauses.specs.Sees.{SeesNewest, between, candidate_at, is_older}
use Rattle.source_clauses.proofs.Enough.{candidates_enough}
use Rattle.encoder.specs.declared.encoder.Encoder.{Encoder}
use Rattle.encoder.specs.Encodes.{IsKnown, Spells}
use Rattle.thread_terms.specs.declared.access.Access.{Access}
use Rattle.hit_terms.specs.Hits.{is_same_place, place_of}
use Rattle.term_sources.specs.Sees.{SeesAt, access_at, address_value, guard_value, hits, no_id}
use Rattle.read_clauses.specs.Readers.{AreBitsOf, AreFew, AreWritten, IsCandidate, IsCovered, IsReaderOf, IsSpelledOrder, ReadersSeeByTerms}
use Rattle.read_clauses.proofs.Bits.{SameBits, same_values}

-- ---- all accesses, as a reader of a byte meets them

-- byte m of access y takes place where the reader reads
abbrev hit_at : TermAssignment → Encoder → List Access → (x i y m : ℕ) → Bool
hit_at t encoder accesses x i y m = hits t encoder.pool (access_at accesses y) m (access_at accesses x) i

abbrev many_at : List Access → ℕ → ℕ
many_at accesses y = length (access_at accesses y).writes

abbrev all_of : TermAssignment → Encoder → List Access → (x i : ℕ) → Accesses
all_of t encoder accesses x i = record {
  count = length accesses;
  bytes = many_at accesses;
  hits = λ (y m : ℕ). nat_lt y (length accesses) && (nat_lt m (many_at accesses y) && hit_at t encoder accesses x i y m);
  bits = λ (y m : ℕ). lits_at encoder.blaster.terms (slice_index_or (access_at accesses y).writes m no_id).number;
}

hits_to : (t : TermAssignment) (encoder : Encoder) (accesses : List Access) (x i y m : ℕ) → y < length accesses → m < many_at accesses y
    → hit_at t encoder accesses x i y m ≡ true → (all_of t encoder accesses x i).hits y m ≡ true
hits_to t encoder accesses x i y m there within hit =
    and_from _ _ (lt-ltb y (length accesses) there) (and_from _ _ (lt-ltb m (many_at accesses y) within) hit)

pub record IsHit (t : TermAssignment) (encoder : Encoder) (accesses : List Access) (x i y m : ℕ) : Type 0 where
  pub there : y < length accesses
  pub within : m < many_at accesses y
  pub hit : hit_at t encoder accesses x i y m ≡ true

hits_from : (t : TermAssignment) (encoder : Encoder) (accesses : List Access) (x i y m : ℕ) → (all_of t encoder accesses x i).hits y m ≡ true
    → IsHit t encoder accesses x i y m
hits_from t encoder accesses x i y m e =
    let first = and_parts (nat_lt y (length accesses)) (nat_lt m (many_at accesses y) && hit_at t encoder accesses x i y m) e in
    let second = and_parts (nat_lt m (many_at accesses y)) (hit_at t encoder accesses x i y m) first.1 in record {
      there = ltb-true y (length accesses) first.0;
      within = ltb-true m (many_at accesses y) second.0;
      hit = second.1;
    }

-- no two bytes of one access are at one address
one_byte : (a b m k i : ℕ) → m < 2 ^ 32 → k < 2 ^ 32 → is_same_place a m b i ≡ true → is_same_place a k b i ≡ true → m ≡ k
one_byte a b m k i few_m few_k e f =
    let same_m : (a + m) % 2 ^ 32 ≡ (b + i) % 2 ^ 32 = eqb-true (place_of a m) (place_of b i) e in
    let same_k : (a + k) % 2 ^ 32 ≡ (b + i) % 2 ^ 32 = eqb-true (place_of a k) (place_of b i) f in
    let same : (a + m) % 2 ^ 32 ≡ (a + k) % 2 ^ 32 = same_m ∙ sym same_k in
    omega (arith, same, few_m, few_k)

hit_place : (t : TermAssignment) (encoder : Encoder) (accesses : List Access) (x i y m : ℕ) → hit_at t encoder accesses x i y m ≡ true
    → is_same_place (address_value t encoder.pool (access_at accesses y)) m (address_value t encoder.pool (access_at accesses x)) i ≡ true
hit_place t encoder accesses x i y m e =
    (and_parts (nat_eq (guard_value t encoder.pool (access_at accesses y)) 1)
    (is_same_place (address_value t encoder.pool (access_at accesses y)) m (address_value t encoder.pool (access_at accesses x)) i) e).1

single_hit : (t : TermAssignment) (encoder : Encoder) (accesses : List Access) (x i y m k : ℕ) → AreFew accesses
    → (all_of t encoder accesses x i).hits y m ≡ true → (all_of t encoder accesses x i).hits y k ≡ true → m ≡ k
single_hit t encoder accesses x i y m k few e f =
    let one : IsHit t encoder accesses x i y m = hits_from t encoder accesses x i y m e in
    let two : IsHit t encoder accesses x i y k = hits_from t encoder accesses x i y k f in
    let most : many_at accesses y ≤ 2 ^ 32 = few y one.there in
    one_byte (address_value t encoder.pool (access_at accesses y)) (address_value t encoder.pool (access_at accesses x)) m k i
    (omega (arith, one.within, most)) (omega (arith, two.within, most))
    (hit_place t encoder accesses x i y m one.hit) (hit_place t encoder accesses x i y k two.hit)

-- what is known of a reader, of an assignment, and of an order
pub record Scene : Type 0 where
  pub encoder : Encoder
  pub image : Layout
  pub accesses : List Access
  pub place : ℕ → ℕ
  pub table : Table
  pub x : ℕ
  pub i : ℕ
  pub reader : Reader
  pub w : Assignment
  pub t : TermAssignment
  pub lt : ℕ → ℕ → Bool
  pub is : IsReaderOf encoder image accesses place x i reader
  pub known : IsKnown encoder
  pub spells : Spells encoder t w
  pub few : AreFew accesses
  pub wrote : AreWritten encoder accesses
  pub order : IsSpelledOrder w table place is.access (length reader.candidates) x lt
  pub covered : IsCovered t encoder accesses is.access is.byte (length reader.candidates) x i lt

abbrev all_in : Scene → Accesses
all_in s = all_of s.t s.encoder s.accesses s.x s.i

abbrev count : Scene → ℕ
count s = length s.reader.candidates

candidate : (s : Scene) (k : ℕ) → k < count s → IsCandidate s.encoder s.accesses s.place s.x s.i s.reader k (s.is.access k) (s.is.byte k)
candidate s k less = s.is.candidates k less

-- two candidates of different accesses stand by the table's literal
between_by : (s : Scene) (j k a b : ℕ) (test : Bool) → (candidate_at s.reader.candidates j).at ≡ a → (candidate_at s.reader.candidates k).at ≡ b → nat_eq a b ≡ test
    → (a ≡ b → ⊥) → spelled s.w (between s.table s.reader.candidates j k) ≡ spelled s.w (lit_in s.table a b)
between_by s j k a b test at_j at_k e differs =
    ap (λ (n : ℕ). spelled s.w (cond (nat_eq n (candidate_at s.reader.candidates k).at) (cond (nat_lt j k) order_lit.Always order_lit.Never) (lit_in s.table n (candidate_at s.reader.candidates k).at))) at_j
    ∙ ap (λ (n : ℕ). spelled s.w (cond (nat_eq a n) (cond (nat_lt j k) order_lit.Always order_lit.Never) (lit_in s.table a n))) at_k
    ∙ ap (λ (found : Bool). spelled s.w (cond found (cond (nat_lt j k) order_lit.Always order_lit.Never) (lit_in s.table a b))) (ne_eqb a b differs)

older_is : (s : Scene) (k : ℕ) → k < count s → is_older s.w s.table s.reader k ≡ (s.lt (s.is.access k) s.x && (all_in s).hits (s.is.access k) (s.is.byte k))
older_is s k less =
    let one : IsCandidate s.encoder s.accesses s.place s.x s.i s.reader k (s.is.access k) (s.is.byte k) = candidate s k less in
    let first : spelled s.w (lit_in s.table (candidate_at s.reader.candidates k).at s.reader.at) ≡ s.lt (s.is.access k) s.x =
    ap (λ (n : ℕ). spelled s.w (lit_in s.table n s.reader.at)) one.at ∙ ap (λ (n : ℕ). spelled s.w (lit_in s.table (s.place (s.is.access k)) n)) s.is.at ∙ s.order.before k less in
    let second : spelled s.w (candidate_at s.reader.candidates k).hit ≡ (all_in s).hits (s.is.access k) (s.is.byte k) =
    one.hit s.w s.t s.spells
    ∙ sym (ap (λ (b : Bool). b && (nat_lt (s.is.byte k) (many_at s.accesses (s.is.access k)) && hit_at s.t s.encoder s.accesses s.x s.i (s.is.access k) (s.is.byte k)))
    (lt-ltb (s.is.access k) (length s.accesses) one.there)
    ∙ ap (λ (b : Bool). b && hit_at s.t s.encoder s.accesses s.x s.i (s.is.access k) (s.is.byte k)) (lt-ltb (s.is.byte k) (many_at s.accesses (s.is.access k)) one.within)) in
    ap (λ (b : Bool). b && spelled s.w (candidate_at s.reader.candidates k).hit) first ∙ ap (λ (b : Bool). s.lt (s.is.access k) s.x && b) second

covers : (s : Scene) (z m : ℕ) → IsSeenBefore (all_in s) s.lt s.x z m
    → (k : ℕ) × (k < count s) × (((s.is.access k ≡ z) × (s.is.byte k ≡ m)) ⊎ ((s.lt z (s.is.access k) ≡ true) × (is_older s.w s.table s.reader k ≡ true)))
covers s z m seen =
    let hit : IsHit s.t s.encoder s.accesses s.x s.i z m = hits_from s.t s.encoder s.accesses s.x s.i z m seen.hits in
    let found = s.covered z m hit.there hit.within seen.before hit.hit in (
      found.0,
      found.1,
      elim found.2 [
        | inl same ↦ inl same
        | inr hidden ↦ inr (
          hidden.0,
          older_is s found.0 found.1 ∙ and_from _ _ hidden.1 (hits_to s.t s.encoder s.accesses s.x s.i (s.is.access found.0) (s.is.byte found.0)
              (candidate s found.0 found.1).there (candidate s found.0 found.1).within hidden.2),
        )
      ],
    )

are_candidates : (s : Scene) → AreCandidates s.w s.table s.reader (all_in s) s.lt s.x
are_candidates s = record {
  access = s.is.access;
  byte = s.is.byte;
  there = λ (k : ℕ) (less : k < count s). (candidate s k less).there;
  within = λ (k : ℕ) (less : k < count s). (candidate s k less).within;
  bits = λ (k : ℕ) (less : k < count s). (candidate s k less).bits.are;
  distinct = s.is.distinct;
  single = λ (y m k : ℕ) (e : (all_in s).hits y m ≡ true) (f : (all_in s).hits y k ≡ true). single_hit s.t s.encoder s.accesses s.x s.i y m k s.few e f;
  spells = λ (j k : ℕ) (less_j : j < count s) (less_k : k < count s) (differs : s.is.access j ≢ s.is.access k).
      between_by s j k (s.place (s.is.access j)) (s.place (s.is.access k)) (nat_eq (s.place (s.is.access j)) (s.place (s.is.access k)))
      (candidate s j less_j).at (candidate s k less_k).at refl (λ (e : s.place (s.is.access j) ≡ s.place (s.is.access k)). differs (s.order.one_place j k less_j less_k e))
      ∙ s.order.between j k less_j less_k differs;
  older = λ (k : ℕ) (less : k < count s). older_is s k less;
  covers = covers s;
}

-- ---- bits and values

abbrev written_id : Scene → ℕ → ℕ → ℕ
written_id s y m = (slice_index_or (access_at s.accesses y).writes m no_id).number

abbrev read_id : Scene → ℕ
read_id s = (slice_index_or (access_at s.accesses s.x).reads s.i no_id).number

wrote_bits : (s : Scene) (y m : ℕ) → y < length s.accesses → m < many_at s.accesses y → AreBitsOf s.encoder (written_id s y m) ((all_in s).bits y m)
wrote_bits s y m there within = let built = s.wrote y m there within in record { built = built.0; width = built.1; are = refl }

same_byte : (s : Scene) (y m : ℕ) → y < length s.accesses → m < many_at s.accesses y
    → SameBits s.w (length s.reader.read) s.reader.read ((all_in s).bits y m) ↔ (value_at s.t s.encoder.pool (read_id s) ≡ value_at s.t s.encoder.pool (written_id s y m))
same_byte s y m there within =
    same_values s.encoder (read_id s) (written_id s y m) s.reader.read ((all_in s).bits y m) s.w s.t s.known s.spells s.is.read (wrote_bits s y m there within)

same_first : (s : Scene) → SameBits s.w (length s.reader.read) s.reader.read s.reader.initial ↔ (value_at s.t s.encoder.pool (read_id s) ≡ value_at s.t s.encoder.pool s.is.first)
same_first s = same_values s.encoder (read_id s) s.is.first s.reader.read s.reader.initial s.w s.t s.known s.spells s.is.read s.is.initial

before_of : (s : Scene) (y m : ℕ) → y < length s.accesses → m < many_at s.accesses y → s.lt y s.x ≡ true → hit_at s.t s.encoder s.accesses s.x s.i y m ≡ true
    → IsSeenBefore (all_in s) s.lt s.x y m
before_of s y m there within before hit =
    record { there = there; within = within; before = before; hits = hits_to s.t s.encoder s.accesses s.x s.i y m there within hit }

abbrev Sees : Scene → Type 0
Sees s = SeesAt s.image s.t s.encoder.pool s.accesses s.lt s.x s.i

among_to : (s : Scene) → SeesAmongAll s.w (all_in s) s.lt s.reader s.x → Sees s
among_to s (inl sees) = inl (record {
  writer = sees.access;
  byte = sees.byte;
  there = sees.seen.there;
  within = sees.seen.within;
  older = sees.seen.before;
  is_hit = (hits_from s.t s.encoder s.accesses s.x s.i sees.access sees.byte sees.seen.hits).hit;
  newest = λ (y m : ℕ) (there : y < length s.accesses) (within : m < many_at s.accesses y) (differs : y ≢ sees.access) (before : s.lt y s.x ≡ true)
      (hit : hit_at s.t s.encoder s.accesses s.x s.i y m ≡ true). sees.newest y m differs (before_of s y m there within before hit);
  reads = (same_byte s sees.access sees.byte sees.seen.there sees.seen.within).0 sees.reads;
})
among_to s (inr sees) = inr (record {
  none = λ (y m : ℕ) (there : y < length s.accesses) (within : m < many_at s.accesses y) (before : s.lt y s.x ≡ true)
      (hit : hit_at s.t s.encoder s.accesses s.x s.i y m ≡ true). sees.none y m (before_of s y m there within before hit);
  reads = (same_first s).0 sees.reads ∙ s.is.initial_is s.t;
})

among_from : (s : Scene) → Sees s → SeesAmongAll s.w (all_in s) s.lt s.reader s.x
among_from s (inl sees) = inl (record {
  access = sees.writer;
  byte = sees.byte;
  seen = before_of s sees.writer sees.byte sees.there sees.within sees.older sees.is_hit;
  newest = λ (z m : ℕ) (differs : z ≢ sees.writer) (seen : IsSeenBefore (all_in s) s.lt s.x z m).
      let hit : IsHit s.t s.encoder s.accesses s.x s.i z m = hits_from s.t s.encoder s.accesses s.x s.i z m seen.hits in
      sees.newest z m hit.there hit.within differs seen.before hit.hit;
  reads = (same_byte s sees.writer sees.byte sees.there sees.within).1 sees.reads;
})
among_from s (inr sees) = inr (record {
  none = λ (z m : ℕ) (seen : IsSeenBefore (all_in s) s.lt s.x z m).
      let hit : IsHit s.t s.encoder s.accesses s.x s.i z m = hits_from s.t s.encoder s.accesses s.x s.i z m seen.hits in
      sees.none z m hit.there hit.within seen.before hit.hit;
  reads = (same_first s).1 (sees.reads ∙ sym (s.is.initial_is s.t));
})

sees_by_terms : (s : Scene) → SeesNewest s.w s.table s.reader ↔ Sees s
sees_by_terms s =
    let all = candidates_enough s.w s.table s.reader (all_in s) s.lt s.x s.order.strict (are_candidates s) in
    (λ (sees : SeesNewest s.w s.table s.reader). among_to s (all.0 sees), λ (sees : Sees s). all.1 (among_from s sees))

pub readers_see : ReadersSeeByTerms
readers_see encoder image accesses place table x i reader w t lt is known spells few wrote order covered = sees_by_terms (record {
  encoder = encoder;
  image = image;
  accesses = accesses;
  place = place;
  table = table;
  x = x;
  i = i;
  reader = reader;
  w = w;
  t = t;
  lt = lt;
  is = is;
  known = known;
  spells = spells;
  few = few;
  wrote = wrote;
  order = order;
  covered = covered;
})
