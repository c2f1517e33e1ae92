-- Candidates and readers that are built one thing after another.
use Rattle.std.specs.Prelude.{◌≡◌, ℕ, zero, suc, ◌+◌, ◌<◌, Bool, true, false, nat_eq, List, [], ◌∷◌, ◌++◌, All, Contains, length}
use Rattle.std.proofs.Common.{sym, ◌∙◌, ap, subst, refl, inl, inr, arith}
use Rattle.std.proofs.lemmas.Bool.{cases_lt}
use Rattle.std.proofs.lemmas.List.{append_assoc, get_or_append_left, get_or-append-add, length-append}
use Rattle.bv_terms.specs.BitVectors.{bit_of}
use Rattle.bv_terms.specs.declared.node.TermId.{TermId}
use Rattle.bv_terms.specs.Shapes.{Shape}
use Rattle.bv_terms.specs.Values.{KeepsTerms, value_at}
use Rattle.bv_terms.specs.Values.{Assignment as TermAssignment}
use Rattle.clause_store.specs.declared.lit.Lit.{Lit}
use Rattle.clause_store.specs.UnitRule.{Partial}
use Rattle.order_clauses.specs.declared.order_lit.OrderLit.{OrderLit}
use Rattle.source_clauses.specs.declared.reader.Candidate.{Candidate}
use Rattle.source_clauses.specs.Sees.{candidate_at}
use Rattle.elf_image.specs.Layout.{Layout}
use Rattle.encoder.specs.declared.encoder.Encoder.{Encoder}
use Rattle.encoder.specs.Encodes.{AllVariablesDecided, Encodes, IsKnown, IsTest, Keeps}
use Rattle.encoder.proofs.Encoding.{encodes_none, encodes_then}
use Rattle.step_terms.specs.Bytes.{numbers}
use Rattle.step_terms.specs.Made.{Grows, IsMade, IsTerm}
use Rattle.step_terms.proofs.Making.{grows_same, later, made_after}
use Rattle.thread_terms.specs.declared.access.Access.{Access}
use Rattle.hit_terms.specs.Hits.{is_hit}
use Rattle.term_sources.specs.Sees.{access_at, hits, no_access, no_id}
use Rattle.reader_parts.specs.declared.reading.Reading.{Reading}
use Rattle.reader_parts.specs.declared.reading.Spot.{Spot}
use Rattle.reader_parts.specs.Conditions.{HasTerms, IsCondition, hit_parts}
use Rattle.reader_parts.specs.Readings.{AreCandidatesOf, AreLiterals, AreMadeInitial, IsCandidateOf, all_spot_parts, opening_byte, reader_parts, read_parts, run_of, spot_at, spot_parts, term_in, written_parts}
use Rattle.reader_parts.proofs.Later.{condition_later, condition_reworded, encodes_by, grown, literals_later, made_decided}
use Rattle.reader_parts.proofs.Testing.{tests_are_conditions}

-- ---- a condition

pub pool_same : (old new : List Shape) → new ≡ old → Grows old new
pool_same old new same = subst (λ (pool : List Shape). Grows old pool) (sym same) (grows_same old)

-- a term is made of others, and literals are added for it
pub encodes_made : (old : Encoder) (pool : List Shape) (new : Encoder) (parts : List ℕ) (value : TermAssignment → ℕ) (id : ℕ) → IsKnown old → Grows old.pool pool
    → IsMade old.pool pool parts 1 value id → Encodes (record old { pool = pool }) new (id ∷ []) → new.pool ≡ pool → Encodes old new parts
encodes_made old pool new parts value id known grows made encodes same =
    let all : Encodes old new (id ∷ []) = encodes_then old (record old { pool = pool }) new [] (id ∷ []) (grown old pool [] known grows) encodes in
    encodes_by old new (id ∷ []) parts
    (λ (v : Partial) (given : AllVariablesDecided new v parts). made_decided old.pool pool new v parts 1 value id all.keeps.terms (pool_same pool new.pool same) made given) all

bit_back : (b : Bool) → nat_eq (bit_of b) 1 ≡ b
bit_back true = refl
bit_back false = refl

-- and a test of it
pub condition_made : (old : Encoder) (pool : List Shape) (new : Encoder) (parts : List ℕ) (test : TermAssignment → Bool) (id : ℕ) (condition : OrderLit)
    → KeepsTerms old.pool new.pool → IsKnown new → IsMade old.pool pool parts 1 (λ t. bit_of (test t)) id → new.pool ≡ pool → IsTest new id condition
    → IsCondition new parts test condition
condition_made old pool new parts test id condition keeps known made same is =
    let now : IsMade old.pool new.pool parts 1 (λ t. bit_of (test t)) id = later old.pool pool new.pool parts 1 (λ t. bit_of (test t)) id (pool_same pool new.pool same) made in
    condition_reworded new (id ∷ []) parts (λ t. nat_eq (value_at t new.pool id) 1) test condition
    (λ (t : TermAssignment). ap (λ (n : ℕ). nat_eq n 1) (now.value t) ∙ bit_back (test t))
    (λ (v : Partial) (given : AllVariablesDecided new v parts). made_decided old.pool pool new v parts 1 (λ t. bit_of (test t)) id keeps (pool_same pool new.pool same) made given)
    (tests_are_conditions new id condition known now.term.width is)

-- ---- initial bytes

pub made_more : (old mid new : List Shape) (image : Layout) (address index count : ℕ) (ids : List TermId) (id : TermId) → IsTerm old 32 address → Grows old mid → Grows mid new
    → AreMadeInitial old mid image address index count ids
    → IsMade mid new (address ∷ []) 8 (λ t. opening_byte image (value_at t mid address) (index + count)) id.number
    → AreMadeInitial old new image address index (count + 1) (ids ++ id ∷ [])
made_more old mid new image address index count ids id term before after are made = let many = are.many in record {
  many = let long = length-append ids (id ∷ []) in omega (arith, long, many);
  each = λ (j : ℕ) (less : j < count + 1). elim (cases_lt j count) [
    | inl inside ↦ subst (IsMade old new (address ∷ []) 8 (λ t. opening_byte image (value_at t old address) (index + j)))
        (sym (ap (λ (x : TermId). x.number) (get_or_append_left ids (id ∷ []) no_id j (omega (arith, inside, many)))))
        (later old mid new (address ∷ []) 8 (λ t. opening_byte image (value_at t old address) (index + j)) (term_in ids j) after (are.each j inside))
    | inr above ↦ let last : j ≡ count = omega (arith, less, above) in
        let place : j ≡ length ids + 0 = omega (arith, last, many) in
        let there : term_in (ids ++ id ∷ []) j ≡ id.number =
        ap (λ (n : ℕ). term_in (ids ++ id ∷ []) n) place ∙ ap (λ (x : TermId). x.number) (get_or-append-add ids (id ∷ []) 0 no_id) in
        subst (IsMade old new (address ∷ []) 8 (λ t. opening_byte image (value_at t old address) (index + j))) (sym there)
        (subst (λ (n : ℕ). IsMade old new (address ∷ []) 8 (λ t. opening_byte image (value_at t old address) (index + n)) id.number) (sym last)
        (made_after old mid new address 8 32 (λ (a : ℕ). opening_byte image a (index + count)) id.number before term made))
  ];
}

-- initial bytes of terms that were there earlier
pub made_earlier : (old mid new : List Shape) (image : Layout) (address index count : ℕ) (ids : List TermId) → IsTerm old 32 address → Grows old mid
    → AreMadeInitial mid new image address index count ids → AreMadeInitial old new image address index count ids
made_earlier old mid new image address index count ids term grows are = record {
  many = are.many;
  each = λ (j : ℕ) (less : j < count). made_after old mid new address 8 32 (λ (a : ℕ). opening_byte image a (index + j)) (term_in ids j) grows term (are.each j less);
}

pub made_later : (old mid new : List Shape) (image : Layout) (address index count : ℕ) (ids : List TermId) → Grows mid new
    → AreMadeInitial old mid image address index count ids → AreMadeInitial old new image address index count ids
made_later old mid new image address index count ids grows are = record {
  many = are.many;
  each = λ (j : ℕ) (less : j < count). later old mid new (address ∷ []) 8 (λ t. opening_byte image (value_at t old address) (index + j)) (term_in ids j) grows (are.each j less);
}

numbers_at : (ids : List TermId) (id : ℕ) → Contains (numbers ids) id → (j : ℕ) × (j < length ids) × (term_in ids j ≡ id)
numbers_at [] id (k, lt, e) = absurd (omega (arith, lt))
numbers_at (x ∷ more) id (zero, lt, e) = (zero, omega arith, e)
numbers_at (x ∷ more) id (suc k, lt, e) = let is = numbers_at more id (k, omega (arith, lt), e) in let less = is.1 in (suc is.0, omega (arith, less), is.2)

-- the variables of the address decide them
pub initial_decided : (old : List Shape) (new : Encoder) (v : Partial) (image : Layout) (address index count : ℕ) (ids : List TermId) → KeepsTerms old new.pool
    → AreMadeInitial old new.pool image address index count ids → AllVariablesDecided new v (address ∷ []) → AllVariablesDecided new v (numbers ids)
initial_decided old new v image address index count ids keeps are all id listed =
    let is = numbers_at ids id listed in
    let less = is.1 in let many = are.many in let inside : is.0 < count = omega (arith, less, many) in
    made_decided old new.pool new v (address ∷ []) 8 (λ t. opening_byte image (value_at t old address) (index + is.0)) (term_in ids is.0) keeps (grows_same new.pool) (are.each is.0 inside) all
    id (zero, omega arith, is.2)

-- ---- candidates

-- the values of an access's terms are those of earlier terms
pub hits_earlier : (old new : List Shape) (writer reader : Access) (byte index : ℕ) (t : TermAssignment) → KeepsTerms old new → HasTerms old writer → HasTerms old reader
    → hits t new writer byte reader index ≡ hits t old writer byte reader index
hits_earlier old new writer reader byte index t keeps of_writer of_reader =
    ap (λ (g : ℕ). is_hit g (value_at t new writer.address.number) byte (value_at t new reader.address.number) index) (keeps.value t writer.guard.number of_writer.guard.inside)
    ∙ ap (λ (a : ℕ). is_hit (value_at t old writer.guard.number) a byte (value_at t new reader.address.number) index) (keeps.value t writer.address.number of_writer.address.inside)
    ∙ ap (λ (b : ℕ). is_hit (value_at t old writer.guard.number) (value_at t old writer.address.number) byte b index) (keeps.value t reader.address.number of_reader.address.inside)

pub candidate_later : (nodes : List Shape) (old new : Encoder) (accesses : List Access) (reading : Reading) (spot : Spot) (candidate : Candidate) → Keeps old new
    → IsCandidateOf nodes old accesses reading spot candidate → IsCandidateOf nodes new accesses reading spot candidate
candidate_later nodes old new accesses reading spot candidate keeps is = record {
  at = is.at;
  bits = literals_later old new (written_parts accesses reading spot) candidate.bits keeps is.bits;
  hit = condition_later old new (hit_parts (access_at accesses spot.access) (access_at accesses reading.access))
      (λ t. hits t nodes (access_at accesses spot.access) spot.byte (access_at accesses reading.access) reading.index) candidate.hit keeps is.hit;
}

pub candidates_later : (nodes : List Shape) (old new : Encoder) (accesses : List Access) (reading : Reading) (spots : List Spot) (candidates : List Candidate) → Keeps old new
    → AreCandidatesOf nodes old accesses reading spots candidates → AreCandidatesOf nodes new accesses reading spots candidates
candidates_later nodes old new accesses reading spots candidates keeps are = record {
  count = are.count;
  each = λ (k : ℕ) (less : k < length spots). candidate_later nodes old new accesses reading (spot_at spots k) (candidate_at candidates k) keeps (are.each k less);
}

pub candidate_earlier : (old mid : List Shape) (encoder : Encoder) (accesses : List Access) (reading : Reading) (spot : Spot) (candidate : Candidate) → KeepsTerms old mid
    → HasTerms old (access_at accesses spot.access) → HasTerms old (access_at accesses reading.access)
    → IsCandidateOf mid encoder accesses reading spot candidate → IsCandidateOf old encoder accesses reading spot candidate
candidate_earlier old mid encoder accesses reading spot candidate keeps of_writer of_reader is =
    let writer = access_at accesses spot.access in let reader = access_at accesses reading.access in record {
      at = is.at;
      bits = is.bits;
      hit = condition_reworded encoder (hit_parts writer reader) (hit_parts writer reader) (λ t. hits t mid writer spot.byte reader reading.index)
          (λ t. hits t old writer spot.byte reader reading.index) candidate.hit
          (λ (t : TermAssignment). hits_earlier old mid writer reader spot.byte reading.index t keeps of_writer of_reader)
          (λ (v : Partial) (all : AllVariablesDecided encoder v (hit_parts writer reader)). all) is.hit;
    }

pub terms_of : (nodes : List Shape) (accesses : List Access) (x : ℕ) → All (HasTerms nodes) accesses → x < length accesses → HasTerms nodes (access_at accesses x)
terms_of nodes accesses x all there = all x no_access there

-- the candidates of the first spots
pub record SoFar (old now : Encoder) (accesses : List Access) (reading : Reading) (spots : List Spot) (candidates : List Candidate) : Type 0 where
  pub encodes : Encodes old now (all_spot_parts accesses reading spots)
  pub are : AreCandidatesOf old.pool now accesses reading spots candidates

parts_push : (accesses : List Access) (reading : Reading) (spots : List Spot) (spot : Spot)
    → all_spot_parts accesses reading (spots ++ spot ∷ []) ≡ all_spot_parts accesses reading spots ++ spot_parts accesses reading spot
parts_push accesses reading [] spot = append_nil (spot_parts accesses reading spot) where
  append_nil : (xs : List ℕ) → xs ++ [] ≡ xs
  append_nil [] = refl
  append_nil (x ∷ xs) = ap (λ (ys : List ℕ). x ∷ ys) (append_nil xs)
parts_push accesses reading (first ∷ more) spot =
    ap (λ (xs : List ℕ). spot_parts accesses reading first ++ xs) (parts_push accesses reading more spot)
    ∙ sym (append_assoc (spot_parts accesses reading first) (all_spot_parts accesses reading more) (spot_parts accesses reading spot))

pub one_more : (old now new : Encoder) (accesses : List Access) (reading : Reading) (spots : List Spot) (spot : Spot) (candidates : List Candidate) (candidate : Candidate)
    → All (HasTerms old.pool) accesses → spot.access < length accesses → reading.access < length accesses → SoFar old now accesses reading spots candidates
    → Encodes now new (spot_parts accesses reading spot) → IsCandidateOf now.pool new accesses reading spot candidate
    → SoFar old new accesses reading (spots ++ spot ∷ []) (candidates ++ candidate ∷ [])
one_more old now new accesses reading spots spot candidates candidate terms there reader so_far encodes is =
    let many = so_far.are.count in record {
      encodes = subst (Encodes old new) (sym (parts_push accesses reading spots spot))
          (encodes_then old now new (all_spot_parts accesses reading spots) (spot_parts accesses reading spot) so_far.encodes encodes);
      are = record {
        count = let long = length-append candidates (candidate ∷ []) in let wide = length-append spots (spot ∷ []) in omega (arith, long, wide, many);
        each = λ (k : ℕ) (less : k < length (spots ++ spot ∷ [])). elim (cases_lt k (length spots)) [
          | inl inside ↦
              subst (λ (s : Spot). IsCandidateOf old.pool new accesses reading s (candidate_at (candidates ++ candidate ∷ []) k))
              (sym (get_or_append_left spots (spot ∷ []) (record { access = 0; byte = 0; at = 0 }) k inside))
              (subst (IsCandidateOf old.pool new accesses reading (spot_at spots k))
              (sym (get_or_append_left candidates (candidate ∷ []) (candidate_at [] 0) k (omega (arith, inside, many))))
              (candidate_later old.pool now new accesses reading (spot_at spots k) (candidate_at candidates k) encodes.keeps (so_far.are.each k inside)))
          | inr above ↦
              let wide = length-append spots (spot ∷ []) in
              let here : k ≡ length spots + 0 = omega (arith, less, above, wide) in
              let there_too : k ≡ length candidates + 0 = omega (arith, less, above, wide, many) in
              subst (λ (s : Spot). IsCandidateOf old.pool new accesses reading s (candidate_at (candidates ++ candidate ∷ []) k))
              (sym (ap (spot_at (spots ++ spot ∷ [])) here ∙ get_or-append-add spots (spot ∷ []) 0 (record { access = 0; byte = 0; at = 0 })))
              (subst (IsCandidateOf old.pool new accesses reading spot)
              (sym (ap (candidate_at (candidates ++ candidate ∷ [])) there_too ∙ get_or-append-add candidates (candidate ∷ []) 0 (candidate_at [] 0)))
              (candidate_earlier old.pool now.pool new accesses reading spot candidate so_far.encodes.keeps.terms (terms_of old.pool accesses spot.access terms there)
              (terms_of old.pool accesses reading.access terms reader) is))
        ];
      };
    }

pub none_yet : (old : Encoder) (accesses : List Access) (reading : Reading) → IsKnown old → SoFar old old accesses reading [] []
none_yet old accesses reading known = record {
  encodes = encodes_none old [] known;
  are = record { count = refl; each = λ (k : ℕ) (less : k < 0). absurd (omega (arith, less)) };
}

-- a candidate whose access was looked up
pub candidate_made : (old mid new : Encoder) (accesses : List Access) (reading : Reading) (spot : Spot) (writer reader : Access) (hit : OrderLit) (bits : List Lit)
    → writer ≡ access_at accesses spot.access → reader ≡ access_at accesses reading.access → Encodes old mid (hit_parts writer reader)
    → Encodes mid new (run_of writer.writes spot.byte reading.count)
    → IsCondition mid (hit_parts writer reader) (λ t. hits t old.pool writer spot.byte reader reading.index) hit
    → AreLiterals new (run_of writer.writes spot.byte reading.count) bits
    → Encodes old new (spot_parts accesses reading spot) × IsCandidateOf old.pool new accesses reading spot (record { at = spot.at; hit = hit; bits = bits })
candidate_made old mid new accesses reading spot writer reader hit bits is_writer is_reader first second condition literals =
    let w = access_at accesses spot.access in let r = access_at accesses reading.access in
    let first_is : Encodes old mid (hit_parts w r) =
    subst (λ (a : Access). Encodes old mid (hit_parts a r)) is_writer (subst (λ (b : Access). Encodes old mid (hit_parts writer b)) is_reader first) in
    let second_is : Encodes mid new (written_parts accesses reading spot) = subst (λ (a : Access). Encodes mid new (run_of a.writes spot.byte reading.count)) is_writer second in
    let condition_is : IsCondition mid (hit_parts w r) (λ t. hits t old.pool w spot.byte r reading.index) hit =
    subst (λ (a : Access). IsCondition mid (hit_parts a r) (λ t. hits t old.pool a spot.byte r reading.index) hit) is_writer
    (subst (λ (b : Access). IsCondition mid (hit_parts writer b) (λ t. hits t old.pool writer spot.byte b reading.index) hit) is_reader condition) in (
      encodes_then old mid new (hit_parts w r) (written_parts accesses reading spot) first_is second_is,
      record {
        at = refl;
        bits = subst (λ (a : Access). AreLiterals new (run_of a.writes spot.byte reading.count) bits) is_writer literals;
        hit = condition_later mid new (hit_parts w r) (λ t. hits t old.pool w spot.byte r reading.index) hit second_is.keeps condition_is;
      },
    )

-- ---- the reader

-- literals of initial bytes are added after all others
pub encodes_reader : (old one two : Encoder) (pool : List Shape) (new : Encoder) (accesses : List Access) (reading : Reading) (spots : List Spot) (image : Layout) (ids : List TermId)
    → Encodes old one (all_spot_parts accesses reading spots) → Encodes one two (read_parts accesses reading) → Grows two.pool pool
    → IsTerm old.pool 32 (access_at accesses reading.access).address.number
    → AreMadeInitial old.pool pool image (access_at accesses reading.access).address.number reading.index reading.count ids
    → Encodes (record two { pool = pool }) new (numbers ids) → new.pool ≡ pool → Encodes old new (reader_parts accesses reading spots)
encodes_reader old one two pool new accesses reading spots image ids first second grows term made third same =
    let address = (access_at accesses reading.access).address.number in
    let last : Encodes two new (numbers ids) = encodes_then two (record two { pool = pool }) new [] (numbers ids) (grown two pool [] second.keeps.known grows) third in
    let all : Encodes one new (read_parts accesses reading ++ numbers ids) = encodes_then one two new (read_parts accesses reading) (numbers ids) second last in
    let keeps : KeepsTerms old.pool new.pool = (encodes_then old one new (all_spot_parts accesses reading spots) (read_parts accesses reading ++ numbers ids) first all).keeps.terms in
    let now = made_later old.pool pool new.pool image address reading.index reading.count ids (pool_same pool new.pool same) made in
    encodes_then old one new (all_spot_parts accesses reading spots) (read_parts accesses reading ++ address ∷ []) first
    (encodes_then one two new (read_parts accesses reading) (address ∷ []) second
    (encodes_by two new (numbers ids) (address ∷ [])
    (λ (v : Partial) (given : AllVariablesDecided new v (address ∷ [])).
    initial_decided old.pool new v image address reading.index reading.count ids keeps now given) last))
