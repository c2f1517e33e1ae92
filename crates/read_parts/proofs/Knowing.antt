-- A built reader is of known variables and of places of the table.
use Rattle.std.specs.Prelude.{◌≡◌, ℕ, ◌+◌, ◌*◌, ◌<◌, List, Contains, length, slice_index_or}
use Rattle.std.proofs.Common.{sym, ◌∙◌, ap, subst, arith}
use Rattle.std.proofs.lemmas.List.Elements.{Contains-get_or}
use Rattle.clause_store.specs.declared.lit.Lit.{Lit}
use Rattle.source_clauses.specs.declared.reader.Reader.{Reader}
use Rattle.source_clauses.specs.Contract.{KnowsCandidate, KnowsReader}
use Rattle.source_clauses.specs.Sees.{candidate_at}
use Rattle.bit_clauses.proofs.Blasted.{built_later}
use Rattle.encoder.specs.declared.encoder.Encoder.{Encoder}
use Rattle.encoder.specs.Encodes.{Encodes, joined}
use Rattle.step_terms.specs.Bytes.{numbers}
use Rattle.thread_terms.specs.declared.access.Access.{Access}
use Rattle.term_sources.specs.Sees.{access_at, no_id}
use Rattle.formula_parts.specs.Order.{Setting}
use Rattle.reader_parts.specs.declared.reading.Reading.{Reading}
use Rattle.reader_parts.specs.declared.reading.Spot.{Spot}
use Rattle.reader_parts.specs.Readings.{IsBuiltReader, IsCandidateOf, read_parts, reader_parts, spot_at, term_in, written_parts}
use Rattle.reader_parts.proofs.Candidates.{terms_of}
use Rattle.read_parts.specs.Reads.{CanRead, IsSpot}
use Rattle.read_parts.proofs.Eights.{IsByte, literals_known, numbers_eights, run_eights}
use Rattle.read_parts.proofs.Pieces.{AreEights, joined_length, numbers_at, numbers_length, run_at, run_length}

-- a reader that was built for bytes that can be read
pub record Built : Type 0 where
  pub setting : Setting
  pub old : Encoder
  pub mid : Encoder
  pub reading : Reading
  pub spots : List Spot
  pub reader : Reader
  pub can : CanRead setting old reading spots
  pub encodes : Encodes old mid (reader_parts setting.accesses reading spots)
  pub built : IsBuiltReader old.pool mid setting.image setting.accesses reading spots reader

abbrev acc : Built → ℕ → Access
acc b y = access_at b.setting.accesses y

pub written_byte : (b : Built) (y m : ℕ) → y < length b.setting.accesses → m < length (acc b y).writes → IsByte b.mid (slice_index_or (acc b y).writes m no_id).number
written_byte b y m there within =
    let id = (slice_index_or (acc b y).writes m no_id).number in
    let inside : id < length b.setting.nodes = (terms_of b.setting.nodes b.setting.accesses y b.can.terms there).writes m no_id within in
    let longer = b.can.stands.terms.grows in record {
      built = built_later b.old.blaster b.mid.blaster id b.encodes.keeps.bits (b.can.written y m there within).0;
      width = b.encodes.keeps.terms.width id (omega (arith, inside, longer)) ∙ (b.can.written y m there within).1;
    }

pub read_byte : (b : Built) (j : ℕ) → j < b.reading.count → IsByte b.mid (slice_index_or (acc b b.reading.access).reads (b.reading.index + j) no_id).number
read_byte b j less =
    let reads = (acc b b.reading.access).reads in
    let id = (slice_index_or reads (b.reading.index + j) no_id).number in
    let many = run_length reads b.reading.index b.reading.count in
    let inside : id < length b.setting.nodes = (b.can.bytes j less).inside in
    let longer = b.can.stands.terms.grows in record {
      built = b.built.read.built id
          (subst (Contains (read_parts b.setting.accesses b.reading)) (run_at reads b.reading.index b.reading.count j less)
          (Contains-get_or (read_parts b.setting.accesses b.reading) j 0 (omega (arith, less, many))));
      width = b.encodes.keeps.terms.width id (omega (arith, inside, longer)) ∙ b.can.stands.terms.width id inside ∙ (b.can.bytes j less).width;
    }

pub initial_byte : (b : Built) (j : ℕ) → j < b.reading.count → IsByte b.mid (term_in b.built.terms j)
initial_byte b j less =
    let many = b.built.made.many in let wide = numbers_length b.built.terms in record {
      built = b.built.initial.built (term_in b.built.terms j)
          (subst (Contains (numbers b.built.terms)) (numbers_at b.built.terms j (omega (arith, less, many)))
          (Contains-get_or (numbers b.built.terms) j 0 (omega (arith, less, many, wide))));
      width = (b.built.made.each j less).term.width;
    }

spot_of : (b : Built) (k : ℕ) → k < length b.spots → IsSpot b.setting b.reading (spot_at b.spots k)
spot_of b k less = b.can.sources k (record { access = 0; byte = 0; at = 0 }) less

pub read_eights : (b : Built) → AreEights b.mid.blaster.terms (read_parts b.setting.accesses b.reading)
read_eights b = run_eights b.mid (acc b b.reading.access).reads b.reading.index b.reading.count b.encodes.keeps.known (read_byte b)

pub initial_eights : (b : Built) → AreEights b.mid.blaster.terms (numbers b.built.terms)
initial_eights b = numbers_eights b.mid b.built.terms b.reading.count b.built.made.many b.encodes.keeps.known (initial_byte b)

pub written_eights : (b : Built) (k : ℕ) → k < length b.spots → AreEights b.mid.blaster.terms (written_parts b.setting.accesses b.reading (spot_at b.spots k))
written_eights b k less =
    let spot = spot_at b.spots k in
    let source = (spot_of b k less).source in
    let there = source.there in
    let within = source.within in
    run_eights b.mid (acc b spot.access).writes spot.byte b.reading.count b.encodes.keeps.known
    (λ (j : ℕ) (below : j < b.reading.count). written_byte b spot.access (spot.byte + j) there (omega (arith, within, below)))

pub read_width : (b : Built) → length b.reader.read ≡ 8 * b.reading.count
read_width b =
    ap length b.built.read.are ∙ joined_length b.mid.blaster.terms (read_parts b.setting.accesses b.reading) (read_eights b)
    ∙ ap (λ (n : ℕ). 8 * n) (run_length (acc b b.reading.access).reads b.reading.index b.reading.count)

initial_width : (b : Built) → length b.reader.initial ≡ 8 * b.reading.count
initial_width b =
    ap length b.built.initial.are ∙ joined_length b.mid.blaster.terms (numbers b.built.terms) (initial_eights b)
    ∙ ap (λ (n : ℕ). 8 * n) (numbers_length b.built.terms ∙ b.built.made.many)

written_width : (b : Built) (k : ℕ) → k < length b.spots → length (joined b.mid.blaster.terms (written_parts b.setting.accesses b.reading (spot_at b.spots k))) ≡ 8 * b.reading.count
written_width b k less =
    let spot = spot_at b.spots k in
    joined_length b.mid.blaster.terms (written_parts b.setting.accesses b.reading spot) (written_eights b k less)
    ∙ ap (λ (n : ℕ). 8 * n) (run_length (acc b spot.access).writes spot.byte b.reading.count)

knows_candidate : (b : Built) (k : ℕ) → k < length b.reader.candidates
    → KnowsCandidate b.mid.clauses.vars b.setting.places.table (length b.reader.read) (candidate_at b.reader.candidates k)
knows_candidate b k inside =
    let many = b.built.candidates.count in
    let less : k < length b.spots = omega (arith, inside, many) in
    let spot = spot_at b.spots k in
    let is : IsCandidateOf b.old.pool b.mid b.setting.accesses b.reading spot (candidate_at b.reader.candidates k) = b.built.candidates.each k less in
    let of_spot = spot_of b k less in record {
      at = subst (λ (n : ℕ). n < b.setting.places.table.count) (sym (is.at ∙ of_spot.at)) (b.can.stands.places.within spot.access of_spot.chosen);
      hit = is.hit.known;
      bits = literals_known b.mid (written_parts b.setting.accesses b.reading spot) (candidate_at b.reader.candidates k).bits b.encodes.keeps.known is.bits;
      width_is = ap length is.bits.are ∙ written_width b k less ∙ sym (read_width b);
    }

pub knows_built : (b : Built) → KnowsReader b.mid.clauses.vars b.setting.places.table b.reader
knows_built b = let places = b.can.stands.places in let more = b.encodes.keeps.grows.vars in record {
  square = places.square;
  known = λ (i j : ℕ) (first : i < b.setting.places.table.count) (second : j < b.setting.places.table.count) (l : Lit) e.
      let older = places.known i j first second l e in omega (arith, older, more);
  at = subst (λ (n : ℕ). n < b.setting.places.table.count) (sym (b.built.at ∙ b.can.at)) (places.within b.reading.access b.can.chosen);
  read = literals_known b.mid (read_parts b.setting.accesses b.reading) b.reader.read b.encodes.keeps.known b.built.read;
  initial = literals_known b.mid (numbers b.built.terms) b.reader.initial b.encodes.keeps.known b.built.initial;
  width_is = initial_width b ∙ sym (read_width b);
  candidates = knows_candidate b;
}
