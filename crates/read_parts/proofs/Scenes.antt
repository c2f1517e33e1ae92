-- All that is known of a reader that was built, and of its terms.
use Rattle.std.specs.Prelude.{◌≡◌, ℕ, ◌+◌, ◌<◌, List, length, slice_index_or}
use Rattle.std.proofs.Common.{arith}
use Rattle.bv_terms.specs.Values.{KeepsTerms, width_at}
use Rattle.bv_terms.specs.Values.{Assignment as TermAssignment}
use Rattle.clause_store.specs.declared.lit.Lit.{Lit}
use Rattle.clause_store.specs.Formula.{Formula}
use Rattle.source_clauses.specs.declared.reader.Reader.{Reader}
use Rattle.source_clauses.specs.Contract.{AddsReader}
use Rattle.bit_clauses.specs.Bits.{IsBuilt}
use Rattle.bit_clauses.specs.Nodes.{lits_at}
use Rattle.bit_clauses.proofs.Blasted.{keeps_none}
use Rattle.bit_clauses.proofs.Sure.{known_later}
use Rattle.encoder.specs.declared.encoder.Encoder.{Encoder}
use Rattle.encoder.specs.Encodes.{Encodes, Keeps}
use Rattle.encoder.proofs.Encoding.{keeps_then, terms_same, terms_then, variables_same}
use Rattle.step_terms.specs.Bytes.{numbers}
use Rattle.thread_terms.specs.declared.access.Access.{Access}
use Rattle.term_sources.specs.Sees.{access_at, no_id}
use Rattle.formula_parts.specs.Order.{Setting}
use Rattle.reader_parts.specs.declared.reading.Reading.{Reading}
use Rattle.reader_parts.specs.declared.reading.Spot.{Spot}
use Rattle.reader_parts.specs.Conditions.{HasTerms}
use Rattle.reader_parts.specs.Readings.{IsBuiltReader, read_parts, reader_parts, spot_at, term_in, written_parts}
use Rattle.reader_parts.proofs.Candidates.{terms_of}
use Rattle.read_parts.specs.Reads.{CanRead, IsSpot}
use Rattle.read_parts.proofs.Eights.{byte_lits}
use Rattle.read_parts.proofs.Knowing.{Built, initial_byte, initial_eights as first_eights, read_byte, read_eights as reading_eights, written_byte, written_eights as spot_eights}
use Rattle.read_parts.proofs.Moving.{SameValues}
use Rattle.read_parts.proofs.Pieces.{AreEights}

pub record Scene : Type 0 where
  pub setting : Setting
  pub old : Encoder
  pub mid : Encoder
  pub after : Formula
  pub reading : Reading
  pub spots : List Spot
  pub reader : Reader
  pub can : CanRead setting old reading spots
  pub encodes : Encodes old mid (reader_parts setting.accesses reading spots)
  pub built : IsBuiltReader old.pool mid setting.image setting.accesses reading spots reader
  pub adds : AddsReader mid.clauses after setting.places.table reader

-- the encoder with the reader's clauses
abbrev pub new_of : Scene → Encoder
new_of s = record s.mid { clauses = s.after }

abbrev pub acc : Scene → ℕ → Access
acc s y = access_at s.setting.accesses y

abbrev pub spot : Scene → ℕ → Spot
spot s k = spot_at s.spots k

abbrev pub lits_of : Scene → ℕ → List Lit
lits_of s id = lits_at s.mid.blaster.terms id

-- ---- terms

-- byte j of a spot, of the reading, and of the initial bytes
abbrev pub written_id : Scene → Spot → ℕ → ℕ
written_id s one j = (slice_index_or (acc s one.access).writes (one.byte + j) no_id).number

abbrev pub read_id : Scene → ℕ → ℕ
read_id s j = (slice_index_or (acc s s.reading.access).reads (s.reading.index + j) no_id).number

abbrev pub initial_id : Scene → ℕ → ℕ
initial_id s j = term_in s.built.terms j

pub spot_is : (s : Scene) (k : ℕ) → k < length s.spots → IsSpot s.setting s.reading (spot s k)
spot_is s k less = s.can.sources k (record { access = 0; byte = 0; at = 0 }) less

pub has_at : (s : Scene) (y : ℕ) → y < length s.setting.accesses → HasTerms s.setting.nodes (acc s y)
has_at s y there = terms_of s.setting.nodes s.setting.accesses y s.can.terms there

pub keeps_old : (s : Scene) → KeepsTerms s.setting.nodes s.old.pool
keeps_old s = s.can.stands.terms

pub keeps_mid : (s : Scene) → KeepsTerms s.setting.nodes s.mid.pool
keeps_mid s = terms_then s.setting.nodes s.old.pool s.mid.pool (keeps_old s) s.encodes.keeps.terms

pub mid_to_new : (s : Scene) → Keeps s.mid (new_of s)
mid_to_new s = record {
  known = known_later s.mid.blaster s.mid.pool s.mid.pool s.mid.clauses s.after (terms_same s.mid.pool) s.adds.grows s.encodes.keeps.known;
  terms = terms_same s.mid.pool;
  variables = variables_same s.mid.pool;
  bits = keeps_none s.mid.blaster;
  grows = s.adds.grows;
}

pub keeps_all : (s : Scene) → Keeps s.old (new_of s)
keeps_all s = keeps_then s.old s.mid (new_of s) s.encodes.keeps (mid_to_new s)

pub read_within : (s : Scene) (j : ℕ) → j < s.reading.count → s.reading.index + j < length (acc s s.reading.access).reads
read_within s j less = let most = s.can.reads.within in omega (arith, less, most)

pub byte_within : (s : Scene) (k j : ℕ) → k < length s.spots → j < s.reading.count → (spot s k).byte + j < length (acc s (spot s k).access).writes
byte_within s k j less_k less = let most = (spot_is s k less_k).source.within in omega (arith, less, most)

pub written_inside : (s : Scene) (y m : ℕ) → y < length s.setting.accesses → m < length (acc s y).writes → (slice_index_or (acc s y).writes m no_id).number < length s.setting.nodes
written_inside s y m there within = (has_at s y there).writes m no_id within

-- terms of accesses have their values among all nodes
pub same_values : (s : Scene) (t : TermAssignment) (j : ℕ) → j < s.reading.count
    → SameValues t s.mid.pool s.setting.nodes s.setting.accesses s.reading.access (s.reading.index + j)
same_values s t j less = record {
  there = s.can.reads.there;
  address = λ (y : ℕ) (there : y < length s.setting.accesses). (keeps_mid s).value t (acc s y).address.number (has_at s y there).address.inside;
  guard = λ (y : ℕ) (there : y < length s.setting.accesses). (keeps_mid s).value t (acc s y).guard.number (has_at s y there).guard.inside;
  writes = λ (y m : ℕ) (there : y < length s.setting.accesses) (within : m < length (acc s y).writes).
      (keeps_mid s).value t (slice_index_or (acc s y).writes m no_id).number (written_inside s y m there within);
  read = (keeps_mid s).value t (read_id s j) (s.can.bytes j less).inside;
}

-- ---- literals

abbrev pub built_of : Scene → Built
built_of s = record {
  setting = s.setting;
  old = s.old;
  mid = s.mid;
  reading = s.reading;
  spots = s.spots;
  reader = s.reader;
  can = s.can;
  encodes = s.encodes;
  built = s.built;
}

pub wrote : (s : Scene) (y m : ℕ) → y < length s.setting.accesses → m < length (acc s y).writes → IsBuilt s.mid.blaster (slice_index_or (acc s y).writes m no_id).number
wrote s y m there within = (written_byte (built_of s) y m there within).built

pub wrote_width : (s : Scene) (y m : ℕ) → y < length s.setting.accesses → m < length (acc s y).writes → width_at s.mid.pool (slice_index_or (acc s y).writes m no_id).number ≡ 8
wrote_width s y m there within = (written_byte (built_of s) y m there within).width

pub eight : (s : Scene) (id : ℕ) → IsBuilt s.mid.blaster id → width_at s.mid.pool id ≡ 8 → length (lits_of s id) ≡ 8
eight s id built wide = byte_lits s.mid id s.encodes.keeps.known (record { built = built; width = wide })

pub written_eights : (s : Scene) (k : ℕ) → k < length s.spots → AreEights s.mid.blaster.terms (written_parts s.setting.accesses s.reading (spot s k))
written_eights s k less = spot_eights (built_of s) k less

pub read_built : (s : Scene) (j : ℕ) → j < s.reading.count → IsBuilt s.mid.blaster (read_id s j)
read_built s j less = (read_byte (built_of s) j less).built

pub read_width : (s : Scene) (j : ℕ) → j < s.reading.count → width_at s.mid.pool (read_id s j) ≡ 8
read_width s j less = (read_byte (built_of s) j less).width

pub read_eight : (s : Scene) (j : ℕ) → j < s.reading.count → length (lits_of s (read_id s j)) ≡ 8
read_eight s j less = byte_lits s.mid (read_id s j) s.encodes.keeps.known (read_byte (built_of s) j less)

pub read_eights : (s : Scene) → AreEights s.mid.blaster.terms (read_parts s.setting.accesses s.reading)
read_eights s = reading_eights (built_of s)

pub initial_built : (s : Scene) (j : ℕ) → j < s.reading.count → IsBuilt s.mid.blaster (initial_id s j)
initial_built s j less = (initial_byte (built_of s) j less).built

pub initial_width : (s : Scene) (j : ℕ) → j < s.reading.count → width_at s.mid.pool (initial_id s j) ≡ 8
initial_width s j less = (initial_byte (built_of s) j less).width

pub initial_eights : (s : Scene) → AreEights s.mid.blaster.terms (numbers s.built.terms)
initial_eights s = first_eights (built_of s)
