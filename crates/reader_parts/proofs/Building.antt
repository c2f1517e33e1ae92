-- A reader that is built: its candidates, then what it reads, then the initial bytes.
use Rattle.std.specs.Prelude.{◌≡◌, ℕ, ◌<◌, List, All, length}
use Rattle.std.proofs.Common.{sym, subst, refl, arith}
use Rattle.elf_image.specs.Layout.{Layout}
use Rattle.bv_terms.specs.declared.node.TermId.{TermId}
use Rattle.bv_terms.specs.Shapes.{Shape}
use Rattle.clause_store.specs.declared.lit.Lit.{Lit}
use Rattle.source_clauses.specs.declared.reader.Candidate.{Candidate}
use Rattle.encoder.specs.declared.encoder.Encoder.{Encoder}
use Rattle.encoder.specs.Encodes.{Encodes, Keeps}
use Rattle.encoder.proofs.Encoding.{get_or_any, keeps_then}
use Rattle.step_terms.specs.Bytes.{numbers}
use Rattle.step_terms.specs.Made.{Grows, IsTerm}
use Rattle.thread_terms.specs.declared.access.Access.{Access}
use Rattle.term_sources.specs.Sees.{access_at, no_id}
use Rattle.reader_parts.specs.declared.reading.Reading.{Reading}
use Rattle.reader_parts.specs.declared.reading.Spot.{Spot}
use Rattle.reader_parts.specs.Conditions.{HasTerms}
use Rattle.reader_parts.specs.Readings.{AreCandidatesOf, AreLiterals, AreMadeInitial, IsBuiltReader, all_spot_parts, reader_parts, read_parts, run_of}
use Rattle.reader_parts.proofs.Candidates.{candidates_later, encodes_reader, made_earlier, made_later, pool_same, terms_of}
use Rattle.reader_parts.proofs.Later.{grown_keeps, has_later, literals_later}

-- the steps in which a reader is built
pub record Steps : Type 0 where
  pub old : Encoder
  pub one : Encoder
  pub two : Encoder
  pub pool : List Shape
  pub new : Encoder
  pub accesses : List Access
  pub reading : Reading
  pub spots : List Spot
  pub image : Layout
  pub reader : Access
  pub ids : List TermId
  pub candidates : List Candidate
  pub read : List Lit
  pub initial : List Lit
  pub has : All (HasTerms old.pool) accesses
  pub there : reading.access < length accesses
  pub is_reader : reader ≡ access_at accesses reading.access
  pub first : Encodes old one (all_spot_parts accesses reading spots)
  pub are : AreCandidatesOf old.pool one accesses reading spots candidates
  pub second : Encodes one two (run_of reader.reads reading.index reading.count)
  pub reads : AreLiterals two (run_of reader.reads reading.index reading.count) read
  pub grows : Grows two.pool pool
  pub made : AreMadeInitial two.pool pool image reader.address.number reading.index reading.count ids
  pub third : Encodes (record two { pool = pool }) new (numbers ids)
  pub same : new.pool ≡ pool
  pub initials : AreLiterals new (numbers ids) initial

is_term : (s : Steps) → IsTerm s.old.pool 32 (access_at s.accesses s.reading.access).address.number
is_term s = (terms_of s.old.pool s.accesses s.reading.access s.has s.there).address

second_is : (s : Steps) → Encodes s.one s.two (read_parts s.accesses s.reading)
second_is s = subst (λ (a : Access). Encodes s.one s.two (run_of a.reads s.reading.index s.reading.count)) s.is_reader s.second

to_two : (s : Steps) → Keeps s.old s.two
to_two s = keeps_then s.old s.one s.two s.first.keeps s.second.keeps

all_made : (s : Steps) → AreMadeInitial s.old.pool s.pool s.image (access_at s.accesses s.reading.access).address.number s.reading.index s.reading.count s.ids
all_made s =
    made_earlier s.old.pool s.two.pool s.pool s.image (access_at s.accesses s.reading.access).address.number s.reading.index s.reading.count s.ids (is_term s)
    (record { terms = (to_two s).terms; variables = (to_two s).variables })
    (subst (λ (a : Access). AreMadeInitial s.two.pool s.pool s.image a.address.number s.reading.index s.reading.count s.ids) s.is_reader s.made)

pub reader_encodes : (s : Steps) → Encodes s.old s.new (reader_parts s.accesses s.reading s.spots)
reader_encodes s = encodes_reader s.old s.one s.two s.pool s.new s.accesses s.reading s.spots s.image s.ids s.first (second_is s) s.grows (is_term s) (all_made s) s.third s.same

from_two : (s : Steps) → Keeps s.two s.new
from_two s = keeps_then s.two (record s.two { pool = s.pool }) s.new (grown_keeps s.two s.pool s.second.keeps.known s.grows) s.third.keeps

pub reader_built : (s : Steps) → IsBuiltReader s.old.pool s.new s.image s.accesses s.reading s.spots
    (record { at = s.reading.at; candidates = s.candidates; initial = s.initial; read = s.read })
reader_built s = record {
  at = refl;
  read = literals_later s.two s.new (read_parts s.accesses s.reading) s.read (from_two s)
      (subst (λ (a : Access). AreLiterals s.two (run_of a.reads s.reading.index s.reading.count) s.read) s.is_reader s.reads);
  terms = s.ids;
  made = made_later s.old.pool s.pool s.new.pool s.image (access_at s.accesses s.reading.access).address.number s.reading.index s.reading.count s.ids
      (pool_same s.pool s.new.pool s.same) (all_made s);
  initial = s.initials;
  candidates = candidates_later s.old.pool s.one s.new s.accesses s.reading s.spots s.candidates (keeps_then s.one s.two s.new s.second.keeps (from_two s)) s.are;
}

-- initial bytes that were made stand among the terms
pub made_inside : (old new : List Shape) (image : Layout) (address index count : ℕ) (ids : List TermId) → AreMadeInitial old new image address index count ids
    → All (λ (id : TermId). id.number < length new) ids
made_inside old new image address index count ids are j d less =
    let many = are.many in
    subst (λ (id : TermId). id.number < length new) (get_or_any ids j no_id d less) (are.each j (omega (arith, less, many))).term.inside

-- an access that was looked up has the terms that it had
pub looked_up : (old now : Encoder) (accesses : List Access) (x : ℕ) (access : Access) → All (HasTerms old.pool) accesses → x < length accesses → access ≡ access_at accesses x
    → Keeps old now → HasTerms now.pool access
looked_up old now accesses x access all there is keeps =
    subst (HasTerms now.pool) (sym is) (has_later old.pool now.pool (access_at accesses x) keeps.terms (terms_of old.pool accesses x all there))
