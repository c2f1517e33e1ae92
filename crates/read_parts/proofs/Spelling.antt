-- A built reader sees the newest of its candidates exactly where each of its bytes is what the access sees.
use Rattle.std.specs.Prelude.{◌≡◌, ◌≢◌, ◌↔◌, ℕ, ◌+◌, ◌*◌, ◌<◌, Bool, true, false, cond, nat_eq, nat_lt, List, length}
use Rattle.std.proofs.Common.{sym, ◌∙◌, ap, subst, refl, inl, inr, arith}
use Rattle.std.proofs.lemmas.Bool.{cases_eq, eq-eqb, false≢true, false_from_ne_true, ltb-true, ne_eqb}
use Rattle.bv_terms.specs.Values.{Assignment as TermAssignment}
use Rattle.clause_store.specs.declared.lit.Lit.{Lit}
use Rattle.clause_store.specs.Literals.{Assignment}
use Rattle.order_clauses.specs.declared.order_lit.OrderLit.{OrderLit}
use Rattle.order_clauses.specs.declared.order_lit.OrderLit.TheVariants as order_lit
use Rattle.order_clauses.specs.Grid.{lit_in}
use Rattle.order_clauses.specs.Literals.{all_given, known_before, spelled}
use Rattle.order_clauses.proofs.Known.{Known, known-from, known-parts, known_spelled}
use Rattle.source_clauses.specs.declared.reader.Reader.{Reader}
use Rattle.source_clauses.specs.Contract.{SpellsStrict}
use Rattle.source_clauses.specs.Sees.{SeesNewest, between, bit_at, candidate_at}
use Rattle.encoder.specs.Encodes.{Spells}
use Rattle.step_terms.specs.Bytes.{numbers}
use Rattle.term_sources.specs.Sees.{SeesAt, hits}
use Rattle.read_clauses.specs.Readers.{AreWritten, IsCandidate, IsCovered, IsReaderOf, IsSpelledOrder}
use Rattle.read_clauses.specs.Together.{IsOneWay, IsPart}
use Rattle.read_clauses.proofs.Joining.{bytes_together}
use Rattle.read_clauses.proofs.Seeing.{readers_see}
use Rattle.formula_parts.specs.Order.{IsAt, Places}
use Rattle.formula_parts.specs.Parts.{SpellsAll}
use Rattle.reader_parts.specs.declared.reading.Spot.{Spot}
use Rattle.reader_parts.specs.Readings.{opening_byte, read_parts, written_parts}
use Rattle.reader_parts.proofs.Candidates.{hits_earlier}
use Rattle.read_parts.proofs.Moving.{hits_far, same_hits, sees_moved, values_back}
use Rattle.read_parts.proofs.Pieces.{joined_bit, numbers_at, numbers_length, pieces, pieces_bits, pieces_hit, pieces_length, pieces_place, run_at, run_length}
use Rattle.read_parts.proofs.Knowing.{read_width as read_width_of}
use Rattle.read_parts.proofs.Scenes.{Scene, acc, built_of, byte_within, has_at, initial_built, initial_eights, initial_id, initial_width, keeps_mid, keeps_old, lits_of, read_built, read_eight, read_eights, read_id, read_width, same_values, spot, spot_is, wrote, wrote_width, written_eights, written_id}

-- ---- the reader of each byte

abbrev pub part : Scene → ℕ → Reader
part s j = record {
  at = s.reader.at;
  candidates = pieces s.reader.candidates s.spots (λ (one : Spot). lits_of s (written_id s one j));
  initial = lits_of s (initial_id s j);
  read = lits_of s (read_id s j);
}

pub many : (s : Scene) → length s.reader.candidates ≡ length s.spots
many s = s.built.candidates.count

part_many : (s : Scene) (j : ℕ) → length (part s j).candidates ≡ length s.spots
part_many s j = pieces_length s.reader.candidates s.spots (λ (one : Spot). lits_of s (written_id s one j)) (many s) ∙ many s

-- bits of what is joined are those of its terms

pub candidate_bit : (s : Scene) (j k b : ℕ) → j < s.reading.count → k < length s.spots → b < 8
    → bit_at (candidate_at s.reader.candidates k).bits (8 * j + b) ≡ bit_at (lits_of s (written_id s (spot s k) j)) b
candidate_bit s j k b less inside few =
    let one = spot s k in let writes = (acc s one.access).writes in
    let parts = written_parts s.setting.accesses s.reading one in
    let long = run_length writes one.byte s.reading.count in
    ap (λ (bits : List Lit). bit_at bits (8 * j + b)) (s.built.candidates.each k inside).bits.are
    ∙ joined_bit s.mid.blaster.terms parts j b (written_eights s k inside) (omega (arith, less, long)) few
    ∙ ap (λ (id : ℕ). bit_at (lits_of s id) b) (run_at writes one.byte s.reading.count j less)

pub read_bit : (s : Scene) (j b : ℕ) → j < s.reading.count → b < 8 → bit_at s.reader.read (8 * j + b) ≡ bit_at (lits_of s (read_id s j)) b
read_bit s j b less few =
    let reads = (acc s s.reading.access).reads in
    let long = run_length reads s.reading.index s.reading.count in
    ap (λ (bits : List Lit). bit_at bits (8 * j + b)) s.built.read.are
    ∙ joined_bit s.mid.blaster.terms (read_parts s.setting.accesses s.reading) j b (read_eights s) (omega (arith, less, long)) few
    ∙ ap (λ (id : ℕ). bit_at (lits_of s id) b) (run_at reads s.reading.index s.reading.count j less)

pub initial_bit : (s : Scene) (j b : ℕ) → j < s.reading.count → b < 8 → bit_at s.reader.initial (8 * j + b) ≡ bit_at (lits_of s (initial_id s j)) b
initial_bit s j b less few =
    let made = s.built.made.many in let wide = numbers_length s.built.terms in
    ap (λ (bits : List Lit). bit_at bits (8 * j + b)) s.built.initial.are
    ∙ joined_bit s.mid.blaster.terms (numbers s.built.terms) j b (initial_eights s) (omega (arith, less, made, wide)) few
    ∙ ap (λ (id : ℕ). bit_at (lits_of s id) b) (numbers_at s.built.terms j (omega (arith, less, made)))

part_bits : (s : Scene) (j k b : ℕ) → j < s.reading.count → k < length s.reader.candidates → b < 8
    → bit_at (candidate_at (part s j).candidates k).bits b ≡ bit_at (candidate_at s.reader.candidates k).bits (8 * j + b)
part_bits s j k b less less_k few =
    let same = many s in
    ap (λ (bits : List Lit). bit_at bits b) (pieces_bits s.reader.candidates s.spots (λ (o : Spot). lits_of s (written_id s o j)) k (many s) less_k)
    ∙ sym (candidate_bit s j k b less (omega (arith, less_k, same)) few)

pub is_part : (s : Scene) (j : ℕ) → j < s.reading.count → IsPart s.reader (part s j) j
is_part s j less = record {
  at = refl;
  many = pieces_length s.reader.candidates s.spots (λ (one : Spot). lits_of s (written_id s one j)) (many s);
  places = λ (k : ℕ). pieces_place s.reader.candidates s.spots (λ (one : Spot). lits_of s (written_id s one j)) k (many s);
  hits = λ (k : ℕ). pieces_hit s.reader.candidates s.spots (λ (one : Spot). lits_of s (written_id s one j)) k (many s);
  bits = λ (k : ℕ) (less_k : k < length s.reader.candidates) (b : ℕ) (few : b < 8). part_bits s j k b less less_k few;
  width = read_eight s j less;
  read = λ (b : ℕ) (few : b < 8). sym (read_bit s j b less few);
  initial = λ (b : ℕ) (few : b < 8). sym (initial_bit s j b less few);
}

pub read_length : (s : Scene) → length s.reader.read ≡ 8 * s.reading.count
read_length s = read_width_of (built_of s)

-- ---- by terms

hit_is : (s : Scene) (j k : ℕ) → j < s.reading.count → k < length s.spots → (w : Assignment) (t : TermAssignment) → Spells s.mid t w
    → spelled w (candidate_at s.reader.candidates k).hit ≡ hits t s.mid.pool (acc s (spot s k).access) ((spot s k).byte + j) (acc s s.reading.access) (s.reading.index + j)
hit_is s j k less less_k w t spells =
    let one = spot s k in let writer = acc s one.access in let reader = acc s s.reading.access in
    let of_writer = has_at s one.access (spot_is s k less_k).source.there in
    let of_reader = has_at s s.reading.access s.can.reads.there in
    (s.built.candidates.each k less_k).hit.tells w t spells
    ∙ hits_earlier s.setting.nodes s.old.pool writer reader one.byte s.reading.index t (keeps_old s) of_writer of_reader
    ∙ sym (hits_earlier s.setting.nodes s.mid.pool writer reader one.byte s.reading.index t (keeps_mid s) of_writer of_reader)
    ∙ hits_far t s.mid.pool writer reader one.byte s.reading.index j

is_candidate : (s : Scene) (j : ℕ) → j < s.reading.count → (k : ℕ) → k < length (part s j).candidates
    → IsCandidate s.mid s.setting.accesses s.setting.places.place s.reading.access (s.reading.index + j) (part s j) k (spot s k).access ((spot s k).byte + j)
is_candidate s j less k less_k =
    let fits = part_many s j in let same = many s in
    let inside : k < length s.spots = omega (arith, less_k, fits) in
    let bits = λ (o : Spot). lits_of s (written_id s o j) in
    let one = spot s k in let is = spot_is s k inside in
    let in_reader : k < length s.reader.candidates = omega (arith, inside, same) in record {
      there = is.source.there;
      other = is.other;
      within = byte_within s k j inside less;
      at = pieces_place s.reader.candidates s.spots bits k (many s) ∙ (s.built.candidates.each k inside).at ∙ is.at;
      bits = record {
        built = wrote s one.access (one.byte + j) is.source.there (byte_within s k j inside less);
        width = wrote_width s one.access (one.byte + j) is.source.there (byte_within s k j inside less);
        are = pieces_bits s.reader.candidates s.spots bits k (many s) in_reader;
      };
      hit = λ (w : Assignment) (t : TermAssignment) (spells : Spells s.mid t w).
          ap (spelled w) (pieces_hit s.reader.candidates s.spots bits k (many s)) ∙ hit_is s j k less inside w t spells;
    }

cancel : (a b j : ℕ) → a + j ≡ b + j → a ≡ b
cancel a b j e = omega (arith, e)

pub is_reader_of : (s : Scene) (j : ℕ) → j < s.reading.count
    → IsReaderOf s.mid s.setting.image s.setting.accesses s.setting.places.place s.reading.access (s.reading.index + j) (part s j)
is_reader_of s j less = let fits = part_many s j in record {
  access = λ (k : ℕ). (spot s k).access;
  byte = λ (k : ℕ). (spot s k).byte + j;
  candidates = is_candidate s j less;
  distinct = λ (i k : ℕ) (less_i : i < length (part s j).candidates) (less_k : k < length (part s j).candidates) (one : (spot s i).access ≡ (spot s k).access)
      (two : (spot s i).byte + j ≡ (spot s k).byte + j).
      s.can.distinct i k (omega (arith, less_i, fits)) (omega (arith, less_k, fits)) one (cancel (spot s i).byte (spot s k).byte j two);
  at = s.built.at ∙ s.can.at;
  read = record { built = read_built s j less; width = read_width s j less; are = refl };
  first = initial_id s j;
  initial = record { built = initial_built s j less; width = initial_width s j less; are = refl };
  initial_is = λ (t : TermAssignment).
      let address = (acc s s.reading.access).address.number in
      let within = (has_at s s.reading.access s.can.reads.there).address.inside in
      (s.built.made.each j less).value t
      ∙ ap (λ (a : ℕ). opening_byte s.setting.image a (s.reading.index + j)) ((keeps_old s).value t address within ∙ sym ((keeps_mid s).value t address within));
}

-- ---- the order

pub record Told (s : Scene) : Type 0 where
  pub w : Assignment
  pub t : TermAssignment
  pub lt : ℕ → ℕ → Bool
  pub spells : SpellsAll s.setting s.mid t w lt

abbrev pub place_at : (s : Scene) → ℕ → ℕ
place_at s k = s.setting.places.place (spot s k).access

spelled_order : (s : Scene) (told : Told s) (j : ℕ)
    → IsSpelledOrder told.w s.setting.places.table s.setting.places.place (λ k. (spot s k).access) (length (part s j).candidates) s.reading.access told.lt
spelled_order s told j = let fits = part_many s j in record {
  strict = told.spells.is_order.strict;
  one_place = λ (i k : ℕ) (less_i : i < length (part s j).candidates) (less_k : k < length (part s j).candidates) (same : place_at s i ≡ place_at s k).
      s.can.stands.places.own (spot s i).access (spot s k).access (spot_is s i (omega (arith, less_i, fits))).chosen (spot_is s k (omega (arith, less_k, fits))).chosen same;
  between = λ (i k : ℕ) (less_i : i < length (part s j).candidates) (less_k : k < length (part s j).candidates) (differ : (spot s i).access ≢ (spot s k).access).
      told.spells.order (spot s i).access (spot s k).access (spot_is s i (omega (arith, less_i, fits))).chosen (spot_is s k (omega (arith, less_k, fits))).chosen differ;
  before = λ (k : ℕ) (less_k : k < length (part s j).candidates).
      let is = spot_is s k (omega (arith, less_k, fits)) in
      told.spells.order (spot s k).access s.reading.access is.chosen s.can.chosen is.other;
}

covered : (s : Scene) (told : Told s) (j : ℕ) → j < s.reading.count
    → IsCovered told.t s.mid s.setting.accesses (λ k. (spot s k).access) (λ k. (spot s k).byte + j) (length (part s j).candidates) s.reading.access (s.reading.index + j) told.lt
covered s told j less z m there within before hit =
    let fits = part_many s j in let values = same_values s told.t j less in
    let moved : hits told.t s.setting.nodes (acc s z) m (acc s s.reading.access) (s.reading.index + j) ≡ true =
    sym (same_hits told.t s.mid.pool s.setting.nodes s.setting.accesses s.reading.access (s.reading.index + j) z m (s.reading.index + j) values there) ∙ hit in
    let found = s.can.covered j less told.t told.lt told.spells.is_order z m there within before moved in
    let inside = found.1 in (
      found.0,
      omega (arith, inside, fits),
      elim found.2 [
        | inl same ↦ inl same
        | inr hidden ↦ inr (
          hidden.0,
          hidden.1,
          same_hits told.t s.mid.pool s.setting.nodes s.setting.accesses s.reading.access (s.reading.index + j) (spot s found.0).access ((spot s found.0).byte + j) (s.reading.index + j)
              values (spot_is s found.0 inside).source.there ∙ hidden.2,
        )
      ],
    )

are_written : (s : Scene) → AreWritten s.mid s.setting.accesses
are_written s y m there within = (wrote s y m there within, wrote_width s y m there within)

part_sees : (s : Scene) (told : Told s) (j : ℕ) → j < s.reading.count
    → SeesNewest told.w s.setting.places.table (part s j) ↔ SeesAt s.setting.image told.t s.mid.pool s.setting.accesses told.lt s.reading.access (s.reading.index + j)
unfolding is_reader_of
part_sees s told j less =
    readers_see s.mid s.setting.image s.setting.accesses s.setting.places.place s.setting.places.table s.reading.access (s.reading.index + j) (part s j) told.w told.t told.lt
    (is_reader_of s j less) s.encodes.keeps.known told.spells.spells s.can.few (are_written s) (spelled_order s told j) (covered s told j less)

-- ---- of two candidates not each is before the other

spelled_between : (s : Scene) (told : Told s) (i k : ℕ) → i < length s.spots → k < length s.spots → (spot s i).access ≢ (spot s k).access
    → spelled told.w (between s.setting.places.table s.reader.candidates i k) ≡ told.lt (spot s i).access (spot s k).access
spelled_between s told i k less_i less_k differ =
    let table = s.setting.places.table in
    let is_i = spot_is s i less_i in let is_k = spot_is s k less_k in
    let at_i : (candidate_at s.reader.candidates i).at ≡ place_at s i = (s.built.candidates.each i less_i).at ∙ is_i.at in
    let at_k : (candidate_at s.reader.candidates k).at ≡ place_at s k = (s.built.candidates.each k less_k).at ∙ is_k.at in
    let apart : place_at s i ≢ place_at s k = λ (same : place_at s i ≡ place_at s k). differ (s.can.stands.places.own (spot s i).access (spot s k).access is_i.chosen is_k.chosen same) in
    ap (λ (n : ℕ). spelled told.w (cond (nat_eq n (candidate_at s.reader.candidates k).at) (cond (nat_lt i k) order_lit.Always order_lit.Never) (lit_in table n (candidate_at s.reader.candidates k).at))) at_i
    ∙ ap (λ (n : ℕ). spelled told.w (cond (nat_eq (place_at s i) n) (cond (nat_lt i k) order_lit.Always order_lit.Never) (lit_in table (place_at s i) n))) at_k
    ∙ ap (λ (found : Bool). spelled told.w (cond found (cond (nat_lt i k) order_lit.Always order_lit.Never) (lit_in table (place_at s i) (place_at s k)))) (ne_eqb (place_at s i) (place_at s k) apart)
    ∙ told.spells.order (spot s i).access (spot s k).access is_i.chosen is_k.chosen differ

listed_between : (s : Scene) (told : Told s) (i k : ℕ) → i < length s.spots → k < length s.spots → (spot s i).access ≡ (spot s k).access
    → spelled told.w (between s.setting.places.table s.reader.candidates i k) ≡ true → i < k
listed_between s told i k less_i less_k same e =
    let table = s.setting.places.table in
    let at_i : (candidate_at s.reader.candidates i).at ≡ place_at s i = (s.built.candidates.each i less_i).at ∙ (spot_is s i less_i).at in
    let at_k : (candidate_at s.reader.candidates k).at ≡ place_at s k = (s.built.candidates.each k less_k).at ∙ (spot_is s k less_k).at in
    let one : (candidate_at s.reader.candidates i).at ≡ (candidate_at s.reader.candidates k).at = at_i ∙ ap s.setting.places.place same ∙ sym at_k in
    let is : spelled told.w (cond (nat_lt i k) order_lit.Always order_lit.Never) ≡ true =
    sym (ap (λ (found : Bool). spelled told.w (cond found (cond (nat_lt i k) order_lit.Always order_lit.Never)
    (lit_in table (candidate_at s.reader.candidates i).at (candidate_at s.reader.candidates k).at)))
    (eq-eqb (candidate_at s.reader.candidates i).at (candidate_at s.reader.candidates k).at one)) ∙ e in
    ltb-true i k (spelled_cond told.w (nat_lt i k) is)
  where
    spelled_cond : (w : Assignment) (b : Bool) → spelled w (cond b order_lit.Always order_lit.Never) ≡ true → b ≡ true
    spelled_cond w true h = refl
    spelled_cond w false h = h

one_way : (s : Scene) (told : Told s) → IsOneWay told.w s.setting.places.table s.reader
one_way s told i k less_i less_k differ forth back =
    let same = many s in
    let in_i : i < length s.spots = omega (arith, less_i, same) in let in_k : k < length s.spots = omega (arith, less_k, same) in
    elim (cases_eq (spot s i).access (spot s k).access) [
      | inl e ↦
          let up = listed_between s told i k in_i in_k e forth in
          let down = listed_between s told k i in_k in_i (sym e) back in
          absurd (omega (arith, up, down))
      | inr other ↦
          let lt = told.lt in let strict = told.spells.is_order.strict in
          let up : lt (spot s i).access (spot s k).access ≡ true = sym (spelled_between s told i k in_i in_k other) ∙ forth in
          let down : lt (spot s k).access (spot s i).access ≡ true = sym (spelled_between s told k i in_k in_i (λ (e : (spot s k).access ≡ (spot s i).access). other (sym e))) ∙ back in
          false≢true (sym (strict.irreflexive (spot s i).access) ∙ strict.transitive (spot s i).access (spot s k).access (spot s i).access up down)
    ]

-- ---- all bytes

abbrev pub SeesAll : (s : Scene) → Told s → Type 0
SeesAll s told = (j : ℕ) → j < s.reading.count → SeesAt s.setting.image told.t s.setting.nodes s.setting.accesses told.lt s.reading.access (s.reading.index + j)

pub reader_sees : (s : Scene) (told : Told s) → SeesNewest told.w s.setting.places.table s.reader ↔ SeesAll s told
reader_sees s told =
    let table = s.setting.places.table in
    let together = bytes_together told.w table s.reader s.reading.count (part s) s.can.some (read_length s) (is_part s) (one_way s told) in (
      λ (sees : SeesNewest told.w table s.reader) (j : ℕ) (less : j < s.reading.count).
          sees_moved s.setting.image told.t s.mid.pool s.setting.nodes s.setting.accesses told.lt s.reading.access (s.reading.index + j) (same_values s told.t j less)
          ((part_sees s told j less).0 (together.0 sees j less)),
      λ (all : SeesAll s told).
          together.1 (λ (j : ℕ) (less : j < s.reading.count). (part_sees s told j less).1
          (sees_moved s.setting.image told.t s.setting.nodes s.mid.pool s.setting.accesses told.lt s.reading.access (s.reading.index + j)
          (values_back told.t s.mid.pool s.setting.nodes s.setting.accesses s.reading.access (s.reading.index + j) (same_values s told.t j less)) (all j less))),
    )

-- ---- the table spells a strict order

pub spells_strict : (s : Scene) (told : Told s) → SpellsStrict s.setting.places.table told.w
spells_strict s told = record {
  irreflexive = λ (a : ℕ). false_from_ne_true (known_before count lit (all_given told.w) a a)
      (λ (e : known_before count lit (all_given told.w) a a ≡ true). (known-parts count lit (all_given told.w) a a e).differ refl);
  transitive = λ (a b c : ℕ) (first : known_before count lit (all_given told.w) a b ≡ true) (second : known_before count lit (all_given told.w) b c ≡ true).
      let ab = known-parts count lit (all_given told.w) a b first in let bc = known-parts count lit (all_given told.w) b c second in
      let up = told.spells.is_order.strict.transitive (places.access a) (places.access b) (places.access c) (stands a b ab) (stands b c bc) in
      from_lt a c ab.left bc.right up;
} where
  places : Places
  places = s.setting.places

  count : ℕ
  count = places.table.count

  lit : ℕ → ℕ → OrderLit
  lit = lit_in places.table

  spelled_at : (a b : ℕ) → a < count → b < count → a ≢ b → spelled told.w (lit a b) ≡ told.lt (places.access a) (places.access b)
  spelled_at a b a_in b_in differ =
      let at_a : IsAt (length s.setting.accesses) places a = s.can.stands.places.each a a_in in
      let at_b : IsAt (length s.setting.accesses) places b = s.can.stands.places.each b b_in in
      ap (λ (n : ℕ). spelled told.w (lit n b)) (sym at_a.place) ∙ ap (λ (n : ℕ). spelled told.w (lit (places.place (places.access a)) n)) (sym at_b.place)
      ∙ told.spells.order (places.access a) (places.access b) at_a.chosen at_b.chosen
      (λ (same : places.access a ≡ places.access b). differ (sym at_a.place ∙ ap places.place same ∙ at_b.place))

  stands : (a b : ℕ) → Known count lit (all_given told.w) a b → told.lt (places.access a) (places.access b) ≡ true
  stands a b k = sym (spelled_at a b k.left k.right k.differ) ∙ sym (known_spelled told.w (lit a b)) ∙ k.known

  from_lt : (a b : ℕ) → a < count → b < count → told.lt (places.access a) (places.access b) ≡ true → known_before count lit (all_given told.w) a b ≡ true
  from_lt a b a_in b_in up =
      let differ : a ≢ b = λ (same : a ≡ b).
      false≢true (sym (told.spells.is_order.strict.irreflexive (places.access a)) ∙ subst (λ (n : ℕ). told.lt (places.access a) (places.access n) ≡ true) (sym same) up) in
      known-from count lit (all_given told.w) a b
      (record { left = a_in; right = b_in; differ = differ; known = known_spelled told.w (lit a b) ∙ spelled_at a b a_in b_in differ ∙ up })
