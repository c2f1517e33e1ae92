-- What the unit rule gives of a reader by what stands before its access in an order.
use Rattle.std.specs.Prelude.{◌≡◌, ◌≢◌, ◌⊎◌, ℕ, ◌+◌, ◌*◌, ◌/◌, ◌%◌, ◌<◌, Bool, true, IsSome, [], ◌∷◌, length, Contains}
use Rattle.std.proofs.Common.{false, sym, ◌∙◌, ap, subst, inl, inr, arith}
use Rattle.std.proofs.lemmas.List.Elements.{Contains-get_or}
use Rattle.clause_store.specs.declared.lit.Lit.{Lit}
use Rattle.clause_store.specs.UnitRule.{Partial, AllAtRest}
use Rattle.clause_store.proofs.Growth.{older_at_rest}
use Rattle.clause_store.proofs.Members.{Contains-cons_cases, Contains-nil}
use Rattle.order_clauses.specs.Grid.{lit_in}
use Rattle.order_clauses.specs.Orders.{IsStrict}
use Rattle.source_clauses.specs.Conditions.{IsDecided}
use Rattle.source_clauses.specs.Contract.{AreWritten, IsPlaced}
use Rattle.source_clauses.specs.Sees.{bit_at, candidate_at}
use Rattle.bit_clauses.specs.Bits.{HasBits, IsBuilt}
use Rattle.encoder.specs.Encodes.{AllVariablesDecided}
use Rattle.encoder.proofs.Encoding.{get_or_any}
use Rattle.formula_parts.specs.Order.{IsAt}
use Rattle.formula_parts.specs.Facts.{IsGivenAccess, IsGivenBits, IsGivenTerm, IsReady}
use Rattle.formula_parts.specs.Parts.{AtRest}
use Rattle.formula_parts.proofs.Required.{decided_of_one}
use Rattle.reader_parts.proofs.Candidates.{initial_decided}
use Rattle.step_terms.specs.Bytes.{numbers}
use Rattle.read_parts.proofs.Pieces.{numbers_at, numbers_length}
use Rattle.read_parts.proofs.Scenes.{Scene, acc, byte_within, initial_built, initial_id, initial_width, lits_of, new_of, read_built, read_eight, read_id, spot, spot_is, wrote, wrote_width, written_id, eight}
use Rattle.read_parts.proofs.Spelling.{candidate_bit, initial_bit, many, place_at, read_bit, read_length}

pub record Rests (s : Scene) : Type 0 where
  pub v : Partial
  pub lt : ℕ → ℕ → Bool
  pub rest : AtRest s.setting (new_of s) v lt
  pub ready : IsReady s.setting s.mid v lt s.reading.access

rest_mid : (s : Scene) (r : Rests s) → AllAtRest r.v s.mid.clauses.clauses
rest_mid s r = older_at_rest s.mid.clauses s.after r.v s.adds.grows r.rest.rest

-- the order of accesses by their places
abbrev pub lt_of : (s : Scene) → Rests s → ℕ → ℕ → Bool
lt_of s r i k = r.lt (s.setting.places.access i) (s.setting.places.access k)

back : (s : Scene) (y : ℕ) → s.setting.places.chosen y ≡ true → s.setting.places.access (s.setting.places.place y) ≡ y
back s y chosen =
    let places = s.can.stands.places in
    let at : IsAt (length s.setting.accesses) s.setting.places (s.setting.places.place y) = places.each (s.setting.places.place y) (places.within y chosen) in
    places.own (s.setting.places.access (s.setting.places.place y)) y at.chosen chosen at.place

candidate_place : (s : Scene) (k : ℕ) → k < length s.spots → (candidate_at s.reader.candidates k).at ≡ place_at s k
candidate_place s k less = (s.built.candidates.each k less).at ∙ (spot_is s k less).at

reader_place : (s : Scene) → s.reader.at ≡ s.setting.places.place s.reading.access
reader_place s = s.built.at ∙ s.can.at

between_is : (s : Scene) (r : Rests s) (i k : ℕ) → i < length s.spots → k < length s.spots
    → lt_of s r (candidate_at s.reader.candidates i).at (candidate_at s.reader.candidates k).at ≡ r.lt (spot s i).access (spot s k).access
between_is s r i k less_i less_k =
    ap (λ (n : ℕ). lt_of s r n (candidate_at s.reader.candidates k).at) (candidate_place s i less_i) ∙ ap (λ (n : ℕ). lt_of s r (place_at s i) n) (candidate_place s k less_k)
    ∙ ap (λ (n : ℕ). r.lt n (s.setting.places.access (place_at s k))) (back s (spot s i).access (spot_is s i less_i).chosen)
    ∙ ap (λ (n : ℕ). r.lt (spot s i).access n) (back s (spot s k).access (spot_is s k less_k).chosen)

before_is : (s : Scene) (r : Rests s) (k : ℕ) → k < length s.spots → lt_of s r (candidate_at s.reader.candidates k).at s.reader.at ≡ r.lt (spot s k).access s.reading.access
before_is s r k less =
    ap (λ (n : ℕ). lt_of s r n s.reader.at) (candidate_place s k less) ∙ ap (λ (n : ℕ). lt_of s r (place_at s k) n) (reader_place s)
    ∙ ap (λ (n : ℕ). r.lt n (s.setting.places.access (s.setting.places.place s.reading.access))) (back s (spot s k).access (spot_is s k less).chosen)
    ∙ ap (λ (n : ℕ). r.lt (spot s k).access n) (back s s.reading.access s.can.chosen)

-- ---- the reader is placed

inside_spots : (s : Scene) (k : ℕ) → k < length s.reader.candidates → k < length s.spots
inside_spots s k less = let same = many s in omega (arith, less, same)

strict_places : (s : Scene) (r : Rests s) → IsStrict (lt_of s r)
strict_places s r = let strict = r.rest.is_order.strict in record {
  irreflexive = λ (a : ℕ). strict.irreflexive (s.setting.places.access a);
  transitive = λ (a b c : ℕ) (up : lt_of s r a b ≡ true) (on : lt_of s r b c ≡ true).
      strict.transitive (s.setting.places.access a) (s.setting.places.access b) (s.setting.places.access c) up on;
}

-- the accesses of candidates at different places differ
apart : (s : Scene) (i k : ℕ) → i < length s.spots → k < length s.spots
    → (candidate_at s.reader.candidates i).at ≢ (candidate_at s.reader.candidates k).at → (spot s i).access ≢ (spot s k).access
apart s i k less_i less_k differ same = differ (candidate_place s i less_i ∙ ap s.setting.places.place same ∙ sym (candidate_place s k less_k))

one_first : (s : Scene) (r : Rests s) (i k : ℕ) → i < length s.spots → k < length s.spots
    → (candidate_at s.reader.candidates i).at ≢ (candidate_at s.reader.candidates k).at
    → (lt_of s r (candidate_at s.reader.candidates i).at (candidate_at s.reader.candidates k).at ≡ true)
    ⊎ (lt_of s r (candidate_at s.reader.candidates k).at (candidate_at s.reader.candidates i).at ≡ true)
one_first s r i k less_i less_k differ =
    elim (r.rest.is_order.total.total (spot s i).access (spot s k).access (spot_is s i less_i).source.there (spot_is s k less_k).source.there (apart s i k less_i less_k differ)) [
      | inl up ↦ inl (between_is s r i k less_i less_k ∙ up)
      | inr down ↦ inr (between_is s r k i less_k less_i ∙ down)
    ]

decided_between : (s : Scene) (r : Rests s) (i k : ℕ) → i < length s.spots → k < length s.spots
    → (candidate_at s.reader.candidates i).at ≢ (candidate_at s.reader.candidates k).at
    → IsDecided r.v (lit_in s.setting.places.table (candidate_at s.reader.candidates i).at (candidate_at s.reader.candidates k).at)
    (lt_of s r (candidate_at s.reader.candidates i).at (candidate_at s.reader.candidates k).at)
decided_between s r i k less_i less_k differ =
    let table = s.setting.places.table in
    let at_k = (candidate_at s.reader.candidates k).at in
    subst (IsDecided r.v (lit_in table (candidate_at s.reader.candidates i).at at_k)) (sym (between_is s r i k less_i less_k))
    (subst (λ (n : ℕ). IsDecided r.v (lit_in table n at_k) (r.lt (spot s i).access (spot s k).access)) (sym (candidate_place s i less_i))
    (subst (λ (n : ℕ). IsDecided r.v (lit_in table (place_at s i) n) (r.lt (spot s i).access (spot s k).access)) (sym (candidate_place s k less_k))
    (r.rest.order (spot s i).access (spot s k).access (spot_is s i less_i).chosen (spot_is s k less_k).chosen (apart s i k less_i less_k differ))))

decided_before : (s : Scene) (r : Rests s) (k : ℕ) → k < length s.spots
    → IsDecided r.v (lit_in s.setting.places.table (candidate_at s.reader.candidates k).at s.reader.at) (lt_of s r (candidate_at s.reader.candidates k).at s.reader.at)
decided_before s r k less =
    let table = s.setting.places.table in
    subst (IsDecided r.v (lit_in table (candidate_at s.reader.candidates k).at s.reader.at)) (sym (before_is s r k less))
    (subst (λ (n : ℕ). IsDecided r.v (lit_in table n s.reader.at) (r.lt (spot s k).access s.reading.access)) (sym (candidate_place s k less))
    (subst (λ (n : ℕ). IsDecided r.v (lit_in table (place_at s k) n) (r.lt (spot s k).access s.reading.access)) (sym (reader_place s))
    (r.rest.order (spot s k).access s.reading.access (spot_is s k less).chosen s.can.chosen (spot_is s k less).other)))

-- an access before the reader is given
older : (s : Scene) (r : Rests s) (k : ℕ) → k < length s.spots → lt_of s r (candidate_at s.reader.candidates k).at s.reader.at ≡ true
    → IsGivenAccess s.mid r.v (acc s (spot s k).access)
older s r k less e = r.ready.older (spot s k).access (spot_is s k less).source.there (sym (before_is s r k less) ∙ e)

decided_hit : (s : Scene) (r : Rests s) (k : ℕ) → k < length s.spots → lt_of s r (candidate_at s.reader.candidates k).at s.reader.at ≡ true
    → (b : Bool) × IsDecided r.v (candidate_at s.reader.candidates k).hit b
decided_hit s r k less e =
    let writer = acc s (spot s k).access in let reader = acc s s.reading.access in
    let given = older s r k less e in
    (s.built.candidates.each k less).hit.decided r.v (rest_mid s r) (three writer.guard.number writer.address.number reader.address.number given.guard given.address r.ready.address)
  where
    three : (a b c : ℕ) → IsGivenTerm s.mid r.v a → IsGivenTerm s.mid r.v b → IsGivenTerm s.mid r.v c → AllVariablesDecided s.mid r.v (a ∷ b ∷ c ∷ [])
    three a b c of_a of_b of_c id listed = elim (Contains-cons_cases a (b ∷ c ∷ []) id listed) [
      | inl e ↦ subst (IsGivenTerm s.mid r.v) e of_a
      | inr more ↦ elim (Contains-cons_cases b (c ∷ []) id more) [
        | inl e ↦ subst (IsGivenTerm s.mid r.v) e of_b
        | inr last ↦ elim (Contains-cons_cases c [] id last) [
          | inl e ↦ subst (IsGivenTerm s.mid r.v) e of_c
          | inr none ↦ absurd (Contains-nil id none)
        ]
      ]
    ]

pub placed : (s : Scene) (r : Rests s) → IsPlaced r.v s.setting.places.table s.reader (lt_of s r)
placed s r = record {
  strict = strict_places s r;
  total = λ (i k : ℕ) (less_i : i < length s.reader.candidates) (less_k : k < length s.reader.candidates) differ.
      one_first s r i k (inside_spots s i less_i) (inside_spots s k less_k) differ;
  between = λ (i k : ℕ) (less_i : i < length s.reader.candidates) (less_k : k < length s.reader.candidates) differ.
      decided_between s r i k (inside_spots s i less_i) (inside_spots s k less_k) differ;
  before = λ (k : ℕ) (less : k < length s.reader.candidates). decided_before s r k (inside_spots s k less);
  hit = λ (k : ℕ) (less : k < length s.reader.candidates) e. decided_hit s r k (inside_spots s k less) e;
}

-- ---- bits

-- the literals of a term that is given have values
decided_bit : (s : Scene) (r : Rests s) (id b : ℕ) → IsBuilt s.mid.blaster id → length (lits_of s id) ≡ 8 → IsGivenTerm s.mid r.v id → b < 8
    → IsSome (r.v (bit_at (lits_of s id) b).var)
decided_bit s r id b built wide given few =
    let has : HasBits s.mid.blaster s.mid.pool s.mid.clauses id = s.encodes.keeps.known.terms id built in
    has.decided r.v (rest_mid s r) given b (record { var = 0; positive = false }) (omega (arith, few, wide))

-- what holds of each bit of each byte holds of all bits
by_bytes : (P : ℕ → Type 0) (count : ℕ) → ((j b : ℕ) → j < count → b < 8 → P (8 * j + b)) → (b : ℕ) → b < 8 * count → P b
by_bytes P count each b less =
    let whole : 8 * (b / 8) + b % 8 ≡ b = omega arith in
    subst P whole (each (b / 8) (b % 8) (omega (arith, less)) (omega arith))

abbrev HasValue : (s : Scene) → Rests s → Lit → Type 0
HasValue s r l = IsSome (r.v l.var)

initial_given : (s : Scene) (r : Rests s) (j : ℕ) → j < s.reading.count → IsGivenTerm s.mid r.v (initial_id s j)
initial_given s r j less =
    let address = (acc s s.reading.access).address.number in
    let many_terms = s.built.made.many in
    initial_term s r j less (initial_decided s.old.pool s.mid r.v s.setting.image address s.reading.index s.reading.count s.built.terms s.encodes.keeps.terms s.built.made
    (decided_of_one s.mid r.v address r.ready.address))
  where
    initial_term : (s : Scene) (r : Rests s) (j : ℕ) → j < s.reading.count → AllVariablesDecided s.mid r.v (numbers s.built.terms) → IsGivenTerm s.mid r.v (initial_id s j)
    initial_term s r j less all =
        let made = s.built.made.many in let wide = numbers_length s.built.terms in
        all (initial_id s j)
        (subst (Contains (numbers s.built.terms)) (numbers_at s.built.terms j (omega (arith, less, made)))
        (Contains-get_or (numbers s.built.terms) j 0 (omega (arith, less, made, wide))))

pub are_written : (s : Scene) (r : Rests s) → AreWritten r.v s.reader (lt_of s r)
are_written s r = let wide = read_length s in record {
  initial = λ (b : ℕ) (less : b < length s.reader.read).
      by_bytes (λ (n : ℕ). HasValue s r (bit_at s.reader.initial n)) s.reading.count
      (λ (j c : ℕ) (inside : j < s.reading.count) (few : c < 8).
      subst (HasValue s r) (sym (initial_bit s j c inside few))
      (decided_bit s r (initial_id s j) c (initial_built s j inside) (eight s (initial_id s j) (initial_built s j inside) (initial_width s j inside)) (initial_given s r j inside) few))
      b (omega (arith, less, wide));
  bits = λ (k b : ℕ) (less_k : k < length s.reader.candidates) (less : b < length s.reader.read) (e : lt_of s r (candidate_at s.reader.candidates k).at s.reader.at ≡ true).
      let inside_k = inside_spots s k less_k in
      by_bytes (λ (n : ℕ). HasValue s r (bit_at (candidate_at s.reader.candidates k).bits n)) s.reading.count
      (λ (j c : ℕ) (inside : j < s.reading.count) (few : c < 8).
      let there = (spot_is s k inside_k).source.there in
      let within = byte_within s k j inside_k inside in
      let id = written_id s (spot s k) j in
      subst (HasValue s r) (sym (candidate_bit s j k c inside inside_k few))
      (decided_bit s r id c (wrote s (spot s k).access ((spot s k).byte + j) there within)
      (eight s id (wrote s (spot s k).access ((spot s k).byte + j) there within) (wrote_width s (spot s k).access ((spot s k).byte + j) there within))
      ((older s r k inside_k e).writes ((spot s k).byte + j) within) few))
      b (omega (arith, less, wide));
}

-- what is read has values
pub reads_given : (s : Scene) (r : Rests s) (j : ℕ) → j < s.reading.count → IsGivenBits (new_of s) r.v (read_id s j)
reads_given s r j less = record {
  built = read_built s j less;
  decided = λ (b : ℕ) (d : Lit) (inside : b < length (lits_of s (read_id s j))).
      let wide = read_eight s j less in let long = read_length s in
      let few : b < 8 = omega (arith, inside, wide) in
      subst (HasValue s r) (get_or_any (lits_of s (read_id s j)) b (record { var = 0; positive = false }) d inside)
      (subst (HasValue s r) (read_bit s j b less few)
      (s.adds.reads r.v (lt_of s r) r.rest.rest (placed s r) (are_written s r) (8 * j + b) (omega (arith, few, less, long))));
}
