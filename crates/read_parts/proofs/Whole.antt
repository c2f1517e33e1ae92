-- The clauses of a built reader are a part.
use Rattle.std.specs.Prelude.{◌≡◌, ℕ, zero, suc, ◌+◌, ◌<◌, ◌≤◌, Bool, true, IsSome, List, [], ◌∷◌, ◌++◌, All, length, slice_index_or}
use Rattle.std.proofs.Common.{sym, ◌∙◌, subst, inl, inr, arith}
use Rattle.std.proofs.lemmas.Bool.{cases_lt}
use Rattle.std.proofs.lemmas.List.Elements.{All-contains, All-nil, All-push, Contains-append_cases}
use Rattle.bv_terms.specs.Values.{Assignment as TermAssignment}
use Rattle.clause_store.specs.Literals.{Assignment}
use Rattle.clause_store.specs.Formula.{Extension}
use Rattle.clause_store.specs.UnitRule.{Partial}
use Rattle.clause_store.proofs.Growth.{older_at_rest}
use Rattle.clause_store.proofs.Members.{All-left, All-right, Contains-cons_cases, Contains-head, Contains-nil}
use Rattle.bv_terms.specs.declared.node.TermId.{TermId}
use Rattle.encoder.proofs.Encoding.{one_of}
use Rattle.term_sources.specs.Sees.{no_id}
use Rattle.bit_clauses.specs.Bits.{Agrees, TermExtension, run}
use Rattle.bit_clauses.proofs.Blasted.{run_known, spelled_agrees}
use Rattle.encoder.specs.Encodes.{AllVariablesDecided}
use Rattle.formula_parts.specs.Facts.{AreGiven, Fact, Gives, Holds, IsGivenFact, IsGivenTerm, IsReady, Reads}
use Rattle.formula_parts.specs.Parts.{Adds, AtRest, SpellsAll}
use Rattle.formula_parts.proofs.Composing.{all_older, order_extended, ready_older, spells_later}
use Rattle.reader_parts.specs.declared.reading.Spot.{Spot}
use Rattle.reader_parts.specs.Conditions.{hit_parts}
use Rattle.reader_parts.specs.Readings.{all_spot_parts, read_parts, reader_parts, run_of, spot_parts, written_parts}
use Rattle.read_parts.specs.Reads.{IsSpot, ReadersAreParts, reads_from, reads_of}
use Rattle.read_parts.proofs.Deciding.{Rests, lt_of, placed, reads_given}
use Rattle.read_parts.proofs.Scenes.{Scene, acc, keeps_all, mid_to_new, new_of}
use Rattle.read_parts.proofs.Spelling.{SeesAll, Told, reader_sees, spells_strict}

-- ---- the facts of a reading

all_reads : (P : Fact → Type 0) (x index count : ℕ) → ((j : ℕ) → j < count → P (Reads x (index + j))) → All P (reads_from x index count)
all_reads P x index zero each = All-nil P
all_reads P x index (suc count) each =
    All-push P (reads_from x index count) (Reads x (index + count)) (all_reads P x index count (λ (j : ℕ) (less : j < count). each j (omega (arith, less)))) (each count (omega arith))

read_of_all : (P : Fact → Type 0) (x index count j : ℕ) → All P (reads_from x index count) → j < count → P (Reads x (index + j))
read_of_all P x index zero j all less = absurd (omega (arith, less))
read_of_all P x index (suc count) j all less = elim (cases_lt j count) [
  | inl inside ↦ read_of_all P x index count j (All-left P (reads_from x index count) (Reads x (index + count) ∷ []) all) inside
  | inr above ↦
      let last : j ≡ count = omega (arith, above, less) in
      subst (λ (n : ℕ). P (Reads x (index + n))) (sym last)
      (All-contains P (Reads x (index + count) ∷ []) (Reads x (index + count)) (All-right P (reads_from x index count) (Reads x (index + count) ∷ []) all) (Contains-head (Reads x (index + count)) []))
]

-- ---- what is said

abbrev told_of : (s : Scene) (w : Assignment) (t : TermAssignment) (lt : ℕ → ℕ → Bool) → SpellsAll s.setting (new_of s) t w lt → Told s
told_of s w t lt spells = record { w = w; t = t; lt = lt; spells = spells_later s.setting s.mid (new_of s) t w lt (mid_to_new s) spells }

sound : (s : Scene) (w : Assignment) (t : TermAssignment) (lt : ℕ → ℕ → Bool) → SpellsAll s.setting (new_of s) t w lt → All (Holds s.setting t lt) (reads_of s.reading)
sound s w t lt spells =
    let told = told_of s w t lt spells in
    let all : SeesAll s told = (reader_sees s told).0 (s.adds.sound w spells.spells.satisfies (spells_strict s told)) in
    all_reads (Holds s.setting t lt) s.reading.access s.reading.index s.reading.count all

-- literals of variables keep their values where older variables do
agrees_on : (s : Scene) (t : TermAssignment) (w u : Assignment) → ((x : ℕ) → x < s.mid.clauses.vars → u x ≡ w x) → Agrees s.mid.blaster t w → Agrees s.mid.blaster t u
agrees_on s t w u same agrees width number first found =
    spelled_agrees w u s.mid.clauses.vars (run first width) same (run_known first width s.mid.clauses.vars (s.encodes.keeps.known.variables width number first found))
    ∙ agrees width number first found

extends : (s : Scene) (w : Assignment) (t : TermAssignment) (lt : ℕ → ℕ → Bool) → SpellsAll s.setting s.old t w lt → All (Holds s.setting t lt) (reads_of s.reading)
    → TermExtension s.mid.blaster t s.old.clauses.vars w s.after.clauses
extends s w t lt spells holds =
    let e : TermExtension s.mid.blaster t s.old.clauses.vars w s.mid.clauses.clauses = s.encodes.extends w t spells.spells in
    let told : Told s = record {
      w = e.extended;
      t = t;
      lt = lt;
      spells = record {
        spells = record { satisfies = e.satisfies; agrees = e.spells };
        is_order = spells.is_order;
        order = order_extended s.setting s.old w e.extended lt s.can.stands e.agrees spells.order;
      };
    } in
    let sees = (reader_sees s told).1 (λ (j : ℕ) (less : j < s.reading.count). read_of_all (Holds s.setting t lt) s.reading.access s.reading.index s.reading.count j holds less) in
    let f : Extension s.mid.clauses.vars e.extended s.after.clauses = s.adds.extends e.extended e.satisfies sees in
    let more = s.encodes.keeps.grows.vars in record {
      extended = f.extended;
      agrees = λ (x : ℕ) (below : x < s.old.clauses.vars). f.agrees x (omega (arith, below, more)) ∙ e.agrees x below;
      satisfies = f.satisfies;
      spells = agrees_on s t e.extended f.extended f.agrees e.spells;
    }

-- ---- what is given

gives : (s : Scene) (v : Partial) (lt : ℕ → ℕ → Bool) → AtRest s.setting (new_of s) v lt → All (Gives s.setting (new_of s) v lt) (reads_of s.reading)
gives s v lt rest =
    all_reads (Gives s.setting (new_of s) v lt) s.reading.access s.reading.index s.reading.count
    (λ (j : ℕ) (less : j < s.reading.count) (ready : IsReady s.setting (new_of s) v lt s.reading.access).
    reads_given s (record { v = v; lt = lt; rest = rest; ready = ready_older s.setting s.mid (new_of s) v lt s.reading.access (mid_to_new s) ready }) j less)

-- the terms of a run are given where all terms of a list are
run_given : (s : Scene) (v : Partial) (ids : List TermId) (first count : ℕ) → first + count ≤ length ids
    → ((m : ℕ) → m < length ids → IsGivenTerm s.mid v (slice_index_or ids m no_id).number) → AllVariablesDecided s.mid v (run_of ids first count)
run_given s v ids first zero most each id listed = absurd (Contains-nil id listed)
run_given s v ids first (suc count) most each id listed =
    elim (Contains-append_cases (run_of ids first count) ((slice_index_or ids (first + count) no_id).number ∷ []) id listed) [
      | inl earlier ↦ run_given s v ids first count (omega (arith, most)) each id earlier
      | inr last ↦ subst (IsGivenTerm s.mid v) (one_of (slice_index_or ids (first + count) no_id).number id last) (each (first + count) (omega (arith, most)))
    ]

spots_given : (s : Scene) (v : Partial) → AreGiven s.setting s.mid v → (spots : List Spot) → All (IsSpot s.setting s.reading) spots
    → AllVariablesDecided s.mid v (all_spot_parts s.setting.accesses s.reading spots)
spots_given s v given [] are id listed = absurd (Contains-nil id listed)
spots_given s v given (one ∷ more) are id listed =
    let is : IsSpot s.setting s.reading one = All-contains (IsSpot s.setting s.reading) (one ∷ more) one are (Contains-head one more) in
    let writer = given one.access is.source.there in
    let reader = given s.reading.access s.can.reads.there in
    elim (Contains-append_cases (spot_parts s.setting.accesses s.reading one) (all_spot_parts s.setting.accesses s.reading more) id listed) [
      | inl here ↦ elim (Contains-append_cases (hit_parts (acc s one.access) (acc s s.reading.access)) (written_parts s.setting.accesses s.reading one) id here) [
        | inl test ↦ three (acc s one.access).guard.number (acc s one.access).address.number (acc s s.reading.access).address.number writer.guard writer.address reader.address id test
        | inr bits ↦ run_given s v (acc s one.access).writes one.byte s.reading.count is.source.within writer.writes id bits
      ]
      | inr later ↦ spots_given s v given more (All-right (IsSpot s.setting s.reading) (one ∷ []) more are) id later
    ]
  where
    three : (a b c : ℕ) → IsGivenTerm s.mid v a → IsGivenTerm s.mid v b → IsGivenTerm s.mid v c → AllVariablesDecided s.mid v (a ∷ b ∷ c ∷ [])
    three a b c of_a of_b of_c x there = elim (Contains-cons_cases a (b ∷ c ∷ []) x there) [
      | inl e ↦ subst (IsGivenTerm s.mid v) e of_a
      | inr rest ↦ elim (Contains-cons_cases b (c ∷ []) x rest) [
        | inl e ↦ subst (IsGivenTerm s.mid v) e of_b
        | inr last ↦ elim (Contains-cons_cases c [] x last) [
          | inl e ↦ subst (IsGivenTerm s.mid v) e of_c
          | inr none ↦ absurd (Contains-nil x none)
        ]
      ]
    ]

parts_given : (s : Scene) (v : Partial) → AreGiven s.setting s.mid v → AllVariablesDecided s.mid v (reader_parts s.setting.accesses s.reading s.spots)
parts_given s v given id listed =
    let reader = given s.reading.access s.can.reads.there in
    elim (Contains-append_cases (all_spot_parts s.setting.accesses s.reading s.spots)
    (read_parts s.setting.accesses s.reading ++ (acc s s.reading.access).address.number ∷ []) id listed) [
      | inl of_spots ↦ spots_given s v given s.spots s.can.sources id of_spots
      | inr rest ↦ elim (Contains-append_cases (read_parts s.setting.accesses s.reading) ((acc s s.reading.access).address.number ∷ []) id rest) [
        | inl read ↦ run_given s v (acc s s.reading.access).reads s.reading.index s.reading.count s.can.reads.within reader.reads id read
        | inr address ↦ subst (IsGivenTerm s.mid v) (one_of (acc s s.reading.access).address.number id address) reader.address
      ]
    ]

-- where all accesses are given, what stands before one is
ready_of_all : (s : Scene) (v : Partial) (lt : ℕ → ℕ → Bool) → AreGiven s.setting s.mid v → IsReady s.setting s.mid v lt s.reading.access
ready_of_all s v lt given = record {
  older = λ (y : ℕ) (there : y < length s.setting.accesses) (before : lt y s.reading.access ≡ true). given y there;
  address = (given s.reading.access s.can.reads.there).address;
}

decides : (s : Scene) (v : Partial) (lt : ℕ → ℕ → Bool) → AtRest s.setting (new_of s) v lt → AreGiven s.setting (new_of s) v → (x : ℕ)
    → s.old.clauses.vars ≤ x → x < s.after.vars → IsSome (v x)
decides s v lt rest given x from below =
    let earlier : AreGiven s.setting s.mid v = all_older s.setting s.mid (new_of s) v (mid_to_new s) given in
    elim (cases_lt x s.mid.clauses.vars) [
      | inl less ↦ s.encodes.decides v (older_at_rest s.mid.clauses s.after v s.adds.grows rest.rest) (parts_given s v earlier) x from less
      | inr above ↦
          let r : Rests s = record { v = v; lt = lt; rest = rest; ready = ready_of_all s v lt earlier } in
          s.adds.decides v (lt_of s r) rest.rest (placed s r) x above below
    ]

whole : (s : Scene) → Adds s.setting s.old (new_of s) (reads_of s.reading)
whole s = record {
  keeps = keeps_all s;
  sound = sound s;
  extends = extends s;
  gives = gives s;
  decides = λ (v : Partial) (lt : ℕ → ℕ → Bool) (rest : AtRest s.setting (new_of s) v lt) (given : AreGiven s.setting (new_of s) v)
      (each : All (IsGivenFact (new_of s) v) (reads_of s.reading)) (x : ℕ) (from : s.old.clauses.vars ≤ x) (below : x < s.after.vars). decides s v lt rest given x from below;
}

pub readers_whole : ReadersAreParts
readers_whole setting old mid after reading spots reader can encodes built adds = whole (record {
  setting = setting;
  old = old;
  mid = mid;
  after = after;
  reading = reading;
  spots = spots;
  reader = reader;
  can = can;
  encodes = encodes;
  built = built;
  adds = adds;
})
