-- One part after another.
use Rattle.std.specs.Prelude.{◌≡◌, ℕ, ◌<◌, ◌≤◌, Bool, true, IsSome, List, [], ◌++◌, length, slice_index_or, Some, All}
use Rattle.std.proofs.Common.{sym, ◌∙◌, subst, refl, inl, inr, arith}
use Rattle.std.proofs.lemmas.Bool.{cases_lt}
use Rattle.std.proofs.lemmas.List.Elements.{All-append, All-contains, All-nil}
use Rattle.bv_terms.specs.Values.{Assignment as TermAssignment}
use Rattle.clause_store.specs.declared.lit.Lit.{Lit}
use Rattle.clause_store.specs.Literals.{Assignment}
use Rattle.clause_store.specs.UnitRule.{Partial}
use Rattle.clause_store.proofs.Growth.{older_at_rest}
use Rattle.clause_store.proofs.Members.{All-from_contains, All-left, All-right}
use Rattle.order_clauses.specs.declared.order_lit.OrderLit.TheVariants as order_lit
use Rattle.order_clauses.specs.Grid.{lit_in}
use Rattle.source_clauses.proofs.Alike.{spelled_alike}
use Rattle.bit_clauses.specs.Bits.{TermExtension}
use Rattle.bit_clauses.specs.Circuit.{DecidesAll}
use Rattle.bit_clauses.proofs.Blasted.{built_later, keeps_none}
use Rattle.encoder.specs.declared.encoder.Encoder.{Encoder}
use Rattle.encoder.specs.Encodes.{Keeps}
use Rattle.encoder.proofs.Encoding.{extends_then, grows_none, keeps_then, occurs_more, spells_older, terms_same, terms_then, variables_same}
use Rattle.thread_terms.specs.declared.access.Access.{Access}
use Rattle.term_sources.specs.Sees.{access_at, no_id}
use Rattle.formula_parts.specs.Order.{Setting, SpellsOrder}
use Rattle.formula_parts.specs.Facts.{AreGiven, Fact, Gives, Holds, Is, IsGivenAccess, IsGivenBits, IsGivenFact, IsGivenTerm, IsReady, Reads, Succeeds}
use Rattle.formula_parts.specs.Laws.{NoPart, PartsCompose, StandsOnLater}
use Rattle.formula_parts.specs.Parts.{Adds, AtRest, SpellsAll, StandsOn}

-- ---- what is said of an encoder is said of an older or of a later one

pub spells_later : (setting : Setting) (old new : Encoder) (t : TermAssignment) (w : Assignment) (lt : ℕ → ℕ → Bool) → Keeps old new
    → SpellsAll setting new t w lt → SpellsAll setting old t w lt
spells_later setting old new t w lt keeps s = record { spells = spells_older old new t w keeps s.spells; is_order = s.is_order; order = s.order }

pub rest_later : (setting : Setting) (old new : Encoder) (v : Partial) (lt : ℕ → ℕ → Bool) → Keeps old new → AtRest setting new v lt → AtRest setting old v lt
rest_later setting old new v lt keeps r = record { rest = older_at_rest old.clauses new.clauses v keeps.grows r.rest; is_order = r.is_order; order = r.order }

pub given_older : (old new : Encoder) (v : Partial) (id : ℕ) → Keeps old new → IsGivenTerm new v id → IsGivenTerm old v id
given_older old new v id keeps d width number first there found =
    d width number first (occurs_more old.pool new.pool width number id keeps.terms there) (keeps.bits.variables width number first found)

access_older : (old new : Encoder) (v : Partial) (access : Access) → Keeps old new → IsGivenAccess new v access → IsGivenAccess old v access
access_older old new v access keeps given = record {
  address = given_older old new v access.address.number keeps given.address;
  guard = given_older old new v access.guard.number keeps given.guard;
  reads = λ (i : ℕ) (within : i < length access.reads). given_older old new v (slice_index_or access.reads i no_id).number keeps (given.reads i within);
  writes = λ (m : ℕ) (within : m < length access.writes). given_older old new v (slice_index_or access.writes m no_id).number keeps (given.writes m within);
}

pub all_older : (setting : Setting) (old new : Encoder) (v : Partial) → Keeps old new → AreGiven setting new v → AreGiven setting old v
all_older setting old new v keeps given x there = access_older old new v (access_at setting.accesses x) keeps (given x there)

pub ready_older : (setting : Setting) (old new : Encoder) (v : Partial) (lt : ℕ → ℕ → Bool) (x : ℕ) → Keeps old new → IsReady setting new v lt x → IsReady setting old v lt x
ready_older setting old new v lt x keeps ready = record {
  older = λ (y : ℕ) (there : y < length setting.accesses) (before : lt y x ≡ true). access_older old new v (access_at setting.accesses y) keeps (ready.older y there before);
  address = given_older old new v (access_at setting.accesses x).address.number keeps ready.address;
}

bits_later : (old new : Encoder) (v : Partial) (id : ℕ) → Keeps old new → IsGivenBits old v id → IsGivenBits new v id
bits_later old new v id keeps given = record {
  built = built_later old.blaster new.blaster id keeps.bits given.built;
  decided = subst (λ (lits : List Lit). DecidesAll v lits) (sym (keeps.bits.terms id given.built)) given.decided;
}

gives_later : (setting : Setting) (old new : Encoder) (v : Partial) (lt : ℕ → ℕ → Bool) (fact : Fact) → Keeps old new → Gives setting old v lt fact → Gives setting new v lt fact
gives_later setting old new v lt (Reads x i) keeps gives = λ (ready : IsReady setting new v lt x).
    bits_later old new v (slice_index_or (access_at setting.accesses x).reads i no_id).number keeps (gives (ready_older setting old new v lt x keeps ready))
gives_later setting old new v lt (Succeeds x) keeps gives = λ (lr : ℕ) (link : (access_at setting.accesses x).link ≡ Some lr) (ready : IsReady setting new v lt x).
    bits_later old new v (access_at setting.accesses x).guard.number keeps (gives lr link (ready_older setting old new v lt x keeps ready))
gives_later setting old new v lt (Is term) keeps gives = tt

fact_older : (old new : Encoder) (v : Partial) (fact : Fact) → Keeps old new → IsGivenFact new v fact → IsGivenFact old v fact
fact_older old new v (Reads x i) keeps given = tt
fact_older old new v (Succeeds x) keeps given = tt
fact_older old new v (Is term) keeps given = given_older old new v term keeps given

-- ---- parts in a row

facts_older : (old new : Encoder) (v : Partial) (facts : List Fact) → Keeps old new → All (IsGivenFact new v) facts → All (IsGivenFact old v) facts
facts_older old new v facts keeps given =
    All-from_contains (IsGivenFact old v) facts (λ (fact : Fact) listed. fact_older old new v fact keeps (All-contains (IsGivenFact new v) facts fact given listed))

all_gives_later : (setting : Setting) (old new : Encoder) (v : Partial) (lt : ℕ → ℕ → Bool) (facts : List Fact) → Keeps old new
    → All (Gives setting old v lt) facts → All (Gives setting new v lt) facts
all_gives_later setting old new v lt facts keeps gives =
    All-from_contains (Gives setting new v lt) facts
    (λ (fact : Fact) listed. gives_later setting old new v lt fact keeps (All-contains (Gives setting old v lt) facts fact gives listed))

-- an extension of literals spells the order that the older ones do
pub order_extended : (setting : Setting) (encoder : Encoder) (w u : Assignment) (lt : ℕ → ℕ → Bool) → StandsOn setting encoder
    → ((x : ℕ) → x < encoder.clauses.vars → u x ≡ w x) → SpellsOrder w setting.places lt → SpellsOrder u setting.places lt
order_extended setting encoder w u lt stands agrees spells x y x_in y_in differ =
    let places = stands.places in
    spelled_alike encoder.clauses.vars w u agrees (lit_in setting.places.table (setting.places.place x) (setting.places.place y))
    (places.known (setting.places.place x) (setting.places.place y) (places.within x x_in) (places.within y y_in))
    ∙ spells x y x_in y_in differ

all_decides : (setting : Setting) (old between new : Encoder) (facts more : List Fact) → Adds setting old between facts → Adds setting between new more
    → (v : Partial) (lt : ℕ → ℕ → Bool) → AtRest setting new v lt → AreGiven setting new v → All (IsGivenFact new v) (facts ++ more)
    → (x : ℕ) → old.clauses.vars ≤ x → x < new.clauses.vars → IsSome (v x)
all_decides setting old between new facts more first second v lt rest given each x from below = elim (cases_lt x between.clauses.vars) [
  | inl less ↦ first.decides v lt (rest_later setting between new v lt second.keeps rest) (all_older setting between new v second.keeps given)
      (facts_older between new v facts second.keeps (All-left (IsGivenFact new v) facts more each)) x from less
  | inr above ↦ second.decides v lt rest given (All-right (IsGivenFact new v) facts more each) x above below
]

all_extends : (setting : Setting) (old between new : Encoder) (facts more : List Fact) → StandsOn setting old → Adds setting old between facts
    → Adds setting between new more → (w : Assignment) (t : TermAssignment) (lt : ℕ → ℕ → Bool) → SpellsAll setting old t w lt
    → All (Holds setting t lt) (facts ++ more) → TermExtension new.blaster t old.clauses.vars w new.clauses.clauses
all_extends setting old between new facts more stands first second w t lt spells holds =
    let e : TermExtension between.blaster t old.clauses.vars w between.clauses.clauses = first.extends w t lt spells (All-left (Holds setting t lt) facts more holds) in
    extends_then old between new t w first.keeps e
    (second.extends e.extended t lt (record {
      spells = record { satisfies = e.satisfies; agrees = e.spells };
      is_order = spells.is_order;
      order = order_extended setting old w e.extended lt stands e.agrees spells.order;
    }) (All-right (Holds setting t lt) facts more holds))

pub parts_then : PartsCompose
parts_then setting old between new facts more stands first second = record {
  keeps = keeps_then old between new first.keeps second.keeps;
  sound = λ (w : Assignment) (t : TermAssignment) (lt : ℕ → ℕ → Bool) (spells : SpellsAll setting new t w lt).
      All-append (Holds setting t lt) facts more (first.sound w t lt (spells_later setting between new t w lt second.keeps spells)) (second.sound w t lt spells);
  extends = all_extends setting old between new facts more stands first second;
  gives = λ (v : Partial) (lt : ℕ → ℕ → Bool) (rest : AtRest setting new v lt).
      All-append (Gives setting new v lt) facts more
      (all_gives_later setting between new v lt facts second.keeps (first.gives v lt (rest_later setting between new v lt second.keeps rest))) (second.gives v lt rest);
  decides = all_decides setting old between new facts more first second;
}

pub nothing : NoPart
nothing setting encoder stands = record {
  keeps = record { known = stands.known; terms = terms_same encoder.pool; variables = variables_same encoder.pool; bits = keeps_none encoder.blaster; grows = grows_none encoder.clauses };
  sound = λ (w : Assignment) (t : TermAssignment) (lt : ℕ → ℕ → Bool) (spells : SpellsAll setting encoder t w lt). All-nil (Holds setting t lt);
  extends = λ (w : Assignment) (t : TermAssignment) (lt : ℕ → ℕ → Bool) (s : SpellsAll setting encoder t w lt) (holds : All (Holds setting t lt) []).
      record { extended = w; agrees = λ x h. refl; satisfies = s.spells.satisfies; spells = s.spells.agrees };
  gives = λ (v : Partial) (lt : ℕ → ℕ → Bool) (rest : AtRest setting encoder v lt). All-nil (Gives setting encoder v lt);
  decides = λ (v : Partial) (lt : ℕ → ℕ → Bool) (rest : AtRest setting encoder v lt) (given : AreGiven setting encoder v) (each : All (IsGivenFact encoder v) [])
      (x : ℕ) (from : encoder.clauses.vars ≤ x) (below : x < encoder.clauses.vars). absurd (omega (arith, from, below));
}

pub places_later : (setting : Setting) (old new : Encoder) → Keeps old new → StandsOn setting old → StandsOn setting new
places_later setting old new keeps stands =
    let places = stands.places in let more = keeps.grows.vars in let longer = stands.terms.grows in record {
      known = keeps.known;
      terms = terms_then setting.nodes old.pool new.pool stands.terms keeps.terms;
      variables = λ width number id inside there. stands.variables width number id inside (keeps.variables width number id (omega (arith, inside, longer)) there);
      places = record {
        square = places.square;
        known = λ (i j : ℕ) (i_in : i < setting.places.table.count) (j_in : j < setting.places.table.count) (l : Lit) (e : lit_in setting.places.table i j ≡ order_lit.Is l).
            let older = places.known i j i_in j_in l e in omega (arith, older, more);
        within = places.within;
        own = places.own;
        each = places.each;
      };
    }

pub stands_later : StandsOnLater
stands_later setting old new facts stands adds = places_later setting old new adds.keeps stands
