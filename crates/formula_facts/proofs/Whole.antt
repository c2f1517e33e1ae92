-- All facts of a formula, added one after another.
use Rattle.std.specs.Prelude.{◌≡◌, ◌<◌, ℕ, List, [], ◌++◌, All, length}
use Rattle.std.proofs.Common.{sym, ◌∙◌, subst, arith}
use Rattle.std.proofs.lemmas.List.Elements.{All-from_get_or}
use Rattle.elf_image.specs.Layout.{Layout}
use Rattle.bv_terms.specs.declared.node.TermId.{TermId}
use Rattle.bv_terms.specs.Shapes.{Shape}
use Rattle.bv_terms.specs.Values.{KeepsTerms}
use Rattle.encoder.specs.declared.encoder.Encoder.{Encoder}
use Rattle.encoder.specs.Encodes.{Encodes}
use Rattle.step_terms.specs.Made.{IsTerm}
use Rattle.thread_terms.specs.declared.access.Access.{Access}
use Rattle.term_sources.specs.Sees.{access_at, no_access, no_id}
use Rattle.read_clauses.specs.Readers.{AreWritten}
use Rattle.formula_parts.specs.Order.{Setting}
use Rattle.formula_parts.specs.Parts.{Adds, StandsOn}
use Rattle.formula_parts.proofs.Composing.{parts_then, stands_later}
use Rattle.reader_parts.specs.Conditions.{HasTerms}
use Rattle.reader_parts.proofs.Later.{all_have_later}
use Rattle.written_parts.specs.Written.{WriteBytes, written_terms}
use Rattle.written_parts.proofs.Writing.{parts}
use Rattle.formula_facts.specs.declared.known.Known.{Known}
use Rattle.formula_facts.specs.All.{AddsAll, CanAddAll}
use Rattle.formula_facts.specs.Constraints.{AddsConstraints, facts_of}
use Rattle.formula_facts.specs.Known.{AddsFacts, CanAdd, IsKnownIn, IsReadyFor, all_outcomes, all_reads}
use Rattle.formula_facts.proofs.Adding.{ready_later}

term_later : (old new : List Shape) (bits id : ℕ) → KeepsTerms old new → IsTerm old bits id → IsTerm new bits id
term_later old new bits id keeps term = let inside = term.inside in let longer = keeps.grows in
    record { inside = omega (arith, inside, longer); width = keeps.width id term.inside ∙ term.width }

-- ---- before anything is added

pub begins_terms : (image : Layout) (known : Known) (encoder : Encoder) (constraints : List TermId) → CanAddAll image known encoder constraints → All (HasTerms encoder.pool) known.accesses
begins_terms image known encoder constraints can =
    subst (All (HasTerms encoder.pool)) can.is.accesses_are
    (all_have_later can.setting.nodes encoder.pool can.setting.accesses can.stands.terms can.is.typed.terms)

writes_bytes : (setting : Setting) (known : Known) (encoder : Encoder) → IsKnownIn setting known → StandsOn setting encoder → WriteBytes encoder.pool setting.accesses
writes_bytes setting known encoder is stands =
    All-from_get_or (λ (access : Access). All (λ (id : TermId). IsTerm encoder.pool 8 id.number) access.writes) setting.accesses no_access
    (λ (y : ℕ) (there : y < length setting.accesses).
    All-from_get_or (λ (id : TermId). IsTerm encoder.pool 8 id.number) (access_at setting.accesses y).writes no_id
    (λ m within. term_later setting.nodes encoder.pool 8 _ stands.terms (is.typed.written y m there within)))

-- what a call says that gave literals to the bytes that are written
pub record IsBegun (known : Known) (old new : Encoder) : Type 0 where
  pub encodes : Encodes old new (written_terms known.accesses)
  pub written : WriteBytes old.pool known.accesses → AreWritten new known.accesses

-- the call was given a slice
pub begun_by : (known : Known) (slice : List Access) (old new : Encoder) → slice ≡ known.accesses → Encodes old new (written_terms slice)
    → (WriteBytes old.pool slice → AreWritten new slice) → IsBegun known old new
begun_by known slice old new same encodes written = record {
  encodes = subst (λ (xs : List Access). Encodes old new (written_terms xs)) same encodes;
  written = subst (λ (xs : List Access). WriteBytes old.pool xs → AreWritten new xs) same written;
}

begun_adds : (setting : Setting) (known : Known) (old new : Encoder) → IsKnownIn setting known → StandsOn setting old → IsBegun known old new → Adds setting old new []
begun_adds setting known old new is stands begun =
    parts setting old new stands (subst (λ (accesses : List Access). Encodes old new (written_terms accesses)) (sym is.accesses_are) begun.encodes)

begun_ready : (setting : Setting) (known : Known) (old new : Encoder) → IsKnownIn setting known → StandsOn setting old → IsBegun known old new → IsReadyFor setting new
begun_ready setting known old new is stands begun = record {
  stands = stands_later setting old new [] stands (begun_adds setting known old new is stands begun);
  written = subst (AreWritten new) (sym is.accesses_are) (begun.written (subst (WriteBytes old.pool) is.accesses_are (writes_bytes setting known old is stands)));
}

pub can_begin : (image : Layout) (known : Known) (old new : Encoder) (constraints : List TermId) → CanAddAll image known old constraints → IsBegun known old new → CanAdd image known new
can_begin image known old new constraints can begun = record {
  setting = can.setting;
  image_is = can.image_is;
  is = can.is;
  ready = begun_ready can.setting known old new can.is can.stands begun;
}

-- ---- all of it

-- encoders from the first to the last, and what was added between them
pub record Added (image : Layout) (known : Known) (old begun read decided new : Encoder) (constraints : List TermId) : Type 0 where
  pub begins : IsBegun known old begun
  pub reads : AddsFacts image known begun read (all_reads known.accesses (length known.accesses))
  pub outcomes : AddsFacts image known read decided (all_outcomes known.accesses (length known.accesses))
  pub constraints_are : AddsConstraints decided new constraints

pub added : (image : Layout) (known : Known) (old begun read decided new : Encoder) (constraints : List TermId) → Added image known old begun read decided new constraints
    → AddsAll image known old new constraints
added image known old begun read decided new constraints of setting is_image is stands inside =
    let all = all_reads known.accesses (length known.accesses) in
    let outs = all_outcomes known.accesses (length known.accesses) in
    let first : Adds setting old begun [] = begun_adds setting known old begun is stands of.begins in
    let ready : IsReadyFor setting begun = begun_ready setting known old begun is stands of.begins in
    let second : Adds setting begun read all = of.reads setting is_image is ready in
    let later : IsReadyFor setting read = ready_later setting begun read all is.typed ready second in
    let third : Adds setting read decided outs = of.outcomes setting is_image is later in
    let last : IsReadyFor setting decided = ready_later setting read decided outs is.typed later third in
    let fourth : Adds setting decided new (facts_of constraints) = of.constraints_are setting last.stands inside in
    parts_then setting old begun new [] (all ++ (outs ++ facts_of constraints)) stands first
    (parts_then setting begun read new all (outs ++ facts_of constraints) ready.stands second
    (parts_then setting read decided new outs (facts_of constraints) later.stands third fourth))

-- ---- before constraints are required

pub decided_ready : (image : Layout) (known : Known) (old begun read decided : Encoder) (constraints : List TermId) (can : CanAddAll image known old constraints)
    → IsBegun known old begun → AddsFacts image known begun read (all_reads known.accesses (length known.accesses))
    → AddsFacts image known read decided (all_outcomes known.accesses (length known.accesses)) → IsReadyFor can.setting decided
decided_ready image known old begun read decided constraints can begins reads outcomes =
    let all = all_reads known.accesses (length known.accesses) in
    let outs = all_outcomes known.accesses (length known.accesses) in
    let ready : IsReadyFor can.setting begun = begun_ready can.setting known old begun can.is can.stands begins in
    let later : IsReadyFor can.setting read = ready_later can.setting begun read all can.is.typed ready (reads can.setting can.image_is can.is ready) in
    ready_later can.setting read decided outs can.is.typed later (outcomes can.setting can.image_is can.is later)

pub bits_later : (setting : Setting) (encoder : Encoder) (constraints : List TermId) → IsReadyFor setting encoder → All (λ (id : TermId). IsTerm setting.nodes 1 id.number) constraints
    → All (λ (id : TermId). IsTerm encoder.pool 1 id.number) constraints
bits_later setting encoder constraints ready bits k d less = term_later setting.nodes encoder.pool 1 _ ready.stands.terms (bits k d less)
