-- What stays where the pool and the list of accesses grow.
use Rattle.std.proofs.Common.{◌≡◌, ℕ, zero, suc, List, [], ◌∷◌, ◌++◌, cond, refl, sym, ◌∙◌, ap, inl, inr, nat_eq}
use Rattle.std.specs.Prelude.{All, Option, Some, None, slice_get}
use Rattle.std.proofs.lemmas.List.Elements.{All-head, All-tail, All-weaker, Contains-append_left}
use Rattle.std.proofs.lemmas.Option.{none-some, slice_get_within}
use Rattle.elf_image.specs.declared.write.Write.{Write}
use Rattle.elf_image.specs.Layout.{Layout}
use Rattle.elf_image.specs.Memory.{writes_of}
use Rattle.odr_log.specs.declared.log.Log.{Log}
use Rattle.odr_log.specs.declared.log.Pos.{Pos}
use Rattle.rv_model.specs.RecordedOrder.{Counted, More, One}
use Rattle.rv_model.specs.Walk.{Walk}
use Rattle.bv_terms.specs.declared.node.TermId.{TermId}
use Rattle.bv_terms.specs.Shapes.{Shape, Var}
use Rattle.bv_terms.specs.Values.{Assignment, value_at}
use Rattle.bv_terms.specs.Variables.{Here, Inside, Occurs}
use Rattle.guided_walk.specs.Flow.{CountedFlow, Flow}
use Rattle.guided_walk.specs.Guided.{Visit}
use Rattle.step_terms.specs.Bytes.{AreBytes, values}
use Rattle.step_terms.specs.Made.{Grows, IsTerm}
use Rattle.step_terms.proofs.Making.{stays}
use Rattle.thread_terms.specs.declared.access.Access.{Access}
use Rattle.thread_terms.specs.Standing.{AreRegisters}
use Rattle.thread_terms.specs.Steps.{HasVariables, RegistersHave, StandsBefore}
use Rattle.thread_terms.specs.Variables.{AreVariables, IsVariable, byte_number}
use Rattle.thread_terms.proofs.Standing.{stand_stays}
use Rattle.guided_walk.specs.Guided.{Seen}
use Rattle.access_terms.proofs.Own.{older_registers}
use Rattle.path_exec.specs.Links.{LinksTo}
use Rattle.path_exec.specs.Paths.{IsListed, IsOfEarlier, IsOfEarlierOr, IsOfOne, IsShown, Meets}

-- ---- variables

pub of_one_more : (accesses more : List Access) (width number : ℕ) → IsOfOne accesses width number → IsOfOne (accesses ++ more) width number
of_one_more accesses more width number of = record { access = of.access; listed = Contains-append_left accesses more of.access of.listed; is = of.is }

pub earlier_more : (log : Log) (accesses more : List Access) (p : Pos) (width number : ℕ) → IsOfEarlier log accesses p width number → IsOfEarlier log (accesses ++ more) p width number
earlier_more log accesses more p width number of = record { access = of.access; listed = Contains-append_left accesses more of.access of.listed; is = of.is; flows = of.flows }

pub earlier_is_one : (log : Log) (accesses : List Access) (p : Pos) (width number : ℕ) → IsOfEarlier log accesses p width number → IsOfOne accesses width number
earlier_is_one log accesses p width number of = record { access = of.access; listed = of.listed; is = of.is }

pub earlier_or_more : (log : Log) (accesses more : List Access) (access : Access) (width number : ℕ) → IsOfEarlierOr log accesses access width number → IsOfEarlierOr log (accesses ++ more) access width number
earlier_or_more log accesses more access width number (inl of) = inl (earlier_more log accesses more access.pos width number of)
earlier_or_more log accesses more access width number (inr own) = inr own

pub flow_then : (log : Log) (p q r : Pos) → Flow log p q → CountedFlow log q r → Flow log p r
flow_then log p q r (One e) f = More e (One f)
flow_then log p q r (More {q = x} e rest) f = More e (flow_then log x q r rest f)

-- what flows to a step flows on from it
pub earlier_on : (log : Log) (accesses : List Access) (p q : Pos) (width number : ℕ) → (Counted log q → Counted log p × CountedFlow log p q) → IsOfEarlier log accesses p width number → IsOfEarlier log accesses q width number
earlier_on log accesses p q width number edge of = record {
  access = of.access;
  listed = of.listed;
  is = of.is;
  flows = λ counted. let e = edge counted in flow_then log of.access.pos p q (of.flows e.0) e.1;
}

pub have_kept : (P Q : ℕ → ℕ → Type 0) (old new : List Shape) (k id : ℕ) → Grows old new → IsTerm old k id → ((width number : ℕ) → P width number → Q width number) → HasVariables P old id → HasVariables Q new id
have_kept P Q old new k id grows term weaker have width number there = weaker width number (have width number (grows.variables width number id term.inside there))

pub registers_have_kept : (P Q : ℕ → ℕ → Type 0) (old new : List Shape) (registers : List TermId) → Grows old new → AreRegisters old registers → ((width number : ℕ) → P width number → Q width number)
    → RegistersHave P old registers → RegistersHave Q new registers
registers_have_kept P Q old new registers grows are weaker have width number there = weaker width number (have width number (older_registers old new registers grows are width number there))

-- a variable that occurs in a term occurs in it later too
pub occurs_more : (old new : List Shape) (width number id : ℕ) → Grows old new → Occurs old width number id → Occurs new width number id
occurs_more old new width number _ grows (Here id e) = Here id (grows.terms.node id (slice_get_within old id (Var width number) e) ∙ e)
occurs_more old new width number _ grows (Inside id child node e has there) =
    Inside id child node (grows.terms.node id (slice_get_within old id node e) ∙ e) has (occurs_more old new width number child grows there)

-- ---- values

pub values_kept : (w : Assignment) (old new : List Shape) (ids : List TermId) → Grows old new → AreBytes old ids → values w new ids ≡ values w old ids
values_kept w old new [] grows are = refl
values_kept w old new (id ∷ ids) grows are =
    ap (λ v. v ∷ values w new ids) (grows.terms.value w id.number (All-head (λ (t : TermId). IsTerm old 8 t.number) id ids are).inside)
    ∙ ap (λ l. value_at w old id.number ∷ l) (values_kept w old new ids grows (All-tail (λ (t : TermId). IsTerm old 8 t.number) id ids are))

pub bytes_kept : (old new : List Shape) (ids : List TermId) → Grows old new → AreBytes old ids → AreBytes new ids
bytes_kept old new ids grows are = All-weaker (λ (t : TermId). IsTerm old 8 t.number) (λ (t : TermId). IsTerm new 8 t.number) (λ t is. stays old new 8 t.number grows is) ids are

pub bits_kept : (old new : List Shape) (ids : List TermId) → Grows old new → All (λ (t : TermId). IsTerm old 1 t.number) ids → All (λ (t : TermId). IsTerm new 1 t.number) ids
bits_kept old new ids grows are = All-weaker (λ (t : TermId). IsTerm old 1 t.number) (λ (t : TermId). IsTerm new 1 t.number) (λ t is. stays old new 1 t.number grows is) ids are

pub meets_kept : (w : Assignment) (old new : List Shape) (ids : List TermId) → Grows old new → All (λ (t : TermId). IsTerm old 1 t.number) ids
    → (Meets w old ids → Meets w new ids) × (Meets w new ids → Meets w old ids)
meets_kept w old new ids grows are = (
  λ meets k d lt. grows.terms.value w _ (are k d lt).inside ∙ meets k d lt,
  λ meets k d lt. sym (grows.terms.value w _ (are k d lt).inside) ∙ meets k d lt,
)

-- ---- accesses

abbrev writes_by : ℕ → ℕ → List ℕ → List Write
writes_by guard address bytes = cond (nat_eq guard 1) (writes_of address bytes []) []

pub shown_kept : (image : Layout) (w : Assignment) (old new : List Shape) (access : Access) (visit : Visit) → Grows old new → IsTerm old 32 access.address.number → IsTerm old 1 access.guard.number
    → AreBytes old access.writes → IsShown image w old access visit → IsShown image w new access visit
shown_kept image w old new access visit grows address guard writes shown =
    let same_address : value_at w new access.address.number ≡ value_at w old access.address.number = grows.terms.value w access.address.number address.inside in
    let same_guard : value_at w new access.guard.number ≡ value_at w old access.guard.number = grows.terms.value w access.guard.number guard.inside in
    record {
      address = same_address ∙ shown.address;
      reads = shown.reads;
      writes = shown.writes
          ∙ sym (ap (λ g. writes_by g (value_at w new access.address.number) (values w new access.writes)) same_guard
          ∙ ap (λ a. writes_by (value_at w old access.guard.number) a (values w new access.writes)) same_address
          ∙ ap (writes_by (value_at w old access.guard.number) (value_at w old access.address.number)) (values_kept w old new access.writes grows writes));
    }

pub get_front : (xs ys : List Access) (i : ℕ) (x : Access) → slice_get xs i ≡ Some x → slice_get (xs ++ ys) i ≡ Some x
get_front [] ys i x e = absurd (none-some x e)
get_front (y ∷ xs) ys zero x e = e
get_front (y ∷ xs) ys (suc i) x e = get_front xs ys i x e

pub links_more : (accesses more : List Access) (thread : ℕ) (place step : Option ℕ) → LinksTo accesses thread place step → LinksTo (accesses ++ more) thread place step
links_more accesses more thread None None links = tt
links_more accesses more thread (Some place) (Some step) links = (links.0, get_front accesses more place links.0 links.1, links.2)
links_more accesses more thread None (Some step) links = absurd links
links_more accesses more thread (Some place) None links = absurd links

variable_stays : (old new : List Shape) (bits named id : ℕ) → Grows old new → IsVariable old bits named id → IsVariable new bits named id
variable_stays old new bits named id grows is = record {
  term = stays old new bits id grows is.term;
  node = grows.terms.node id is.term.inside ∙ is.node;
  value = λ w. grows.terms.value w id is.term.inside ∙ is.value w;
}

pub variables_kept : (old new : List Shape) (p : Pos) (ids : List TermId) → Grows old new → AreVariables old p ids → AreVariables new p ids
variables_kept old new p ids grows are index h = variable_stays old new 8 (byte_number p.thread p.step index) _ grows (are index h)

pub listed_kept : (log : Log) (walk : Walk) (old new : List Shape) (accesses more : List Access) (access : Access) → Grows old new → IsListed log walk old accesses access → IsListed log walk new (accesses ++ more) access
listed_kept log walk old new accesses more access grows is = record {
  counted = is.counted;
  address = stays old new 32 access.address.number grows is.address;
  address_from = have_kept (IsOfEarlier log accesses access.pos) (IsOfEarlier log (accesses ++ more) access.pos) old new 32 access.address.number grows is.address
      (λ width number. earlier_more log accesses more access.pos width number) is.address_from;
  guard = grows.terms.node access.guard.number is.guard_bit.inside ∙ is.guard;
  guard_bit = stays old new 1 access.guard.number grows is.guard_bit;
  read_many = is.read_many;
  reads = variables_kept old new access.pos access.reads grows is.reads;
  write_many = is.write_many;
  writes = bytes_kept old new access.writes grows is.writes;
  writes_from = λ k d lt. have_kept (IsOfEarlierOr log accesses access) (IsOfEarlierOr log (accesses ++ more) access) old new 8 _ grows (is.writes k d lt)
      (λ width number. earlier_or_more log accesses more access width number) (is.writes_from k d lt);
  linked = λ e. links_more accesses more access.pos.thread access.link _ (is.linked e);
  unlinked = is.unlinked;
}

-- ---- threads

pub stands_kept : (w : Assignment) (old new : List Shape) (registers : List TermId) (pc : ℕ) (link : Option ℕ) (seen : Seen) → Grows old new → AreRegisters old registers
    → StandsBefore w old registers pc link seen → StandsBefore w new registers pc link seen
stands_kept w old new registers pc link seen grows are before = record { stand = stand_stays w old new registers seen.local grows are before.stand; at = before.at; linked = before.linked }
