-- Each of a walk's accesses has its shape.
use Rattle.std.specs.Prelude.{◌≡◌, ℕ, ◌<◌, ◌^◌, Bool, true, false, ◌&&◌, not, nat_eq, Option, None, Some, is_some, List, [], ◌∷◌, ◌++◌, All, length, map, option_and_then, option_map, slice_get, if◌then◌else◌}
use Rattle.std.proofs.Common.{sym, ◌∙◌, ap, subst, refl, inl, inr, arith}
use Rattle.std.proofs.lemmas.Bool.{eqb-true, false≢true, true≢false}
use Rattle.std.proofs.lemmas.List.{get_or-map, length-map, map_push}
use Rattle.std.proofs.lemmas.List.Elements.{All-nil, All-push}
use Rattle.odr_log.specs.declared.log.Log.{Log}
use Rattle.odr_log.specs.declared.log.Pos.{Pos}
use Rattle.rv32_decode.specs.declared.instr.Instr.{Instr}
use Rattle.rv_model.specs.Walk.{Walk, places_of}
use Rattle.bv_terms.specs.declared.node.TermId.{TermId}
use Rattle.bv_terms.specs.Constants.{constant_at, constant_of}
use Rattle.bv_terms.specs.Shapes.{Shape, Const}
use Rattle.bv_terms.specs.Values.{Assignment, value_at}
use Rattle.guided_walk.specs.Told.{noted, told}
use Rattle.thread_terms.specs.declared.access.Access.{Access}
use Rattle.thread_terms.specs.Steps.{guard_shape}
use Rattle.race_set.specs.declared.shape.AccessShape.{AccessShape}
use Rattle.race_set.specs.declared.shape.Span.{Span}
use Rattle.race_set.specs.Accesses.{shape_at}
use Rattle.path_exec.specs.Links.{LinksTo, looks_back}
use Rattle.path_exec.specs.Paths.{IsListed, instr_of_step, is_conditional, position}
use Rattle.term_sources.specs.Law.{AreWords}
use Rattle.term_sources.specs.Sees.{access_at, address_value, guard_value, no_access}
use Rattle.fixed_reads.specs.Shapes.{AreShapes, IsShapeOf}
use Rattle.access_shapes.specs.Shaped.{AreListed, HasConstant, IsNarrow, byte_count, has_bytes, is_zero, linked_step, may_write, place_of, shape_in, span_of}
use Rattle.access_shapes.proofs.Guards.{GuardIs, guard_is}

some_none : {X : Type 0} (x : X) → Some x ≡ None → ⊥
some_none {X} x e = true≢false (ap (λ (o : Option X). is_some o) e)

second_true : (x y : Bool) → (x && y) ≡ true → y ≡ true
second_true true y e = e
second_true false y e = absurd (false≢true e)

not_false : (b : Bool) → not b ≡ false → b ≡ true
not_false true e = refl
not_false false e = absurd (true≢false e)

-- ---- an access that may write, and one that doesn't

silent_by : (writes : List TermId) (constant : Option ℕ) (g : ℕ) → ((value : ℕ) → constant ≡ Some value → g ≡ value) → (has_bytes writes && not (is_zero constant)) ≡ false
    → (m : ℕ) → m < length writes → g ≡ 1 → ⊥
silent_by [] constant g has e m less one = absurd (omega (arith, less))
silent_by (byte ∷ more) None g has e m less one = absurd (true≢false e)
silent_by (byte ∷ more) (Some value) g has e m less one =
    let zero_is : value ≡ 0 = eqb-true value 0 (not_false (nat_eq value 0) e) in
    let is : g ≡ value = has value refl in
    absurd (omega (arith, zero_is, is, one))

constant_found : (nodes : List Shape) (id value : ℕ) (shape : Shape) → slice_get nodes id ≡ Some shape → shape ≡ Const 1 value → constant_at nodes id ≡ Some value
constant_found nodes id value shape found is = ap (option_and_then constant_of) found ∙ ap constant_of is

certain_by : (nodes : List Shape) (id : ℕ) (shape : Shape) (link : Option ℕ) → GuardIs shape link → slice_get nodes id ≡ Some shape → HasConstant nodes id
    → not (is_zero (constant_at nodes id)) ≡ true → ((lr : ℕ) → link ≡ Some lr → ⊥) → (t : Assignment) → value_at t nodes id ≡ 1
certain_by nodes id shape link guard found has may none t = elim guard [
  | inl one ↦ has 1 (constant_found nodes id 1 shape found one) t
  | inr (inl never) ↦ absurd (false≢true (subst (λ (o : Option ℕ). not (is_zero o) ≡ true) (constant_found nodes id 0 shape found never) may))
  | inr (inr linked) ↦ absurd (none linked.0 linked.1)
]

-- ---- what an access looks back to

link_found : (accesses : List Access) (thread lr : ℕ) (step : Option ℕ) → LinksTo accesses thread (Some lr) step → linked_step accesses (Some lr) ≡ None → ⊥
link_found accesses thread lr None to none = to
link_found accesses thread lr (Some step) to none = some_none (position to.0) (sym (ap (option_map position) to.1) ∙ none)

link_by : (i : Instr) (b : Bool) (accesses : List Access) (thread lr : ℕ) (link step : Option ℕ) → is_conditional i ≡ b → link ≡ Some lr → linked_step accesses link ≡ None
    → (is_conditional i ≡ true → LinksTo accesses thread link step) → (is_conditional i ≡ false → link ≡ None) → ⊥
link_by i true accesses thread lr link step e is none linked unlinked =
    link_found accesses thread lr step (subst (λ (l : Option ℕ). LinksTo accesses thread l step) is (linked e)) (subst (λ (l : Option ℕ). linked_step accesses l ≡ None) is none)
link_by i false accesses thread lr link step e is none linked unlinked = some_none lr (sym is ∙ unlinked e)

-- an access with no step to look back to has no link
no_link : (log : Log) (walk : Walk) (nodes : List Shape) (accesses : List Access) (access : Access) → IsListed log walk nodes accesses access
    → linked_step accesses access.link ≡ None → (lr : ℕ) → access.link ≡ Some lr → ⊥
no_link log walk nodes accesses access listed none lr is =
    let i = instr_of_step walk access.pos in
    link_by i (is_conditional i) accesses access.pos.thread lr access.link (looks_back (places_of walk access.pos.thread) access.pos.step) refl is none listed.linked listed.unlinked

-- ---- its place

abbrev len_of : Option Span → ℕ
len_of None = 0
len_of (Some span) = span.len

count_is : (constant : Option ℕ) (count : ℕ) (span : Span) → option_map (span_of count) constant ≡ Some span → count ≡ span.len
count_is None count span e = absurd (some_none span (sym e))
count_is (Some value) count span e = ap len_of e

abbrev first_of_span : Option Span → ℕ
first_of_span None = 0
first_of_span (Some span) = span.first

pub first_is : (first len : ℕ) (span : Span) → Some (span_of len first) ≡ Some span → first ≡ span.first
first_is first len span e = ap first_of_span e

written_count : (writes reads : List TermId) (b : Bool) → (has_bytes writes && b) ≡ true → length writes ≡ (if has_bytes writes then length writes else length reads)
written_count [] reads b e = absurd (false≢true e)
written_count (byte ∷ more) reads b e = refl

-- ---- its shape

-- what the pool says of an access
pub record IsRead (nodes : List Shape) (access : Access) : Type 0 where
  pub guard : HasConstant nodes access.guard.number
  pub first : (span : Span) → place_of nodes access ≡ Some span → span.first < 2 ^ 32
  pub address : (span : Span) → place_of nodes access ≡ Some span → (t : Assignment) → address_value t nodes access ≡ span.first

pub shaped : (log : Log) (walk : Walk) (nodes : List Shape) (accesses : List Access) (access : Access) → IsRead nodes access
    → IsListed log walk nodes accesses access → IsShapeOf nodes access (shape_in nodes accesses access)
shaped log walk nodes accesses access read listed = record {
  pos = refl;
  silent = λ (e : may_write nodes access ≡ false) (t : Assignment) (m : ℕ) (less : m < length access.writes) (one : guard_value t nodes access ≡ 1).
      silent_by access.writes (constant_at nodes access.guard.number) (guard_value t nodes access)
      (λ (value : ℕ) (is : constant_at nodes access.guard.number ≡ Some value). read.guard value is t) e m less one;
  certain = λ (e : may_write nodes access ≡ true) (none : linked_step accesses access.link ≡ None) (t : Assignment).
      let shown = noted (told log walk) access.pos in let i = instr_of_step walk access.pos in
      certain_by nodes access.guard.number (guard_shape i shown access.pos access.link) access.link (guard_is i shown access.pos access.link) listed.guard read.guard
      (second_true (has_bytes access.writes) (not (is_zero (constant_at nodes access.guard.number))) e) (no_link log walk nodes accesses access listed none) t;
  first = read.first;
  address = read.address;
  many = λ (span : Span) (e : place_of nodes access ≡ Some span) (may : may_write nodes access ≡ true).
      written_count access.writes access.reads (not (is_zero (constant_at nodes access.guard.number))) may
      ∙ count_is (constant_at nodes access.address.number) (byte_count access) span e;
}

abbrev pub made_shape : Pos → (reads writes : Bool) → Option Span → Option Pos → AccessShape
made_shape p reads writes place link = record { pos = p; reads = reads; writes = writes; place = place; link = link }

-- a shape that was put together of its parts
pub shape_read : (log : Log) (walk : Walk) (nodes : List Shape) (accesses : List Access) (access : Access) (reads writes : Bool) (place : Option Span) (link : Option Pos)
    → reads ≡ has_bytes access.reads → writes ≡ may_write nodes access → place ≡ place_of nodes access → link ≡ linked_step accesses access.link
    → IsRead nodes access → IsListed log walk nodes accesses access → IsShapeOf nodes access (made_shape access.pos reads writes place link)
shape_read log walk nodes accesses access reads writes place link reads_is writes_is place_is link_is read listed =
    subst (λ (b : Bool). IsShapeOf nodes access (made_shape access.pos b writes place link)) (sym reads_is)
    (subst (λ (b : Bool). IsShapeOf nodes access (made_shape access.pos (has_bytes access.reads) b place link)) (sym writes_is)
    (subst (λ (o : Option Span). IsShapeOf nodes access (made_shape access.pos (has_bytes access.reads) (may_write nodes access) o link)) (sym place_is)
    (subst (λ (o : Option Pos). IsShapeOf nodes access (made_shape access.pos (has_bytes access.reads) (may_write nodes access) (place_of nodes access) o)) (sym link_is)
    (shaped log walk nodes accesses access read listed))))

-- ---- one after the other

abbrev pub IsShaped : List Shape → List Access → Access → Type 0
IsShaped nodes accesses access = (log : Log) (walk : Walk) → IsListed log walk nodes accesses access → IsShapeOf nodes access (shape_in nodes accesses access)

-- the address of an access is a word
abbrev pub HasWord : List Shape → Access → Type 0
HasWord nodes access = (t : Assignment) → address_value t nodes access < 2 ^ 32

-- the shapes of the first accesses
pub record SoFar (nodes : List Shape) (accesses done : List Access) (shapes : List AccessShape) : Type 0 where
  pub are : shapes ≡ map (shape_in nodes accesses) done
  pub known : All (IsShaped nodes accesses) done
  pub words : All (HasWord nodes) done

pub none_yet : (nodes : List Shape) (accesses : List Access) (shapes : List AccessShape) → shapes ≡ [] → SoFar nodes accesses [] shapes
none_yet nodes accesses shapes none = record { are = none; known = All-nil (IsShaped nodes accesses); words = All-nil (HasWord nodes) }

pub one_more : (nodes : List Shape) (accesses done : List Access) (access : Access) (shapes later : List AccessShape) (shape : AccessShape) → SoFar nodes accesses done shapes
    → shape ≡ shape_in nodes accesses access
    → ((log : Log) (walk : Walk) → IsListed log walk nodes accesses access → IsShapeOf nodes access shape) → HasWord nodes access
    → later ≡ shapes ++ shape ∷ [] → SoFar nodes accesses (done ++ access ∷ []) later
one_more nodes accesses done access shapes later shape so_far is known word pushed = record {
  are = pushed ∙ ap (λ (xs : List AccessShape). xs ++ shape ∷ []) so_far.are ∙ ap (λ (s : AccessShape). map (shape_in nodes accesses) done ++ s ∷ []) is
      ∙ sym (map_push (shape_in nodes accesses) done access);
  known = All-push (IsShaped nodes accesses) done access so_far.known
      (λ (log : Log) (walk : Walk) (listed : IsListed log walk nodes accesses access). subst (IsShapeOf nodes access) is (known log walk listed));
  words = All-push (HasWord nodes) done access so_far.words word;
}

-- ---- all accesses

abbrev no_shape : AccessShape
no_shape = record { pos = record { thread = 0; step = 0 }; reads = false; writes = false; place = None; link = None }

pub are_shapes : (nodes : List Shape) (accesses : List Access) (shapes : List AccessShape) → SoFar nodes accesses accesses shapes → All IsNarrow accesses
    → (log : Log) (walk : Walk) → AreListed log walk nodes accesses → AreShapes nodes accesses shapes
are_shapes nodes accesses shapes so_far narrow log walk listed = record {
  count = ap (λ (xs : List AccessShape). length xs) so_far.are ∙ length-map accesses (shape_in nodes accesses);
  each = λ (x : ℕ) (there : x < length accesses).
      subst (IsShapeOf nodes (access_at accesses x))
      (sym (ap (λ (xs : List AccessShape). shape_at xs x) so_far.are ∙ get_or-map (shape_in nodes accesses) accesses x no_access no_shape there))
      (so_far.known x no_access there log walk (listed.each x no_access there));
  differ = listed.once;
  few = λ (x : ℕ) (there : x < length accesses). let fits = (narrow x no_access there).writes in omega (arith, fits);
}

pub are_words : (nodes : List Shape) (accesses : List Access) (shapes : List AccessShape) → SoFar nodes accesses accesses shapes → (t : Assignment) → AreWords t nodes accesses
are_words nodes accesses shapes so_far t x there = so_far.words x no_access there t
