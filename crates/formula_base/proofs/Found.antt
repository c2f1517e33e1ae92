-- What was found of accesses is what parts stand on.
use Rattle.std.specs.Prelude.{◌≡◌, ◌↔◌, ℕ, ◌+◌, ◌<◌, Bool, true, false, nat_eq, List, [], ◌∷◌, All, Contains, length, map, get_or, slice_get, Option, Some, None, is_some, option_map, unwrap_or, if◌then◌else◌, AllPairs, ◌≢◌}
use Rattle.std.proofs.Common.{sym, ◌∙◌, ap, subst, refl, arith}
use Rattle.std.proofs.lemmas.Bool.{and_from, eq-eqb, false≢true, or_left, or_right}
use Rattle.std.proofs.lemmas.List.{get_or_default, get_or-map, length-map}
use Rattle.std.proofs.lemmas.Option.{get_or_from_slice_get, slice_get_within}
use Rattle.std.proofs.lemmas.List.Elements.{All-from_get_or, Contains-get_or}
use Rattle.elf_image.specs.Layout.{Layout}
use Rattle.odr_log.specs.declared.log.Log.{Log}
use Rattle.odr_log.specs.declared.log.Pos.{Pos}
use Rattle.rv_model.specs.RecordedOrder.{Counted}
use Rattle.rv_model.specs.Walk.{Walk, places_of}
use Rattle.happens_before.specs.declared.table.ThreadCalls.{ThreadCalls}
use Rattle.happens_before.specs.Table.{IsOrderOf}
use Rattle.clause_store.specs.Formula.{Formula}
use Rattle.order_clauses.specs.Grid.{IsSquare, KnowsTable}
use Rattle.order_vars.specs.Chosen.{AgreesWith, ChosenOrder, IsOrderVars, PairsAreOpen}
use Rattle.bv_terms.specs.Constants.{constant_at}
use Rattle.bv_terms.specs.Shapes.{Shape, Var}
use Rattle.bv_terms.specs.Values.{Assignment}
use Rattle.bv_terms.proofs.Terms.{has_node}
use Rattle.bv_terms.specs.declared.node.TermId.{TermId}
use Rattle.guided_walk.specs.Orders.{In}
use Rattle.guided_walk.specs.Told.{noted, told}
use Rattle.walk_facts.specs.Links.{looks_back}
use Rattle.walk_facts.proofs.Links.{looks_back_law}
use Rattle.race_set.specs.declared.reading.Seen.{Seen}
use Rattle.race_set.specs.declared.shape.AccessShape.{AccessShape}
use Rattle.race_set.specs.declared.shape.Span.{Span}
use Rattle.race_set.specs.Accesses.{AreCounted, AreDifferent, shape_at}
use Rattle.race_set.specs.Needs.{AreNeeded}
use Rattle.race_set.specs.Races.{IsFixedReading, NeedsOrderAt}
use Rattle.race_set.proofs.Members.{to_any}
use Rattle.thread_terms.specs.declared.access.Access.{Access}
use Rattle.thread_terms.specs.Variables.{step_number}
use Rattle.path_exec.specs.declared.paths.Paths.{Paths}
use Rattle.path_exec.specs.Links.{LinksTo}
use Rattle.path_exec.specs.Paths.{IsListed, instr_of_step, is_conditional, position}
use Rattle.term_sources.specs.Law.{AreOutcomes, AreWords}
use Rattle.term_sources.specs.Sees.{access_at, no_access, no_id}
use Rattle.term_sources.proofs.Listed.{one_number, pos_in}
use Rattle.fixed_reads.specs.Shapes.{AreShapes}
use Rattle.formula_parts.specs.Order.{IsOrder, Setting}
use Rattle.reader_parts.specs.Conditions.{HasTerms}
use Rattle.rivals.specs.Between.{AreBelow, LooksBack}
use Rattle.access_shapes.specs.Shaped.{IsNarrow, byte_count, has_bytes, linked_step, place_of, shape_in, span_of}
use Rattle.order_places.specs.Placed.{AreChosen, ArePlacesOf, IsPlaceOf, IsPlaced, place_at}
use Rattle.order_places.proofs.Merged.{IsWhole, merging_of, whole}
use Rattle.order_places.proofs.Placed.{Scene, places_of_accesses}
use Rattle.stands_for.proofs.Given.{guard_node}
use Rattle.formula_facts.specs.declared.known.Known.{Known}
use Rattle.formula_facts.specs.Known.{AreTyped, IsKnownIn}
use Rattle.formula_base.specs.Basis.{HasPaths, IsBase, setting_of}
use Rattle.formula_base.specs.Asked.{is_asked, is_step}
use Rattle.formula_base.proofs.Sizes.{sizes}

-- ---- terms of accesses

has_terms : (log : Log) (walk : Walk) (nodes : List Shape) (accesses : List Access) (access : Access) → IsListed log walk nodes accesses access → HasTerms nodes access
has_terms log walk nodes accesses access listed = record {
  address = listed.address;
  guard = listed.guard_bit;
  reads = All-from_get_or (λ (id : TermId). id.number < length nodes) access.reads no_id (λ (i : ℕ) (less : i < length access.reads). (listed.reads i less).term.inside);
  writes = All-from_get_or (λ (id : TermId). id.number < length nodes) access.writes no_id (λ (m : ℕ) (less : m < length access.writes). (listed.writes m no_id less).inside);
}

pub all_have_terms : (log : Log) (walk : Walk) (nodes : List Shape) (accesses : List Access) → All (IsListed log walk nodes accesses) accesses → All (HasTerms nodes) accesses
all_have_terms log walk nodes accesses each =
    All-from_get_or (HasTerms nodes) accesses no_access
    (λ (x : ℕ) (there : x < length accesses). has_terms log walk nodes accesses (access_at accesses x) (each x no_access there))

-- the guard of an access that looks back has the value of its outcome's variable
outcomes_are : (log : Log) (walk : Walk) (nodes : List Shape) (accesses : List Access) (t : Assignment) → All (IsListed log walk nodes accesses) accesses → AreOutcomes t nodes accesses
outcomes_are log walk nodes accesses t each x lr there link =
    let access = access_at accesses x in
    let node : slice_get nodes access.guard.number ≡ Some (Var 1 (step_number access.pos.thread access.pos.step)) =
    guard_node log walk nodes accesses access lr (each x no_access there) link in
    (has_node nodes access.guard.number (Var 1 (step_number access.pos.thread access.pos.step)) node (omega arith, omega arith)).value t

-- ---- what was found

-- The paths of a log, the shapes of their accesses, which of these need an order, and what was made for them.
pub record Found : Type 0 where
  pub image : Layout
  pub log : Log
  pub walk : Walk
  pub nodes : List Shape
  pub paths : Paths
  pub order : List ThreadCalls
  pub shapes : List AccessShape
  pub seen : List Seen
  pub needed : List Pos
  pub also : List Pos
  pub vars : ChosenOrder
  pub at : List (Option ℕ)
  pub old : Formula
  pub new : Formula
  pub has : HasPaths image log walk nodes paths
  pub order_of : IsOrderOf order log
  pub are : AreShapes nodes paths.accesses shapes
  pub shapes_are : shapes ≡ map (shape_in nodes paths.accesses) paths.accesses
  pub words : (t : Assignment) → AreWords t nodes paths.accesses
  pub narrow : All IsNarrow paths.accesses
  pub exact : AreCounted log shapes → AreDifferent shapes → (s : Seen) → Contains seen s ↔ IsFixedReading log shapes s
  pub needs : AreCounted log shapes → AreDifferent shapes → (p : Pos) → Contains needed p ↔ NeedsOrderAt log shapes p
  pub asked : AreNeeded shapes (is_asked shapes needed also) (length shapes) vars.chosen
  pub orders : All (Counted log) vars.chosen → IsOrderVars log vars.chosen vars.ordered old new
  pub opens : All (Counted log) vars.chosen → AllPairs (λ (p q : Pos). p ≢ q) vars.chosen → PairsAreOpen log vars.chosen vars.ordered
  pub variables : new.vars ≡ old.vars + length vars.ordered.table.pairs
  pub square : IsSquare vars.ordered.table
  pub count : vars.ordered.table.count ≡ length vars.chosen
  pub table : KnowsTable new.vars vars.ordered.table
  pub places : ArePlacesOf vars.chosen paths.accesses at

abbrev pub accesses_in : Found → List Access
accesses_in f = f.paths.accesses

abbrev pub known_in : Found → Known
known_in f = record { order = f.order; accesses = f.paths.accesses; shapes = f.shapes; seen = f.seen; vars = f.vars; places = f.at }

abbrev pub step_in : Found → ℕ → Pos
step_in f x = (access_at f.paths.accesses x).pos

listed_in : (f : Found) (x : ℕ) → x < length f.paths.accesses → IsListed f.log f.walk f.nodes f.paths.accesses (access_at f.paths.accesses x)
listed_in f x there = f.has.are.each x no_access there

-- ---- shapes

shape_there : (f : Found) (x : ℕ) → x < length f.shapes → x < length f.paths.accesses
shape_there f x less = let same = f.are.count in omega (arith, less, same)

shape_is : (f : Found) (x : ℕ) → x < length f.paths.accesses → shape_at f.shapes x ≡ shape_in f.nodes f.paths.accesses (access_at f.paths.accesses x)
shape_is f x there =
    ap (λ (shapes : List AccessShape). shape_at shapes x) f.shapes_are
    ∙ get_or-map (shape_in f.nodes f.paths.accesses) f.paths.accesses x no_access
    (record { pos = record { thread = 0; step = 0 }; reads = false; writes = false; place = None; link = None }) there

counted_in : (f : Found) → AreCounted f.log f.shapes
counted_in f =
    All-from_get_or (λ (s : AccessShape). Counted f.log s.pos) f.shapes
    (record { pos = record { thread = 0; step = 0 }; reads = false; writes = false; place = None; link = None })
    (λ (x : ℕ) (less : x < length f.shapes). let there = shape_there f x less in
    subst (Counted f.log) (sym (f.are.each x there).pos) (listed_in f x there).counted)

same_step : (f : Found) (x y : ℕ) → x < length f.paths.accesses → y < length f.paths.accesses → (shape_at f.shapes x).pos ≡ (shape_at f.shapes y).pos → x ≡ y
same_step f x y x_in y_in e =
    one_number f.paths.accesses x y f.has.are.lists.once x_in y_in (sym (f.are.each x x_in).pos ∙ e ∙ (f.are.each y y_in).pos)

different_in : (f : Found) → AreDifferent f.shapes
different_in f i j d less j_in e =
    let no_shape : AccessShape = record { pos = record { thread = 0; step = 0 }; reads = false; writes = false; place = None; link = None } in
    let i_in : i < length f.shapes = omega (arith, less, j_in) in
    let same : i ≡ j = same_step f i j (shape_there f i i_in) (shape_there f j j_in)
    (ap (λ (s : AccessShape). s.pos) (get_or_default f.shapes i no_shape d i_in) ∙ e ∙ ap (λ (s : AccessShape). s.pos) (get_or_default f.shapes j d no_shape j_in)) in
    omega (arith, less, same)

-- ---- bytes that are read

some_bytes : (ids : List TermId) (i : ℕ) → i < length ids → has_bytes ids ≡ true
some_bytes [] i less = absurd (omega (arith, less))
some_bytes (id ∷ more) i less = refl

reads_in : (f : Found) (x i : ℕ) → x < length f.paths.accesses → i < length (access_at f.paths.accesses x).reads → (shape_at f.shapes x).reads ≡ true
reads_in f x i there within = ap (λ (s : AccessShape). s.reads) (shape_is f x there) ∙ some_bytes (access_at f.paths.accesses x).reads i within

abbrev len_of : Option Span → ℕ
len_of None = 0
len_of (Some span) = span.len

len_is : (constant : Option ℕ) (count : ℕ) (span : Span) → option_map (span_of count) constant ≡ Some span → count ≡ span.len
len_is None count span e = absurd (false≢true (ap (λ (o : Option Span). is_some o) e))
len_is (Some first) count span e = ap len_of e

count_by : (reads writes : List TermId) (i : ℕ) → i < length reads → (0 < length writes → length reads ≡ length writes) → i < (if has_bytes writes then length writes else length reads)
count_by reads [] i less same = less
count_by reads (id ∷ more) i less same = let equal = same (omega arith) in omega (arith, less, equal)

within_in : (f : Found) (x i : ℕ) (span : Span) → x < length f.paths.accesses → i < length (access_at f.paths.accesses x).reads
    → (shape_at f.shapes x).place ≡ Some span → i < span.len
within_in f x i span there within place =
    let access = access_at f.paths.accesses x in
    let listed = listed_in f x there in
    let is_place : place_of f.nodes access ≡ Some span = sym (ap (λ (s : AccessShape). s.place) (shape_is f x there)) ∙ place in
    let equal : 0 < length access.writes → length access.reads ≡ length access.writes =
    λ (some : 0 < length access.writes).
    listed.read_many
    ∙ sizes (instr_of_step f.walk access.pos) (noted (told f.log f.walk) access.pos)
    (subst (λ (n : ℕ). 0 < n) listed.read_many (omega (arith, within))) (subst (λ (n : ℕ). 0 < n) listed.write_many some)
    ∙ sym listed.write_many in
    subst (λ (n : ℕ). i < n) (len_is (constant_at f.nodes access.address.number) (byte_count access) span is_place) (count_by access.reads access.writes i within equal)

-- ---- what store-conditionals look back to

record IsFoundLink (f : Found) (lr x : ℕ) : Type 0 where
  there : lr < length f.paths.accesses
  found : slice_get f.paths.accesses lr ≡ Some (access_at f.paths.accesses lr)
  thread : (step_in f lr).thread ≡ (step_in f x).thread
  step : (step_in f lr).step < (step_in f x).step

back_found : (f : Found) (lr x : ℕ) (back : Option ℕ) → looks_back (places_of f.walk (step_in f x).thread) (step_in f x).step ≡ back
    → LinksTo f.paths.accesses (step_in f x).thread (Some lr) back → IsFoundLink f lr x
back_found f lr x None e to = absurd to
back_found f lr x (Some step) e to =
    let within : lr < length f.paths.accesses = slice_get_within f.paths.accesses lr to.0 to.1 in
    let is : access_at f.paths.accesses lr ≡ to.0 = get_or_from_slice_get f.paths.accesses lr to.0 no_access to.1 in
    let earlier : step < (step_in f x).step = ((looks_back_law (places_of f.walk (step_in f x).thread) (step_in f x).step step).0 e).earlier in
    record {
      there = within;
      found = to.1 ∙ ap (λ (a : Access). Some a) (sym is);
      thread = ap (λ (a : Access). a.pos.thread) is ∙ ap (λ (p : Pos). p.thread) to.2;
      step = subst (λ (n : ℕ). n < (step_in f x).step) (sym (ap (λ (a : Access). a.pos.step) is ∙ ap (λ (p : Pos). p.step) to.2)) earlier;
    }

found_link : (f : Found) (x lr : ℕ) → x < length f.paths.accesses → (access_at f.paths.accesses x).link ≡ Some lr → IsFoundLink f lr x
found_link f x lr there link =
    let listed = listed_in f x there in by_kind (is_conditional (instr_of_step f.walk (step_in f x))) refl listed.linked listed.unlinked
  where
    by_kind : (b : Bool) → is_conditional (instr_of_step f.walk (step_in f x)) ≡ b
        → (is_conditional (instr_of_step f.walk (step_in f x)) ≡ true → LinksTo f.paths.accesses (step_in f x).thread (access_at f.paths.accesses x).link
        (looks_back (places_of f.walk (step_in f x).thread) (step_in f x).step))
        → (is_conditional (instr_of_step f.walk (step_in f x)) ≡ false → (access_at f.paths.accesses x).link ≡ None) → IsFoundLink f lr x
    by_kind false e linked unlinked = absurd (false≢true (sym (ap (λ (o : Option ℕ). is_some o) (sym link ∙ unlinked e))))
    by_kind true e linked unlinked =
        back_found f lr x (looks_back (places_of f.walk (step_in f x).thread) (step_in f x).step) refl
        (subst (λ (o : Option ℕ). LinksTo f.paths.accesses (step_in f x).thread o (looks_back (places_of f.walk (step_in f x).thread) (step_in f x).step)) link (linked e))

pos_is : (f : Found) (x : ℕ) → x < length f.paths.accesses → (shape_at f.shapes x).pos ≡ step_in f x
pos_is f x there = (f.are.each x there).pos

looks : (f : Found) (x lr : ℕ) → x < length f.paths.accesses → (access_at f.paths.accesses x).link ≡ Some lr → LooksBack f.shapes lr x
looks f x lr there link =
    let found = found_link f x lr there link in
    let lr_is : (shape_at f.shapes lr).pos ≡ step_in f lr = pos_is f lr found.there in
    let x_is : (shape_at f.shapes x).pos ≡ step_in f x = pos_is f x there in
    let earlier = found.step in
    record {
      link = ap (λ (s : AccessShape). s.link) (shape_is f x there) ∙ ap (linked_step f.paths.accesses) link ∙ ap (option_map position) found.found
          ∙ ap (λ (p : Pos). Some p) (sym lr_is);
      thread = ap (λ (p : Pos). p.thread) lr_is ∙ found.thread ∙ sym (ap (λ (p : Pos). p.thread) x_is);
      step = subst (λ (p : Pos). p.step < (shape_at f.shapes x).pos.step) (sym lr_is) (subst (λ (p : Pos). (step_in f lr).step < p.step) (sym x_is) earlier);
    }

-- ---- places

placed_if : (chosen : List Pos) (p : Pos) (o : Option ℕ) → IsPlaceOf chosen p o → Contains chosen p → is_some o ≡ true
placed_if chosen p None none there = absurd (none there)
placed_if chosen p (Some place) is there = refl

place_below : (chosen : List Pos) (p : Pos) (o : Option ℕ) (i : ℕ) → IsPlaceOf chosen p o → o ≡ Some i → i < length chosen
place_below chosen p None i is e = absurd (false≢true (ap (λ (o : Option ℕ). is_some o) e))
place_below chosen p (Some place) i is e = let first : IsPlaceOf chosen p (Some i) = subst (λ (o : Option ℕ). IsPlaceOf chosen p o) e is in first.within

all_below : (f : Found) → AreBelow (length f.vars.chosen) f.at
all_below f y i less e =
    let many = f.places.count in
    place_below f.vars.chosen (step_in f y) (place_at f.at y) i (f.places.each y (omega (arith, less, many))) e

is_same_step : (p : Pos) → is_step p p ≡ true
is_same_step p = and_from (nat_eq p.thread p.thread) (nat_eq p.step p.step) (eq-eqb p.thread p.thread refl) (eq-eqb p.step p.step refl)

-- a step that is asked for is chosen
chosen_if : (f : Found) (x : ℕ) → x < length f.paths.accesses → is_asked f.shapes f.needed f.also x ≡ true → is_some (place_at f.at x) ≡ true
chosen_if f x there e =
    let many = f.are.count in
    placed_if f.vars.chosen (step_in f x) (place_at f.at x) (f.places.each x there)
    (subst (Contains f.vars.chosen) (pos_is f x there) (f.asked.each x (omega (arith, there, many)) e))

chosen_needed : (f : Found) (x : ℕ) → x < length f.paths.accesses → NeedsOrderAt f.log f.shapes (step_in f x) → is_some (place_at f.at x) ≡ true
chosen_needed f x there needs =
    let p = (shape_at f.shapes x).pos in
    let has : Contains f.needed p = (f.needs (counted_in f) (different_in f) p).1 (subst (NeedsOrderAt f.log f.shapes) (sym (pos_is f x there)) needs) in
    chosen_if f x there (or_left _ _ (to_any (is_step p) f.needed p has (is_same_step p)))

chosen_asked : (f : Found) (x : ℕ) → x < length f.paths.accesses → Contains f.also (step_in f x) → is_some (place_at f.at x) ≡ true
chosen_asked f x there asked =
    let p = (shape_at f.shapes x).pos in
    let has : Contains f.also p = subst (Contains f.also) (sym (pos_is f x there)) asked in
    chosen_if f x there (or_right _ _ (to_any (is_step p) f.also p has (is_same_step p)))

-- the chosen steps are those of accesses
listed_step : (f : Found) (p : Pos) → Contains f.vars.chosen p → In p (map position f.paths.accesses)
listed_step f p has =
    let of = f.asked.only p has in
    let there = shape_there f of.0 of.1 in
    subst (λ (q : Pos). In q (map position f.paths.accesses)) (sym (pos_is f of.0 there) ∙ of.3) (pos_in f.paths.accesses of.0 there)

chosen_counted : (f : Found) → All (Counted f.log) f.vars.chosen
chosen_counted f i d less =
    let p = get_or f.vars.chosen i d in
    let of = f.asked.only p (Contains-get_or f.vars.chosen i d less) in
    let there = shape_there f of.0 of.1 in
    subst (Counted f.log) (sym (pos_is f of.0 there) ∙ of.3) (listed_in f of.0 there).counted

are_chosen : (f : Found) → AreChosen f.paths.accesses f.vars.chosen
are_chosen f = record {
  distinct = f.has.are.lists.once;
  listed = λ (i : ℕ) (d : Pos) (less : i < length f.vars.chosen). listed_step f (get_or f.vars.chosen i d) (Contains-get_or f.vars.chosen i d less);
  once = f.asked.once (different_in f);
}

is_placed : (f : Found) → IsPlaced f.log f.paths.accesses f.vars.chosen f.at f.vars.ordered f.old f.new
is_placed f = record { are_chosen = are_chosen f; places = f.places; literals = f.orders (chosen_counted f) }

-- ---- some order of the accesses

abbrev no_order : ℕ → ℕ → Bool
no_order x y = false

abbrev nowhere : Access → Option ℕ
nowhere access = None

abbrev none_chosen : (f : Found) → Scene
none_chosen f = record {
  accesses = f.paths.accesses;
  chosen = [];
  at = map nowhere f.paths.accesses;
  are = record { distinct = f.has.are.lists.once; listed = λ i d less. absurd (omega (arith, less)); once = λ i j d less within. absurd (omega (arith, within)) };
  places = record {
    count = length-map f.paths.accesses nowhere;
    each = λ (x : ℕ) (there : x < length f.paths.accesses).
        subst (λ (o : Option ℕ). IsPlaceOf [] (step_in f x) o) (sym (get_or-map nowhere f.paths.accesses x no_access None there))
        (λ (has : Contains [] (step_in f x)). absurd (omega (arith, has.1)));
  };
}

none_agrees : (f : Found) → AgreesWith f.log [] no_order
none_agrees f = record {
  strict = record { irreflexive = λ x. refl; transitive = λ x y z e g. e };
  all = λ i j i_in j_in differ. absurd (omega (arith, i_in));
  agrees = λ i j i_in j_in r. absurd (omega (arith, i_in));
}

some_order : (f : Found) → (lt : ℕ → ℕ → Bool) × IsOrder f.log f.paths.accesses lt
some_order f =
    let m = merging_of f.image f.log f.walk f.has.is_walk f.has.fits (none_chosen f) no_order (none_agrees f) in
    let all : (lt : ℕ → ℕ → Bool) × IsWhole m lt = whole m in
    (all.0, all.1.order)

-- ---- all together

abbrev setting_in : Found → (ℕ → ℕ) → Setting
setting_in f access = setting_of f.image f.log f.nodes (known_in f) access

typed : (f : Found) (access : ℕ → ℕ) → AreTyped (setting_in f access)
typed f access = record {
  terms = all_have_terms f.log f.walk f.nodes f.paths.accesses f.has.are.each;
  few = λ (y : ℕ) (there : y < length f.paths.accesses). let fits = (f.narrow y no_access there).writes in omega (arith, fits);
  few_reads = λ (x : ℕ) (there : x < length f.paths.accesses). let fits = (f.narrow x no_access there).reads in omega (arith, fits);
  read = λ (x i : ℕ) (there : x < length f.paths.accesses) (within : i < length (access_at f.paths.accesses x).reads). ((listed_in f x there).reads i within).term;
  written = λ (y m : ℕ) (there : y < length f.paths.accesses) (within : m < length (access_at f.paths.accesses y).writes). (listed_in f y there).writes m no_id within;
}

known_there : (f : Found) (access : ℕ → ℕ) → IsKnownIn (setting_in f access) (known_in f)
known_there f access = record {
  accesses_are = refl;
  table_is = refl;
  typed = typed f access;
  are = f.are;
  reads = reads_in f;
  within = within_in f;
  order_of = f.order_of;
  counted = counted_in f;
  exact = f.exact (counted_in f) (different_in f);
  some_order = (some_order f).0;
  is_order = (some_order f).1.total;
  ordered = chosen_needed f;
  has = record {
    chosen = λ y there. refl;
    place = λ y at e. ap (λ (o : Option ℕ). unwrap_or o 0) e;
  };
  many = f.places.count;
  below = all_below f;
  links = λ (x lr : ℕ) (there : x < length f.paths.accesses) (link : (access_at f.paths.accesses x).link ≡ Some lr).
      record { there = (found_link f x lr there link).there; back = looks f x lr there link };
}

pub is_base : (f : Found) → IsBase f.image f.log f.nodes f.also (known_in f) f.old f.new
is_base f =
    let of = places_of_accesses f.paths.accesses f.vars.chosen f.at f.vars.ordered f.new.vars (are_chosen f) f.places f.square f.count f.table in record {
      access = of.0;
      is = known_there f of.0;
      terms = record { words = f.words; outcomes = λ (t : Assignment). outcomes_are f.log f.walk f.nodes f.paths.accesses t f.has.are.each };
      asked = chosen_asked f;
      placed = is_placed f;
      places = of.1;
      pairs_open = f.opens (chosen_counted f) (f.asked.once (different_in f));
      vars = f.variables;
    }
