-- The spots of an open byte cover it.
use Rattle.std.specs.Prelude.{◌≡◌, ◌⊎◌, ℕ, ◌+◌, ◌-◌, ◌%◌, ◌<◌, ◌≤◌, ◌^◌, Bool, true, false, List, length, nat_eq, nat_lt, Option, Some, None, is_none, is_some, Contains, refl}
use Rattle.std.proofs.Common.{sym, ◌∙◌, ap, subst, inl, inr, arith}
use Rattle.std.proofs.lemmas.Bool.{and_from, and_parts, eqb-true, lt-ltb, false≢true}
use Rattle.odr_log.specs.declared.log.Log.{Log}
use Rattle.odr_log.specs.declared.log.Pos.{Pos}
use Rattle.rv_model.specs.RecordedOrder.{RecordedOrder}
use Rattle.bv_terms.specs.Values.{Assignment}
use Rattle.happens_before.specs.declared.table.ThreadCalls.{ThreadCalls}
use Rattle.thread_terms.specs.declared.access.Access.{Access}
use Rattle.hit_terms.specs.Hits.{place_of}
use Rattle.race_set.specs.declared.shape.AccessShape.{AccessShape}
use Rattle.race_set.specs.declared.shape.Span.{Span}
use Rattle.happens_before.specs.Table.{IsOrderOf}
use Rattle.race_set.specs.Accesses.{AreCounted, shape_at}
use Rattle.race_set.specs.Bytes.{byte_of, covers, may_be_at, may_write, number_in, surely_at}
use Rattle.race_set.specs.Races.{NeedsOrder}
use Rattle.race_set.proofs.Numbers.{listed_at}
use Rattle.term_sources.specs.Sees.{access_at, address_value, guard_value, hits}
use Rattle.fixed_reads.specs.Shapes.{IsShapeOf}
use Rattle.formula_parts.specs.Order.{IsOrder, Setting}
use Rattle.reader_parts.specs.declared.reading.Spot.{Spot}
use Rattle.reader_parts.specs.Readings.{spot_at}
use Rattle.read_parts.specs.Reads.{IsCoveredByte, hits_reading}
use Rattle.read_spots.specs.Spots.{AreSpots, AreSpotsBefore, IsAmong, IsOpenByte, IsReadIn, MayMeet, MayPrecede, Sought, place_in, reading_of_one, sought}

-- what is known of an open byte
pub record Scene : Type 0 where
  pub setting : Setting
  pub order : List ThreadCalls
  pub shapes : List AccessShape
  pub places : List (Option ℕ)
  pub x : ℕ
  pub i : ℕ
  pub there : x < length setting.accesses
  pub small : i < 2 ^ 32
  pub is : IsReadIn setting order shapes places x i
  pub unfixed : IsOpenByte setting.log shapes x i

abbrev here : Scene → ℕ → Access
here s y = access_at s.setting.accesses y

abbrev shape : Scene → ℕ → AccessShape
shape s y = shape_at s.shapes y

abbrev count : Scene → ℕ
count s = length s.setting.accesses

abbrev search_of : Scene → Sought
search_of s = sought s.setting.log s.setting.accesses s.shapes s.places s.x s.i

shape_is : (s : Scene) (y : ℕ) → y < count s → IsShapeOf s.setting.nodes (here s y) (shape s y)
shape_is s y less = s.is.are.each y less

listed : (s : Scene) (y : ℕ) → y < count s → Contains s.shapes (shape s y)
listed s y less = let many : length s.shapes ≡ length s.setting.accesses = s.is.are.count in listed_at s.shapes y (omega (arith, less, many))

-- ---- bytes of spans

there_and_back : (first i : ℕ) → first < 2 ^ 32 → i < 2 ^ 32 → ((first + i) % 2 ^ 32 + (2 ^ 32 - first)) % 2 ^ 32 ≡ i
there_and_back first i first_in i_in = omega (arith, first_in, i_in)

in_range : (n : ℕ) → n % 2 ^ 32 < 2 ^ 32
in_range n = omega arith

pub covers_own : (span : Span) (i : ℕ) → span.first < 2 ^ 32 → i < 2 ^ 32 → i < span.len → covers (byte_of span i) span ≡ true
covers_own span i first_in i_in within =
    and_from (nat_lt (byte_of span i) (2 ^ 32)) (nat_lt (number_in span (byte_of span i)) span.len)
    (lt-ltb (byte_of span i) (2 ^ 32) (in_range (span.first + i)))
    (lt-ltb (number_in span (byte_of span i)) span.len
    (subst (λ (n : ℕ). n < span.len) (sym (there_and_back span.first i first_in i_in)) within))

-- ---- the accesses that need an order

-- one access is the reader, or may write the byte
abbrev IsPart : Scene → ℕ → Option Span → Type 0
IsPart s y place =
    (shape s y ≡ shape s s.x)
    ⊎ (((shape s y).writes ≡ true) × ((span : Span) → place ≡ Some span → may_write (byte_of span s.i) (shape s y) ≡ true))

raced_part : (s : Scene) (y : ℕ) (span : Span) → IsPart s y (Some span) → (shape s y ≡ shape s s.x) ⊎ (may_write (byte_of span s.i) (shape s y) ≡ true)
raced_part s y span (inl same) = inl same
raced_part s y span (inr part) = inr (part.1 span refl)

searched_part : (s : Scene) (y : ℕ) (place : Option Span) → IsPart s y place → (shape s y ≡ shape s s.x) ⊎ ((shape s y).writes ≡ true)
searched_part s y place (inl same) = inl same
searched_part s y place (inr part) = inr part.0

needs_by : (s : Scene) (y : ℕ) (place : Option Span) → (shape s s.x).place ≡ place → IsPart s y place → NeedsOrder s.setting.log s.shapes (shape s y)
needs_by s y None e part = inr (inl (record {
  reader = shape s s.x;
  listed = listed s s.x s.there;
  unplaced = and_from (shape s s.x).reads (is_none (shape s s.x).place) s.is.reads (ap (λ (p : Option Span). is_none p) e);
  part = searched_part s y None part;
}))
needs_by s y (Some span) e part =
    let small : s.i < 2 ^ 32 = s.small in inl (record {
      byte = byte_of span s.i;
      reader = shape s s.x;
      listed = listed s s.x s.there;
      reads = and_from (shape s s.x).reads (surely_at (byte_of span s.i) (shape s s.x).place) s.is.reads
          (ap (surely_at (byte_of span s.i)) e
          ∙ covers_own span s.i ((shape_is s s.x s.there).first span e) small (s.is.within span e));
      unfixed = s.unfixed span e;
      part = raced_part s y span part;
    })

chosen_by : (s : Scene) (y : ℕ) → y < count s → IsPart s y (shape s s.x).place → s.setting.places.chosen y ≡ true
chosen_by s y less part = s.is.ordered y less (record {
  access = shape s y;
  listed = listed s y less;
  is = (shape_is s y less).pos;
  needs = needs_by s y (shape s s.x).place refl part;
})

reader_chosen : (s : Scene) → s.setting.places.chosen s.x ≡ true
reader_chosen s = chosen_by s s.x s.there (inl refl)

-- ---- a write that hits

-- a byte that hits in an order
record Hit (s : Scene) (t : Assignment) (lt : ℕ → ℕ → Bool) (y m : ℕ) : Type 0 where
  is_order : IsOrder s.setting.log s.setting.accesses lt
  inside : y < count s
  within : m < length (here s y).writes
  older : lt y s.x ≡ true
  guard : guard_value t s.setting.nodes (here s y) ≡ 1
  place : place_of (address_value t s.setting.nodes (here s y)) m ≡ place_of (address_value t s.setting.nodes (here s s.x)) s.i

writes_by : (s : Scene) (t : Assignment) (lt : ℕ → ℕ → Bool) (y m : ℕ) (h : Hit s t lt y m) (b : Bool) → (shape s y).writes ≡ b → b ≡ true
writes_by s t lt y m h true e = refl
writes_by s t lt y m h false e = absurd ((shape_is s y h.inside).silent e t m h.within h.guard)

wrote : (s : Scene) (t : Assignment) (lt : ℕ → ℕ → Bool) (y m : ℕ) → Hit s t lt y m → (shape s y).writes ≡ true
wrote s t lt y m h = writes_by s t lt y m h (shape s y).writes refl

few : (s : Scene) (t : Assignment) (lt : ℕ → ℕ → Bool) (y m : ℕ) → Hit s t lt y m → m < 2 ^ 32
few s t lt y m h =
    let most : length (here s y).writes ≤ 2 ^ 32 = s.is.are.few y h.inside in
    let less : m < length (here s y).writes = h.within in omega (arith, most, less)

meets : (s : Scene) (t : Assignment) (lt : ℕ → ℕ → Bool) (y m : ℕ) → Hit s t lt y m → MayMeet (shape s y).place (shape s s.x).place m s.i
meets s t lt y m h from to e f =
    ap (λ (n : ℕ). place_of n m) (sym ((shape_is s y h.inside).address from e t)) ∙ h.place
    ∙ ap (λ (n : ℕ). place_of n s.i) ((shape_is s s.x s.there).address to f t)

may_be_by : (s : Scene) (t : Assignment) (lt : ℕ → ℕ → Bool) (y m : ℕ) (h : Hit s t lt y m) (to : Span) → (shape s s.x).place ≡ Some to
    → (place : Option Span) → (shape s y).place ≡ place → may_be_at (byte_of to s.i) place ≡ true
may_be_by s t lt y m h to f None e = refl
may_be_by s t lt y m h to f (Some from) e =
    subst (λ (b : ℕ). covers b from ≡ true) (meets s t lt y m h from to e f)
    (covers_own from m ((shape_is s y h.inside).first from e) (few s t lt y m h)
    (subst (λ (n : ℕ). m < n) ((shape_is s y h.inside).many from e (wrote s t lt y m h)) h.within))

writer_chosen : (s : Scene) (t : Assignment) (lt : ℕ → ℕ → Bool) (y m : ℕ) → Hit s t lt y m → s.setting.places.chosen y ≡ true
writer_chosen s t lt y m h = chosen_by s y h.inside (inr (
  wrote s t lt y m h,
  λ (span : Span) (f : (shape s s.x).place ≡ Some span).
      and_from (shape s y).writes (may_be_at (byte_of span s.i) (shape s y).place) (wrote s t lt y m h)
      (may_be_by s t lt y m h span f (shape s y).place refl),
))

precedes : (s : Scene) (t : Assignment) (lt : ℕ → ℕ → Bool) (y m : ℕ) → Hit s t lt y m → MayPrecede s.setting.log s.shapes s.x y
precedes s t lt y m h = record {
  other = λ (e : y ≡ s.x). false≢true (sym (h.is_order.strict.irreflexive s.x) ∙ ap (λ (z : ℕ). lt z s.x) (sym e) ∙ h.older);
  writes = wrote s t lt y m h;
  earlier = λ (r : RecordedOrder s.setting.log (shape s s.x).pos (shape s y).pos).
      false≢true (sym (h.is_order.strict.irreflexive y)
      ∙ h.is_order.strict.transitive y s.x y h.older
      (h.is_order.total.agrees s.x y s.there h.inside
      (subst (λ (p : Pos). RecordedOrder s.setting.log p (here s y).pos) (shape_is s s.x s.there).pos
      (subst (RecordedOrder s.setting.log (shape s s.x).pos) (shape_is s y h.inside).pos r))));
}

some_place : (o : Option ℕ) → is_some o ≡ true → (n : ℕ) × (o ≡ Some n)
some_place None e = absurd (false≢true e)
some_place (Some n) e = (n, refl)

spot_found : (s : Scene) (spots : List Spot) (t : Assignment) (lt : ℕ → ℕ → Bool) (y m : ℕ) → AreSpotsBefore (search_of s) (count s) 0 spots → Hit s t lt y m
    → (k : ℕ) × (k < length spots) × ((spot_at spots k).access ≡ y) × ((spot_at spots k).byte ≡ m)
spot_found s spots t lt y m are h =
    let at : (n : ℕ) × (place_in s.places y ≡ Some n) = some_place (place_in s.places y) (sym (s.is.has.chosen y h.inside) ∙ writer_chosen s t lt y m h) in
    let spot : Spot = record { access = y; byte = m; at = at.0 } in
    let found : IsAmong spots spot = are.each spot (inl h.inside) (record {
      there = h.inside;
      within = h.within;
      fits = few s t lt y m h;
      at = at.1;
      precedes = precedes s t lt y m h;
      meets = meets s t lt y m h;
    }) in
    (found.0, found.1, ap (λ (p : Spot). p.access) found.2, ap (λ (p : Spot). p.byte) found.2)

hit_of : (s : Scene) (t : Assignment) (lt : ℕ → ℕ → Bool) (y m : ℕ) → IsOrder s.setting.log s.setting.accesses lt → y < count s
    → m < length (here s y).writes → lt y s.x ≡ true → hits_reading s.setting t (reading_of_one s.x s.i) y m 0 ≡ true → Hit s t lt y m
hit_of s t lt y m is_order inside within older hit =
    let same : s.i + 0 ≡ s.i = omega arith in
    let own : hits t s.setting.nodes (here s y) m (here s s.x) s.i ≡ true =
    subst (λ (n : ℕ). hits t s.setting.nodes (here s y) m (here s s.x) n ≡ true) same hit in
    let parts = and_parts (nat_eq (guard_value t s.setting.nodes (here s y)) 1)
    (nat_eq (place_of (address_value t s.setting.nodes (here s y)) m) (place_of (address_value t s.setting.nodes (here s s.x)) s.i)) own in record {
      is_order = is_order;
      inside = inside;
      within = within;
      older = older;
      guard = eqb-true (guard_value t s.setting.nodes (here s y)) 1 parts.0;
      place = eqb-true (place_of (address_value t s.setting.nodes (here s y)) m) (place_of (address_value t s.setting.nodes (here s s.x)) s.i) parts.1;
    }

pub covered : (s : Scene) (spots : List Spot) → AreSpotsBefore (search_of s) (count s) 0 spots → IsCoveredByte s.setting (reading_of_one s.x s.i) spots 0
covered s spots are t lt is_order y m inside within older hit =
    let h : Hit s t lt y m = hit_of s t lt y m is_order inside within older hit in
    let found : (k : ℕ) × (k < length spots) × ((spot_at spots k).access ≡ y) × ((spot_at spots k).byte ≡ m) = spot_found s spots t lt y m are h in
    let none : (spot_at spots found.0).byte + 0 ≡ (spot_at spots found.0).byte = omega arith in
    (found.0, found.1, inl (found.2, none ∙ found.3))

pub are_spots : (s : Scene) (spots : List Spot) → AreSpotsBefore (search_of s) (count s) 0 spots → AreSpots s.setting s.shapes s.places s.x s.i spots
are_spots s spots are = record {
  only = are.only;
  apart = are.apart;
  covered = covered s spots are;
  chosen = reader_chosen s;
}

pub spots_in : (setting : Setting) (order : List ThreadCalls) (accesses : List Access) (shapes : List AccessShape) (places : List (Option ℕ)) (x i : ℕ)
    (spots : List Spot) → setting.accesses ≡ accesses → x < length accesses → i < 2 ^ 32
    → ((log : Log) → IsOrderOf order log → AreCounted log shapes → AreSpotsBefore (sought log accesses shapes places x i) (length accesses) 0 spots)
    → IsReadIn setting order shapes places x i → IsOpenByte setting.log shapes x i → AreSpots setting shapes places x i spots
spots_in setting order accesses shapes places x i spots same there small exact is unfixed =
    are_spots (record {
      setting = setting;
      order = order;
      shapes = shapes;
      places = places;
      x = x;
      i = i;
      there = subst (λ (list : List Access). x < length list) (sym same) there;
      small = small;
      is = is;
      unfixed = unfixed;
    }) spots
    (subst (λ (list : List Access). AreSpotsBefore (sought setting.log list shapes places x i) (length list) 0 spots) (sym same)
    (exact setting.log is.order_of is.counted))
