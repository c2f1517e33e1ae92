-- A byte with one source in every run has it by the values of terms.
use Rattle.std.specs.Prelude.{◌≡◌, ◌≢◌, ◌↔◌, ℕ, ◌+◌, ◌-◌, ◌%◌, ◌<◌, ◌≤◌, ◌^◌, ◌&&◌, Bool, true, false, zero, suc, List, [], ◌∷◌, length, nat_eq, nat_lt, Option, Some, None, is_none, Contains, refl}
use Rattle.std.proofs.Common.{sym, ◌∙◌, ap, subst, arith, inl, inr, get_or, eq-eqb}
use Rattle.std.proofs.lemmas.Bool.{and_from, and_parts, cases_eq, eqb-true, lt-ltb, ltb-true, false≢true}
use Rattle.elf_image.specs.Layout.{Layout}
use Rattle.elf_image.specs.Memory.{byte_in, opening_cells}
use Rattle.odr_log.specs.declared.log.Log.{Log}
use Rattle.odr_log.specs.declared.log.Pos.{Pos}
use Rattle.rv_model.specs.RecordedOrder.{RecordedOrder}
use Rattle.bv_terms.specs.Shapes.{Shape}
use Rattle.bv_terms.specs.Values.{Assignment}
use Rattle.thread_terms.specs.declared.access.Access.{Access}
use Rattle.hit_terms.specs.Hits.{place_of}
use Rattle.race_set.specs.declared.shape.AccessShape.{AccessShape}
use Rattle.race_set.specs.declared.shape.Span.{Span}
use Rattle.race_set.specs.Accesses.{shape_at}
use Rattle.race_set.specs.Bytes.{covers, may_be_at, may_write, number_in, surely_at, surely_writes}
use Rattle.race_set.specs.Runs.{AreWrites, IsAccess, IsFixed, IsNewest, IsTotal, Sees}
use Rattle.term_sources.specs.Sees.{SeesAt, SeesWrite, access_at, address_value, guard_value, hits, value_of}
use Rattle.fixed_reads.specs.Shapes.{AreShapes, IsShapeOf, IsTotalOf}
use Rattle.fixed_reads.specs.Law.{InitialBytes, WrittenBytes, byte_at}
use Rattle.fixed_reads.proofs.Numbers.{far_back, far_there, number_is, number_of, one_byte, reaches, reaches_from, reaches_to}

abbrev no_shape : AccessShape
no_shape = record { pos = record { thread = 0; step = 0 }; reads = false; writes = false; place = None; link = None }

get_or_any : {X : Type 0} (xs : List X) (k : ℕ) (d e : X) → k < length xs → get_or xs k d ≡ get_or xs k e
get_or_any [] k d e less = absurd (omega (arith, less))
get_or_any (x ∷ xs) zero d e less = refl
get_or_any (x ∷ xs) (suc k) d e less = get_or_any xs k d e (omega (arith, less))

-- what is known of accesses, their shapes, and an order
pub record Scene : Type 0 where
  pub image : Layout
  pub log : Log
  pub nodes : List Shape
  pub accesses : List Access
  pub shapes : List AccessShape
  pub t : Assignment
  pub lt : ℕ → ℕ → Bool
  pub x : ℕ
  pub i : ℕ
  pub are : AreShapes nodes accesses shapes
  pub order : IsTotalOf log accesses lt
  pub reader : x < length accesses

abbrev pub here : Scene → ℕ → Access
here s y = access_at s.accesses y

abbrev pub count : Scene → ℕ
count s = length s.accesses

abbrev pub byte : Scene → ℕ
byte s = byte_at s.t s.nodes s.accesses s.x s.i

abbrev pub shape : Scene → ℕ → AccessShape
shape s y = shape_at s.shapes y

shape_is : (s : Scene) (y : ℕ) → y < count s → IsShapeOf s.nodes (here s y) (shape s y)
shape_is s y less = s.are.each y less

-- ---- the order and the writes, by positions

abbrev pub before : Scene → Pos → Pos → Bool
before s p q = s.lt (number_of s.accesses p) (number_of s.accesses q)

-- an access takes place and writes the byte
abbrev pub takes : Scene → ℕ → Bool
takes s y = nat_eq (guard_value s.t s.nodes (here s y)) 1 && reaches (length (here s y).writes) (address_value s.t s.nodes (here s y)) (byte s)

abbrev pub writes : Scene → Pos → Bool
writes s p = takes s (number_of s.accesses p)

number_at : (s : Scene) (y : ℕ) → y < count s → number_of s.accesses (here s y).pos ≡ y
number_at s y less = number_is s.accesses y s.are.differ less

before_is : (s : Scene) (y z : ℕ) → y < count s → z < count s → before s (here s y).pos (here s z).pos ≡ s.lt y z
before_is s y z there within = ap (λ (n : ℕ). s.lt n (number_of s.accesses (here s z).pos)) (number_at s y there) ∙ ap (s.lt y) (number_at s z within)

writes_is : (s : Scene) (y : ℕ) → y < count s → writes s (here s y).pos ≡ takes s y
writes_is s y there = ap (takes s) (number_at s y there)

-- a listed shape is that of an access
pub record IsNumbered (s : Scene) (p : Pos) : Type 0 where
  pub number : ℕ
  pub there : number < count s
  pub is : (here s number).pos ≡ p

numbered_shape : (s : Scene) (a : AccessShape) → Contains s.shapes a → (y : ℕ) × (y < count s) × (shape s y ≡ a)
numbered_shape s a listed = (listed.0, omega (arith, listed.1, s.are.count), get_or_any s.shapes listed.0 no_shape a listed.1 ∙ listed.2)

numbered : (s : Scene) (p : Pos) → IsAccess s.shapes p → IsNumbered s p
numbered s p access =
    let found : (y : ℕ) × (y < count s) × (shape s y ≡ access.access) = numbered_shape s access.access access.listed in record {
      number = found.0;
      there = found.1;
      is = sym (shape_is s found.0 found.1).pos ∙ ap (λ (a : AccessShape). a.pos) found.2 ∙ access.is;
    }

access_of : (s : Scene) (y : ℕ) → y < count s → IsAccess s.shapes (here s y).pos
access_of s y there = record {
  access = shape s y;
  listed = let within : y < length s.shapes = omega (arith, there, s.are.count) in (y, within, get_or_any s.shapes y (shape s y) no_shape within);
  is = (shape_is s y there).pos;
}

number_there : (s : Scene) (p : Pos) → IsNumbered s p → number_of s.accesses p < count s
number_there s p n = subst (λ (q : Pos). number_of s.accesses q < count s) n.is (subst (λ (k : ℕ). k < count s) (sym (number_at s n.number n.there)) n.there)

pos_there : (s : Scene) (p : Pos) → IsNumbered s p → (here s (number_of s.accesses p)).pos ≡ p
pos_there s p n =
    ap (λ (q : Pos). (here s (number_of s.accesses q)).pos) (sym n.is) ∙ ap (λ (k : ℕ). (here s k).pos) (number_at s n.number n.there) ∙ n.is

pub is_total : (s : Scene) → IsTotal s.log s.shapes (before s)
is_total s = record {
  irreflexive = λ (p : Pos) (a : IsAccess s.shapes p). s.order.irreflexive (number_of s.accesses p) (number_there s p (numbered s p a));
  transitive = λ (p q r : Pos) (a : IsAccess s.shapes p) (b : IsAccess s.shapes q) (c : IsAccess s.shapes r).
      s.order.transitive (number_of s.accesses p) (number_of s.accesses q) (number_of s.accesses r)
      (number_there s p (numbered s p a)) (number_there s q (numbered s q b)) (number_there s r (numbered s r c));
  total = λ (p q : Pos) (a : IsAccess s.shapes p) (b : IsAccess s.shapes q) (differs : p ≢ q).
      s.order.total (number_of s.accesses p) (number_of s.accesses q) (number_there s p (numbered s p a)) (number_there s q (numbered s q b))
      (λ (e : number_of s.accesses p ≡ number_of s.accesses q). differs (sym (pos_there s p (numbered s p a))
      ∙ ap (λ (k : ℕ). (here s k).pos) e ∙ pos_there s q (numbered s q b)));
  agrees = λ (p q : Pos) (a : IsAccess s.shapes p) (b : IsAccess s.shapes q) (r : RecordedOrder s.log p q).
      s.order.agrees (number_of s.accesses p) (number_of s.accesses q) (number_there s p (numbered s p a)) (number_there s q (numbered s q b))
      (subst (λ (u : Pos). RecordedOrder s.log u (here s (number_of s.accesses q)).pos) (sym (pos_there s p (numbered s p a)))
      (subst (RecordedOrder s.log p) (sym (pos_there s q (numbered s q b))) r));
}

-- ---- which accesses write the byte

pub record Takes (s : Scene) (y : ℕ) : Type 0 where
  pub guard : guard_value s.t s.nodes (here s y) ≡ 1
  pub m : ℕ
  pub within : m < length (here s y).writes
  pub place : place_of (address_value s.t s.nodes (here s y)) m ≡ byte s

takes_to : (s : Scene) (y : ℕ) → takes s y ≡ true → Takes s y
takes_to s y e =
    let parts = and_parts (nat_eq (guard_value s.t s.nodes (here s y)) 1) (reaches (length (here s y).writes) (address_value s.t s.nodes (here s y)) (byte s)) e in
    let found : (m : ℕ) × (m < length (here s y).writes) × (place_of (address_value s.t s.nodes (here s y)) m ≡ byte s) =
    reaches_to (length (here s y).writes) (address_value s.t s.nodes (here s y)) (byte s) parts.1 in
    record { guard = eqb-true (guard_value s.t s.nodes (here s y)) 1 parts.0; m = found.0; within = found.1; place = found.2 }

takes_from : (s : Scene) (y : ℕ) → Takes s y → takes s y ≡ true
takes_from s y it =
    and_from _ _ (eq-eqb (guard_value s.t s.nodes (here s y)) 1 it.guard)
    (reaches_from (length (here s y).writes) (address_value s.t s.nodes (here s y)) (byte s) it.m it.within it.place)

-- a hit of the reader's byte
hit_takes : (s : Scene) (y m : ℕ) → m < length (here s y).writes → hits s.t s.nodes (here s y) m (here s s.x) s.i ≡ true → Takes s y
hit_takes s y m within e =
    let parts = and_parts (nat_eq (guard_value s.t s.nodes (here s y)) 1) (nat_eq (place_of (address_value s.t s.nodes (here s y)) m) (byte s)) e in record {
      guard = eqb-true (guard_value s.t s.nodes (here s y)) 1 parts.0;
      m = m;
      within = within;
      place = eqb-true (place_of (address_value s.t s.nodes (here s y)) m) (byte s) parts.1;
    }

takes_hit : (s : Scene) (y m : ℕ) → guard_value s.t s.nodes (here s y) ≡ 1 → place_of (address_value s.t s.nodes (here s y)) m ≡ byte s
    → hits s.t s.nodes (here s y) m (here s s.x) s.i ≡ true
takes_hit s y m guard place =
    and_from _ _ (eq-eqb (guard_value s.t s.nodes (here s y)) 1 guard) (eq-eqb (place_of (address_value s.t s.nodes (here s y)) m) (byte s) place)

byte_below : (s : Scene) → byte s < 2 ^ 32
byte_below s = let h : (address_value s.t s.nodes (here s s.x) + s.i) % 2 ^ 32 < 2 ^ 32 = omega arith in h

first_below : (first m b : ℕ) → (first + m) % 2 ^ 32 ≡ b → b < 2 ^ 32
first_below first m b e = omega (arith, e)

-- a byte of a span is covered by it
covered : (span : Span) (m b : ℕ) → span.first < 2 ^ 32 → m < 2 ^ 32 → m < span.len → (span.first + m) % 2 ^ 32 ≡ b → b < 2 ^ 32 → covers b span ≡ true
covered span m b first few less place below =
    and_from _ _ (lt-ltb b (2 ^ 32) below)
    (lt-ltb (number_in span b) span.len (subst (λ (n : ℕ). n < span.len) (sym (ap (λ (n : ℕ). (n + (2 ^ 32 - span.first)) % 2 ^ 32) (sym place) ∙ far_back span.first m first few)) less))

may_by : (s : Scene) (y : ℕ) (place : Option Span) → y < count s → (shape s y).place ≡ place → (shape s y).writes ≡ true → Takes s y → may_be_at (byte s) place ≡ true
may_by s y None there e wrote it = refl
may_by s y (Some span) there e wrote it =
    let is : IsShapeOf s.nodes (here s y) (shape s y) = shape_is s y there in
    let many : length (here s y).writes ≡ span.len = is.many span e wrote in
    let most : length (here s y).writes ≤ 2 ^ 32 = s.are.few y there in
    let within : it.m < length (here s y).writes = it.within in
    covered span it.m (byte s) (is.first span e) (omega (arith, within, most)) (subst (λ (n : ℕ). it.m < n) many within)
    (ap (λ (n : ℕ). place_of n it.m) (sym (is.address span e s.t)) ∙ it.place) (byte_below s)

writes_by : (s : Scene) (y : ℕ) (b : Bool) → y < count s → (shape s y).writes ≡ b → Takes s y → b ≡ true
writes_by s y true there e it = refl
writes_by s y false there e it = absurd ((shape_is s y there).silent e s.t it.m it.within it.guard)

may_at : (s : Scene) (y : ℕ) → y < count s → Takes s y → may_write (byte s) (shape s y) ≡ true
may_at s y there it =
    let wrote : (shape s y).writes ≡ true = writes_by s y (shape s y).writes there refl it in
    and_from _ _ wrote (may_by s y (shape s y).place there refl wrote it)

-- what a span covers is one of its bytes
surely_by : (s : Scene) (y : ℕ) (place : Option Span) → y < count s → (shape s y).place ≡ place → (shape s y).writes ≡ true → guard_value s.t s.nodes (here s y) ≡ 1
    → surely_at (byte s) place ≡ true → Takes s y
surely_by s y None there e wrote guard sure = absurd (false≢true sure)
surely_by s y (Some span) there e wrote guard sure =
    let is : IsShapeOf s.nodes (here s y) (shape s y) = shape_is s y there in
    let parts = and_parts (nat_lt (byte s) (2 ^ 32)) (nat_lt (number_in span (byte s)) span.len) sure in
    let less : number_in span (byte s) < span.len = ltb-true (number_in span (byte s)) span.len parts.1 in record {
      guard = guard;
      m = number_in span (byte s);
      within = subst (λ (n : ℕ). number_in span (byte s) < n) (sym (is.many span e wrote)) less;
      place = ap (λ (n : ℕ). place_of n (number_in span (byte s))) (is.address span e s.t) ∙ far_there span.first (byte s) (is.first span e) (byte_below s);
    }

none_by : (o : Option Pos) → is_none o ≡ true → o ≡ None
none_by None e = refl
none_by (Some p) e = absurd (false≢true e)

surely_there : (s : Scene) (y : ℕ) → y < count s → surely_writes (byte s) (shape s y) ≡ true → Takes s y
surely_there s y there e =
    let first = and_parts (shape s y).writes (is_none (shape s y).link && surely_at (byte s) (shape s y).place) e in
    let second = and_parts (is_none (shape s y).link) (surely_at (byte s) (shape s y).place) first.1 in
    surely_by s y (shape s y).place there refl first.0 ((shape_is s y there).certain first.0 (none_by (shape s y).link second.0) s.t) second.1

pub are_writes : (s : Scene) → AreWrites s.shapes (byte s) (writes s)
are_writes s = record {
  may = λ (a : AccessShape) (listed : Contains s.shapes a) (e : writes s a.pos ≡ true).
      let found : (y : ℕ) × (y < count s) × (shape s y ≡ a) = numbered_shape s a listed in
      let pos : (here s found.0).pos ≡ a.pos = sym (shape_is s found.0 found.1).pos ∙ ap (λ (b : AccessShape). b.pos) found.2 in
      subst (λ (b : AccessShape). may_write (byte s) b ≡ true) found.2
      (may_at s found.0 found.1 (takes_to s found.0 (sym (writes_is s found.0 found.1) ∙ ap (writes s) pos ∙ e)));
  surely = λ (a : AccessShape) (listed : Contains s.shapes a) (e : surely_writes (byte s) a ≡ true).
      let found : (y : ℕ) × (y < count s) × (shape s y ≡ a) = numbered_shape s a listed in
      let pos : (here s found.0).pos ≡ a.pos = sym (shape_is s found.0 found.1).pos ∙ ap (λ (b : AccessShape). b.pos) found.2 in
      sym (ap (writes s) pos) ∙ writes_is s found.0 found.1
      ∙ takes_from s found.0 (surely_there s found.0 found.1 (ap (surely_writes (byte s)) found.2 ∙ e));
}

-- ---- what is seen

abbrev SeesHere : Scene → Type 0
SeesHere s = SeesAt s.image s.t s.nodes s.accesses s.lt s.x s.i

none_seen : (s : Scene) → Sees s.shapes (before s) (writes s) (here s s.x).pos None → (y m : ℕ) → y < count s → m < length (here s y).writes
    → s.lt y s.x ≡ true → hits s.t s.nodes (here s y) m (here s s.x) s.i ≡ true → ⊥
none_seen s none y m there within older hit =
    none (here s y).pos (access_of s y there) (writes_is s y there ∙ takes_from s y (hit_takes s y m within hit)) (before_is s y s.x there s.reader ∙ older)

initial_here : (s : Scene) → IsFixed s.log s.shapes (byte s) (here s s.x).pos None
    → SeesHere s ↔ (value_of s.t s.nodes (here s s.x).reads s.i ≡ byte_in (opening_cells s.image (byte s)))
initial_here s fixed =
    let none : Sees s.shapes (before s) (writes s) (here s s.x).pos None = fixed (before s) (writes s) (is_total s) (are_writes s) in (
      λ (sees : SeesHere s). elim sees [
        | inl wrote ↦ absurd (none_seen s none wrote.writer wrote.byte wrote.there wrote.within wrote.older wrote.is_hit)
        | inr initial ↦ initial.reads
      ],
      λ (e : value_of s.t s.nodes (here s s.x).reads s.i ≡ byte_in (opening_cells s.image (byte s))). inr (record { none = none_seen s none; reads = e }),
    )

-- the fixed write is the newest by numbers
pub record IsSource (s : Scene) (y : ℕ) : Type 0 where
  pub takes_it : Takes s y
  pub older : s.lt y s.x ≡ true
  pub newest : (z m : ℕ) → z < count s → m < length (here s z).writes → z ≢ y → s.lt z s.x ≡ true → hits s.t s.nodes (here s z) m (here s s.x) s.i ≡ true → s.lt z y ≡ true

pub source_of : (s : Scene) (y : ℕ) → y < count s → IsNewest s.shapes (before s) (writes s) (here s s.x).pos (here s y).pos → IsSource s y
source_of s y there newest = record {
  takes_it = takes_to s y (sym (writes_is s y there) ∙ newest.takes_place);
  older = sym (before_is s y s.x there s.reader) ∙ newest.older;
  newest = λ (z m : ℕ) (within : z < count s) (less : m < length (here s z).writes) (differs : z ≢ y) (older : s.lt z s.x ≡ true)
      (hit : hits s.t s.nodes (here s z) m (here s s.x) s.i ≡ true).
      sym (before_is s z y within there)
      ∙ newest.newest (here s z).pos (access_of s z within) (writes_is s z within ∙ takes_from s z (hit_takes s z m less hit))
      (before_is s z s.x within s.reader ∙ older)
      (λ (e : (here s z).pos ≡ (here s y).pos). differs (sym (number_at s z within) ∙ ap (number_of s.accesses) e ∙ number_at s y there));
}

same_byte : (s : Scene) (y m k : ℕ) → y < count s → m < length (here s y).writes → k < length (here s y).writes
    → place_of (address_value s.t s.nodes (here s y)) m ≡ byte s → place_of (address_value s.t s.nodes (here s y)) k ≡ byte s → m ≡ k
same_byte s y m k there less_m less_k e f =
    let most : length (here s y).writes ≤ 2 ^ 32 = s.are.few y there in
    one_byte (address_value s.t s.nodes (here s y)) m k (byte s) (omega (arith, less_m, most)) (omega (arith, less_k, most)) e f

-- the newest write that is seen is the source
seen_source : (s : Scene) (y m : ℕ) → y < count s → m < length (here s y).writes → place_of (address_value s.t s.nodes (here s y)) m ≡ byte s → IsSource s y
    → SeesWrite s.t s.nodes s.accesses s.lt s.x s.i → value_of s.t s.nodes (here s s.x).reads s.i ≡ value_of s.t s.nodes (here s y).writes m
seen_source s y m there within place source sees = elim (cases_eq sees.writer y) [
  | inl same ↦ sees.reads ∙ ap (λ (z : ℕ). value_of s.t s.nodes (here s z).writes sees.byte) same
      ∙ ap (value_of s.t s.nodes (here s y).writes) (same_byte s y sees.byte m there (subst (λ (z : ℕ). sees.byte < length (here s z).writes) same sees.within) within
      (ap (λ (z : ℕ). place_of (address_value s.t s.nodes (here s z)) sees.byte) (sym same) ∙ own_place) place)
  | inr differs ↦ absurd (false≢true (sym (s.order.irreflexive y there)
      ∙ s.order.transitive y sees.writer y there sees.there there
      (sees.newest y m there within (λ (e : y ≡ sees.writer). differs (sym e)) source.older (takes_hit s y m source.takes_it.guard place))
      (source.newest sees.writer sees.byte sees.there sees.within differs sees.older sees.is_hit)))
] where
  own_place : place_of (address_value s.t s.nodes (here s sees.writer)) sees.byte ≡ byte s
  own_place = eqb-true (place_of (address_value s.t s.nodes (here s sees.writer)) sees.byte) (byte s)
      (and_parts (nat_eq (guard_value s.t s.nodes (here s sees.writer)) 1) (nat_eq (place_of (address_value s.t s.nodes (here s sees.writer)) sees.byte) (byte s)) sees.is_hit).1

written_here : (s : Scene) (y m : ℕ) → y < count s → m < length (here s y).writes → place_of (address_value s.t s.nodes (here s y)) m ≡ byte s
    → IsFixed s.log s.shapes (byte s) (here s s.x).pos (Some (here s y).pos)
    → SeesHere s ↔ (value_of s.t s.nodes (here s s.x).reads s.i ≡ value_of s.t s.nodes (here s y).writes m)
written_here s y m there within place fixed =
    let source : IsSource s y = source_of s y there (fixed (before s) (writes s) (is_total s) (are_writes s)) in (
      λ (sees : SeesHere s). elim sees [
        | inl wrote ↦ seen_source s y m there within place source wrote
        | inr initial ↦ absurd (initial.none y m there within source.older (takes_hit s y m source.takes_it.guard place))
      ],
      λ (e : value_of s.t s.nodes (here s s.x).reads s.i ≡ value_of s.t s.nodes (here s y).writes m). inl (record {
        writer = y;
        byte = m;
        there = there;
        within = within;
        older = source.older;
        is_hit = takes_hit s y m source.takes_it.guard place;
        newest = source.newest;
        reads = e;
      }),
    )

-- ---- the laws

scene_of : (image : Layout) (log : Log) (nodes : List Shape) (accesses : List Access) (shapes : List AccessShape) (t : Assignment) (lt : ℕ → ℕ → Bool) (x i : ℕ)
    → AreShapes nodes accesses shapes → IsTotalOf log accesses lt → x < length accesses → Scene
scene_of image log nodes accesses shapes t lt x i are order less = record {
  image = image;
  log = log;
  nodes = nodes;
  accesses = accesses;
  shapes = shapes;
  t = t;
  lt = lt;
  x = x;
  i = i;
  are = are;
  order = order;
  reader = less;
}

pub initial_bytes : InitialBytes
unfolding scene_of
initial_bytes image log nodes accesses shapes t lt x i are order less = initial_here (scene_of image log nodes accesses shapes t lt x i are order less)

pub written_bytes : WrittenBytes
unfolding scene_of
written_bytes image log nodes accesses shapes t lt x i y m are order less there within place =
    written_here (scene_of image log nodes accesses shapes t lt x i are order less) y m there within place
