-- A source that is found is the one in every run.
use Rattle.std.specs.Prelude.{◌≡◌, ℕ, ◌+◌, ◌-◌, ◌%◌, ◌<◌, ◌^◌, ◌&&◌, Bool, true, List, length, nat_lt, Option, Some, None, IfNone, IfSome, is_none, is_some, Contains, refl}
use Rattle.std.proofs.Common.{sym, ◌∙◌, ap, subst, arith}
use Rattle.std.proofs.lemmas.Bool.{and_from, and_parts, ltb-true, false≢true}
use Rattle.std.proofs.lemmas.Nat.{pow_pos}
use Rattle.odr_log.specs.declared.log.Pos.{Pos}
use Rattle.bv_terms.specs.Values.{Assignment}
use Rattle.thread_terms.specs.declared.access.Access.{Access}
use Rattle.hit_terms.specs.Hits.{place_of}
use Rattle.race_set.specs.declared.reading.Seen.{Seen}
use Rattle.race_set.specs.declared.shape.AccessShape.{AccessShape}
use Rattle.race_set.specs.declared.shape.Span.{Span}
use Rattle.race_set.specs.Accesses.{shape_at}
use Rattle.race_set.specs.Bytes.{byte_of, covers, may_be_at, may_write, number_in, surely_at, surely_writes}
use Rattle.race_set.specs.Runs.{AreWrites, IsFixed, IsNewest, IsTotal}
use Rattle.race_set.proofs.Numbers.{listed_at, number_of_listed}
use Rattle.term_sources.specs.Sees.{access_at}
use Rattle.fixed_reads.specs.Law.{byte_at}
use Rattle.fixed_reads.specs.Shapes.{IsShapeOf}
use Rattle.fixed_reads.proofs.Numbers.{number_is, number_of}
use Rattle.fixed_reads.proofs.Fixed.{before, is_total}
use Rattle.fixed_reads.proofs.Fixed.{Scene as FixedScene}
use Rattle.formula_parts.specs.Order.{Setting}
use Rattle.same_parts.specs.Same.{IsFixedByte}
use Rattle.read_spots.specs.declared.source.Source.{Source}
use Rattle.read_spots.specs.declared.source.Source.TheVariants as source
use Rattle.read_spots.specs.Spots.{IsOpenByte}
use Rattle.read_spots.specs.Sources.{IsByteThere, HasReadTerms, IsFoundAt, IsSeenIn, IsSourceIn}
use Rattle.read_spots.proofs.Covering.{covers_own}

-- what is known of a byte at a known address
pub record Traced : Type 0 where
  pub setting : Setting
  pub shapes : List AccessShape
  pub seen : List Seen
  pub x : ℕ
  pub i : ℕ
  pub there : x < length shapes
  pub small : i < 2 ^ 32
  pub is : IsSeenIn setting shapes seen x i
  pub span : Span
  pub place : (shape_at shapes x).place ≡ Some span

abbrev here : Traced → ℕ → Access
here s y = access_at s.setting.accesses y

abbrev shape : Traced → ℕ → AccessShape
shape s y = shape_at s.shapes y

abbrev count : Traced → ℕ
count s = length s.setting.accesses

abbrev address : Traced → ℕ
address s = byte_of s.span s.i

reader_in : (s : Traced) → s.x < count s
reader_in s = let many : length s.shapes ≡ length s.setting.accesses = s.is.are.count in let there : s.x < length s.shapes = s.there in omega (arith, there, many)

shape_is : (s : Traced) (y : ℕ) → y < count s → IsShapeOf s.setting.nodes (here s y) (shape s y)
shape_is s y less = s.is.are.each y less

in_shapes : (s : Traced) (y : ℕ) → y < count s → y < length s.shapes
in_shapes s y less = let many : length s.shapes ≡ length s.setting.accesses = s.is.are.count in omega (arith, less, many)

in_accesses : (s : Traced) (y : ℕ) → y < length s.shapes → y < count s
in_accesses s y less = let many : length s.shapes ≡ length s.setting.accesses = s.is.are.count in omega (arith, less, many)

-- ---- some run

zeros : Assignment
zeros = record { value_of = λ width number. 0; below = λ width number. pow_pos width }

scene : Traced → FixedScene
scene s = record {
  image = s.setting.image;
  log = s.setting.log;
  nodes = s.setting.nodes;
  accesses = s.setting.accesses;
  shapes = s.shapes;
  t = zeros;
  lt = s.is.order;
  x = s.x;
  i = s.i;
  are = s.is.are;
  order = s.is.is_order;
  reader = reader_in s;
}

some_total : (s : Traced) → (b : Pos → Pos → Bool) × IsTotal s.setting.log s.shapes b
unfolding scene
some_total s = (before (scene s), is_total (scene s))

-- the run in which only sure writes take place
abbrev surely : Traced → Pos → Bool
surely s p = surely_writes (address s) (shape s (number_of s.setting.accesses p))

surely_is : (s : Traced) (y : ℕ) → y < count s → surely s (shape s y).pos ≡ surely_writes (address s) (shape s y)
surely_is s y less =
    ap (λ (p : Pos). surely s p) (shape_is s y less).pos
    ∙ ap (λ (n : ℕ). surely_writes (address s) (shape s n)) (number_is s.setting.accesses y s.is.are.differ less)

may_be_there : (byte : ℕ) (place : Option Span) → surely_at byte place ≡ true → may_be_at byte place ≡ true
may_be_there byte None e = refl
may_be_there byte (Some span) e = e

may_surely : (byte : ℕ) (a : AccessShape) → surely_writes byte a ≡ true → may_write byte a ≡ true
may_surely byte a e =
    let first = and_parts a.writes (is_none a.link && surely_at byte a.place) e in
    let second = and_parts (is_none a.link) (surely_at byte a.place) first.1 in
    and_from a.writes (may_be_at byte a.place) first.0 (may_be_there byte a.place second.1)

listed_is : (s : Traced) (a : AccessShape) → Contains s.shapes a → surely s a.pos ≡ surely_writes (address s) a
listed_is s a listed =
    let found : (y : ℕ) × (y < length s.shapes) × (shape s y ≡ a) = number_of_listed s.shapes a listed in
    subst (λ (b : AccessShape). surely s b.pos ≡ surely_writes (address s) b) found.2 (surely_is s found.0 (in_accesses s found.0 found.1))

are_writes : (s : Traced) → AreWrites s.shapes (address s) (surely s)
are_writes s = record {
  may = λ (a : AccessShape) (listed : Contains s.shapes a) (e : surely s a.pos ≡ true). may_surely (address s) a (sym (listed_is s a listed) ∙ e);
  surely = λ (a : AccessShape) (listed : Contains s.shapes a) (e : surely_writes (address s) a ≡ true). listed_is s a listed ∙ e;
}

-- ---- the write that is seen in every run

pub record IsWriter (s : Traced) (p : Pos) (y : ℕ) : Type 0 where
  pub inside : y < count s
  pub is : (shape s y).pos ≡ p
  pub sure : surely_writes (address s) (shape s y) ≡ true

writer_of : (s : Traced) (p : Pos) → IsFixed s.setting.log s.shapes (address s) (shape s s.x).pos (Some p) → (y : ℕ) × IsWriter s p y
writer_of s p fixed =
    let run = some_total s in
    let newest : IsNewest s.shapes run.0 (surely s) (shape s s.x).pos p = fixed run.0 (surely s) run.1 (are_writes s) in
    let found : (y : ℕ) × (y < length s.shapes) × (shape s y ≡ newest.access.access) = number_of_listed s.shapes newest.access.access newest.access.listed in
    let is : (shape s found.0).pos ≡ p = ap (λ (a : AccessShape). a.pos) found.2 ∙ newest.access.is in (
      found.0,
      record {
        inside = in_accesses s found.0 found.1;
        is = is;
        sure = sym (surely_is s found.0 (in_accesses s found.0 found.1)) ∙ ap (λ (q : Pos). surely s q) is ∙ newest.takes_place;
      },
    )

-- no other access is at its position
one_at : (s : Traced) (y z : ℕ) → y < count s → z < count s → (shape s y).pos ≡ (shape s z).pos → y ≡ z
one_at s y z less other e =
    sym (number_is s.setting.accesses y s.is.are.differ less)
    ∙ ap (number_of s.setting.accesses) (sym (shape_is s y less).pos ∙ e ∙ (shape_is s z other).pos)
    ∙ number_is s.setting.accesses z s.is.are.differ other

-- ---- what every assignment says

address_is : (s : Traced) (t : Assignment) → byte_at t s.setting.nodes s.setting.accesses s.x s.i ≡ address s
address_is s t = ap (λ (n : ℕ). place_of n s.i) ((shape_is s s.x (reader_in s)).address s.span s.place t)

fixed_byte : (s : Traced) (writer : Option Pos) → IsFixed s.setting.log s.shapes (address s) (shape s s.x).pos writer
    → HasReadTerms s.setting s.x s.i → IsFixedByte s.setting s.shapes s.x s.i writer
fixed_byte s writer fixed has = record {
  are = s.is.are;
  there = reader_in s;
  within = has.within;
  read = has.read;
  address = has.address;
  fixed = λ (t : Assignment).
      subst (λ (b : ℕ). IsFixed s.setting.log s.shapes b (here s s.x).pos writer) (sym (address_is s t))
      (subst (λ (p : Pos). IsFixed s.setting.log s.shapes (address s) p writer) (shape_is s s.x (reader_in s)).pos fixed);
}

back_there : (first b : ℕ) → first < 2 ^ 32 → b < 2 ^ 32 → (first + (b + (2 ^ 32 - first)) % 2 ^ 32) % 2 ^ 32 ≡ b
back_there first b first_in b_in = omega (arith, first_in, b_in)

in_range : (n : ℕ) → n % 2 ^ 32 < 2 ^ 32
in_range n = omega arith

written_there : (s : Traced) (p : Pos) (y : ℕ) (from : Span) → IsWriter s p y → (shape s y).place ≡ Some from
    → IsByteThere s.setting s.x s.i y (number_in from (address s))
written_there s p y from w e =
    let first = and_parts (shape s y).writes (is_none (shape s y).link && surely_at (address s) (shape s y).place) w.sure in
    let second = and_parts (is_none (shape s y).link) (surely_at (address s) (shape s y).place) first.1 in
    let sure : covers (address s) from ≡ true = sym (ap (surely_at (address s)) e) ∙ second.1 in
    let parts = and_parts (nat_lt (address s) (2 ^ 32)) (nat_lt (number_in from (address s)) from.len) sure in record {
      there = w.inside;
      within = subst (λ (n : ℕ). number_in from (address s) < n) (sym ((shape_is s y w.inside).many from e first.0))
          (ltb-true (number_in from (address s)) from.len parts.1);
      place = λ (t : Assignment).
          ap (λ (n : ℕ). place_of n (number_in from (address s))) ((shape_is s y w.inside).address from e t)
          ∙ back_there from.first (address s) ((shape_is s y w.inside).first from e) (in_range (s.span.first + s.i))
          ∙ sym (address_is s t);
    }

-- ---- the answers

-- what is listed is a fixed reading
fixed_of : (s : Traced) (r : Seen) → Contains s.seen r → r.reader ≡ (shape s s.x).pos → r.byte ≡ address s
    → IsFixed s.setting.log s.shapes (address s) (shape s s.x).pos r.from
fixed_of s r listed reader byte =
    subst (λ (b : ℕ). IsFixed s.setting.log s.shapes b (shape s s.x).pos r.from) byte
    (subst (λ (p : Pos). IsFixed s.setting.log s.shapes r.byte p r.from) reader ((s.is.exact r).0 listed).fixed)

-- where none is listed the byte is open
none_listed : (s : Traced) → ((r : Seen) → Contains s.seen r → r.reader ≡ (shape s s.x).pos → r.byte ≡ address s → ⊥)
    → (writer : Option Pos) → IsFixed s.setting.log s.shapes (address s) (shape s s.x).pos writer → ⊥
none_listed s none writer fixed =
    let r : Seen = record { reader = (shape s s.x).pos; byte = address s; from = writer } in
    let small : s.i < 2 ^ 32 = s.small in
    none r ((s.is.exact r).1 (record {
      reader = shape s s.x;
      listed = listed_at s.shapes s.x s.there;
      is = refl;
      reads = and_from (shape s s.x).reads (surely_at (address s) (shape s s.x).place) s.is.reads
          (ap (surely_at (address s)) s.place ∙ covers_own s.span s.i ((shape_is s s.x (reader_in s)).first s.span s.place) small (s.is.within s.span s.place));
      fixed = fixed;
    })) refl refl

same_span : (a b : Span) → Some a ≡ Some b → a ≡ b
same_span a b e = ap (λ (o : Option Span). span_or a o) e
  where
    span_or : Span → Option Span → Span
    span_or c None = c
    span_or c (Some d) = d

-- one that is found stands for the write
found_is : (s : Traced) (p : Pos) (o : Source) → IsFixed s.setting.log s.shapes (address s) (shape s s.x).pos (Some p)
    → IsFoundAt s.shapes p (address s) o → IsSourceIn s.setting s.shapes s.x s.i o
found_is s p source.Open fixed none =
    absurd (no_place (shape s w.0).place refl)
  where
    w : (y : ℕ) × IsWriter s p y
    w = writer_of s p fixed

    no_place : (o : Option Span) → (shape s w.0).place ≡ o → ⊥
    no_place None e =
        let first = and_parts (shape s w.0).writes (is_none (shape s w.0).link && surely_at (address s) (shape s w.0).place) w.1.sure in
        let second = and_parts (is_none (shape s w.0).link) (surely_at (address s) (shape s w.0).place) first.1 in
        false≢true (sym (ap (surely_at (address s)) e) ∙ second.1)
    no_place (Some from) e =
        none w.0 from (in_shapes s w.0 w.1.inside) w.1.is e
        (λ (z : ℕ) (less : z < length s.shapes) (is : (shape s z).pos ≡ p). one_at s z w.0 (in_accesses s z less) w.1.inside (is ∙ sym w.1.is))
found_is s p source.Initial fixed none = absurd none
found_is s p (source.Written y m) fixed found =
    let w = writer_of s p fixed in
    let inside : y < count s = in_accesses s y found.there in
    let same : w.0 ≡ y = one_at s w.0 y w.1.inside inside (w.1.is ∙ sym found.is) in
    let writer : IsWriter s p y = subst (IsWriter s p) same w.1 in (
      fixed_byte s (Some (here s y).pos) (subst (λ (q : Pos). IsFixed s.setting.log s.shapes (address s) (shape s s.x).pos (Some q)) (sym writer.is ∙ (shape_is s y inside).pos) fixed),
      subst (IsByteThere s.setting s.x s.i y) (sym found.number) (written_there s p y found.span writer found.place),
    )

traced : (setting : Setting) (shapes : List AccessShape) (seen : List Seen) (x i : ℕ) → x < length shapes → i < 2 ^ 32 → IsSeenIn setting shapes seen x i
    → (span : Span) → (shape_at shapes x).place ≡ Some span → Traced
traced setting shapes seen x i there small is span place =
    record { setting = setting; shapes = shapes; seen = seen; x = x; i = i; there = there; small = small; is = is; span = span; place = place }

some_span : (a b : Span) (o : Option Span) → o ≡ Some a → o ≡ Some b → a ≡ b
some_span a b o e f = same_span a b (sym e ∙ f)

pub unknown_address : (setting : Setting) (shapes : List AccessShape) (x i : ℕ) → (shape_at shapes x).place ≡ None → IsOpenByte setting.log shapes x i
unknown_address setting shapes x i none span e = absurd (false≢true (ap (λ (o : Option Span). is_some o) (sym none ∙ e)))

pub not_listed : (setting : Setting) (shapes : List AccessShape) (seen : List Seen) (x i : ℕ) (span : Span) (at : ℕ) → x < length shapes → i < 2 ^ 32
    → (shape_at shapes x).place ≡ Some span → at ≡ byte_of span i
    → ((r : Seen) → Contains seen r → r.reader ≡ (shape_at shapes x).pos → r.byte ≡ at → ⊥)
    → IsSeenIn setting shapes seen x i → IsOpenByte setting.log shapes x i
unfolding traced
not_listed setting shapes seen x i span at there small place same none is other e writer fixed =
    none_listed (traced setting shapes seen x i there small is span place)
    (subst (λ (b : ℕ). (r : Seen) → Contains seen r → r.reader ≡ (shape_at shapes x).pos → r.byte ≡ b → ⊥) same none) writer
    (subst (λ (a : Span). IsFixed setting.log shapes (byte_of a i) (shape_at shapes x).pos writer) (some_span other span (shape_at shapes x).place e place) fixed)

pub seen_initial : (setting : Setting) (shapes : List AccessShape) (seen : List Seen) (x i : ℕ) (span : Span) (at : ℕ) (r : Seen) → x < length shapes → i < 2 ^ 32
    → (shape_at shapes x).place ≡ Some span → at ≡ byte_of span i → Contains seen r → r.reader ≡ (shape_at shapes x).pos → r.byte ≡ at → r.from ≡ None
    → IsSeenIn setting shapes seen x i → IsSourceIn setting shapes x i source.Initial
unfolding traced
seen_initial setting shapes seen x i span at r there small place same listed reader byte none is =
    let s = traced setting shapes seen x i there small is span place in
    fixed_byte s None (subst (IsFixed setting.log shapes (byte_of span i) (shape_at shapes x).pos) none (fixed_of s r listed reader (byte ∙ same)))

pub seen_written : (setting : Setting) (shapes : List AccessShape) (seen : List Seen) (x i : ℕ) (span : Span) (at : ℕ) (r : Seen) (p : Pos) (o : Source)
    → x < length shapes → i < 2 ^ 32
    → (shape_at shapes x).place ≡ Some span → at ≡ byte_of span i → Contains seen r → r.reader ≡ (shape_at shapes x).pos → r.byte ≡ at → r.from ≡ Some p
    → IsFoundAt shapes p at o
    → IsSeenIn setting shapes seen x i → IsSourceIn setting shapes x i o
unfolding traced
seen_written setting shapes seen x i span at r p o there small place same listed reader byte from found is =
    let s = traced setting shapes seen x i there small is span place in
    found_is s p o (subst (IsFixed setting.log shapes (byte_of span i) (shape_at shapes x).pos) from (fixed_of s r listed reader (byte ∙ same)))
    (subst (λ (b : ℕ). IsFoundAt shapes p b o) same found)

pub told_none : (o : Option Seen) (P : Type 0) → o ≡ None → IfNone o P → P
told_none None P e holds = holds
told_none (Some r) P e holds = absurd (false≢true (sym (ap (λ (q : Option Seen). is_some q) e)))

pub told_some : (o : Option Seen) (r : Seen) (P : Seen → Type 0) → o ≡ Some r → IfSome o P → P r
told_some o r P e holds = subst (λ (q : Option Seen). IfSome q P) e holds
