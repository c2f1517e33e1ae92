-- What terms see in an order is what fits the order.
use Rattle.std.specs.Prelude.{◌≡◌, ◌≢◌, ◌↔◌, ℕ, ◌+◌, ◌<◌, ◌≤◌, Bool, true, false, cond, zero, suc, List, [], ◌∷◌, length, nat_eq, Option, Some, None, slice_index_or, refl}
use Rattle.std.proofs.Common.{sym, ◌∙◌, ap, subst, arith, inl, inr, eq-eqb}
use Rattle.std.proofs.lemmas.Bool.{and_from, and_parts, eqb-true}
use Rattle.std.proofs.lemmas.Option.{none-some}
use Rattle.elf_image.specs.declared.write.Write.{Write}
use Rattle.elf_image.specs.Layout.{Layout}
use Rattle.elf_image.specs.Memory.{writes_of}
use Rattle.odr_log.specs.declared.log.Pos.{Pos}
use Rattle.rv_model.specs.Noted.{writes_in}
use Rattle.bv_terms.specs.declared.node.TermId.{TermId}
use Rattle.bv_terms.specs.Shapes.{Shape}
use Rattle.bv_terms.specs.Values.{Assignment}
use Rattle.guided_walk.specs.Fits.{byte_address, read_count}
use Rattle.guided_walk.specs.Guided.{Visits, at}
use Rattle.guided_walk.specs.Orders.{In, Stands}
use Rattle.guided_walk.specs.Told.{IsPlace, told}
use Rattle.step_terms.specs.Bytes.{values}
use Rattle.thread_terms.specs.Given.{given_by}
use Rattle.thread_terms.specs.Steps.{is_written}
use Rattle.walk_facts.specs.Bytes.{HasRights}
use Rattle.walk_facts.specs.Links.{access_address}
use Rattle.walk_facts.proofs.Addresses.{counted_is_place}
use Rattle.walk_facts.proofs.Rights.{rights_law}
use Rattle.walk_facts.proofs.Writes.{address_law}
use Rattle.access_fits.specs.Fitting.{IsByteBefore, newest_in, written}
use Rattle.hit_terms.specs.Hits.{place_of}
use Rattle.term_sources.specs.Sees.{SeesAt, address_value, guard_value, hits, value_of}
use Rattle.term_sources.proofs.Scenes.{Scene, count, here, listed, positions, shown}
use Rattle.term_sources.proofs.Listed.{pos_in, in_pos, one_number}
use Rattle.term_sources.proofs.Written.{newest_there, newest_is, length_writes}

-- ---- what an access writes

value_mapped : (t : Assignment) (nodes : List Shape) (ids : List TermId) (m : ℕ) → m < length ids
    → slice_index_or (values t nodes ids) m 0 ≡ value_of t nodes ids m
value_mapped t nodes [] m less = absurd (omega (arith, less))
value_mapped t nodes (id ∷ ids) zero less = refl
value_mapped t nodes (id ∷ ids) (suc m) less = value_mapped t nodes ids m (omega (arith, less))

pub many_values : (t : Assignment) (nodes : List Shape) (ids : List TermId) → length (values t nodes ids) ≡ length ids
many_values t nodes [] = refl
many_values t nodes (id ∷ ids) = ap suc (many_values t nodes ids)

abbrev pub written_bytes : Scene → ℕ → List ℕ
written_bytes s y = values s.t s.nodes (here s y).writes

-- what takes place has at most 256 bytes
pub few_written : (s : Scene) (y : ℕ) → y < count s → is_written s.t s.nodes (here s y) ≡ true → length (written_bytes s y) ≤ 256
few_written s y less w =
    let p : Pos = (here s y).pos in
    let place : IsPlace (told s.log s.walk) p = counted_is_place s.image s.log s.walk s.is p (s.are.lists.only p (pos_in s.paths.accesses y less)).0 in
    let rights : HasRights s.image (at s.visits p) = rights_law s.image s.log s.walk (given_by s.t) s.visits p s.is s.fits s.guided place in
    let wrote : writes_in (at s.visits p).outcome ≡ writes_of (address_value s.t s.nodes (here s y)) (written_bytes s y) [] =
    (shown s y less).writes ∙ ap (λ (b : Bool). cond b (writes_of (address_value s.t s.nodes (here s y)) (written_bytes s y) []) []) w in
    let same : length (written_bytes s y) + length {A = Write} [] ≡ length rights.written + length {A = Write} [] =
    sym (length_writes (address_value s.t s.nodes (here s y)) (written_bytes s y) []) ∙ ap (length {A = Write}) (sym wrote ∙ rights.writes) ∙ length_writes _ rights.written [] in
    omega (arith, same, rights.within, rights.few)

pub written_where : (s : Scene) (y a : ℕ) → y < count s → is_written s.t s.nodes (here s y) ≡ true
    → written s.visits (here s y).pos a ≡ newest_in (writes_of (address_value s.t s.nodes (here s y)) (written_bytes s y) []) a
written_where s y a less w =
    ap (λ (ws : List Write). newest_in ws a) (shown s y less).writes
    ∙ ap (λ (b : Bool). newest_in (cond b (writes_of (address_value s.t s.nodes (here s y)) (written_bytes s y) []) []) a) w

-- a hit is a write of that byte
hit_writes : (s : Scene) (y m x i : ℕ) → y < count s → m < length (here s y).writes → hits s.t s.nodes (here s y) m (here s x) i ≡ true
    → written s.visits (here s y).pos (place_of (address_value s.t s.nodes (here s x)) i) ≡ Some (value_of s.t s.nodes (here s y).writes m)
hit_writes s y m x i less within hit =
    let parts = and_parts (nat_eq (guard_value s.t s.nodes (here s y)) 1) (nat_eq (place_of (address_value s.t s.nodes (here s y)) m) (place_of (address_value s.t s.nodes (here s x)) i)) hit in
    let same : place_of (address_value s.t s.nodes (here s y)) m ≡ place_of (address_value s.t s.nodes (here s x)) i =
    eqb-true (place_of (address_value s.t s.nodes (here s y)) m) (place_of (address_value s.t s.nodes (here s x)) i) parts.1 in
    let few : length (written_bytes s y) ≤ 256 = few_written s y less parts.0 in
    let many : length (written_bytes s y) ≡ length (here s y).writes = many_values s.t s.nodes (here s y).writes in
    written_where s y (place_of (address_value s.t s.nodes (here s x)) i) less parts.0
    ∙ ap (newest_in (writes_of (address_value s.t s.nodes (here s y)) (written_bytes s y) [])) (sym same)
    ∙ newest_there (address_value s.t s.nodes (here s y)) (written_bytes s y) [] m (s.words y less) (omega (arith, few)) (omega (arith, many, within))
    ∙ ap Some (value_mapped s.t s.nodes (here s y).writes m within)

pub record IsHitBy (s : Scene) (y x i byte : ℕ) : Type 0 where
  pub m : ℕ
  pub within : m < length (here s y).writes
  pub hit : hits s.t s.nodes (here s y) m (here s x) i ≡ true
  pub value : byte ≡ value_of s.t s.nodes (here s y).writes m

writes_by : (s : Scene) (y x i byte : ℕ) (b : Bool) → y < count s → is_written s.t s.nodes (here s y) ≡ b
    → written s.visits (here s y).pos (place_of (address_value s.t s.nodes (here s x)) i) ≡ Some byte → IsHitBy s y x i byte
writes_by s y x i byte false less w e =
    absurd (none-some byte (sym (ap (λ (ws : List Write). newest_in ws (place_of (address_value s.t s.nodes (here s x)) i)) (shown s y less).writes
    ∙ ap (λ (b : Bool). newest_in (cond b (writes_of (address_value s.t s.nodes (here s y)) (written_bytes s y) []) []) (place_of (address_value s.t s.nodes (here s x)) i)) w) ∙ e))
writes_by s y x i byte true less w e =
    let few : length (written_bytes s y) ≤ 256 = few_written s y less w in
    let many : length (written_bytes s y) ≡ length (here s y).writes = many_values s.t s.nodes (here s y).writes in
    let found : (m : ℕ) × (m < length (written_bytes s y)) × (place_of (address_value s.t s.nodes (here s y)) m ≡ place_of (address_value s.t s.nodes (here s x)) i) × (byte ≡ slice_index_or (written_bytes s y) m 0) =
    newest_is (address_value s.t s.nodes (here s y)) (written_bytes s y) (place_of (address_value s.t s.nodes (here s x)) i) byte (s.words y less) (omega (arith, few))
    (sym (written_where s y (place_of (address_value s.t s.nodes (here s x)) i) less w) ∙ e) in
    let within : found.0 < length (here s y).writes = omega (arith, many, found.1) in
    record {
      m = found.0;
      within = within;
      hit = and_from _ _ w (eq-eqb (place_of (address_value s.t s.nodes (here s y)) found.0) (place_of (address_value s.t s.nodes (here s x)) i) found.2);
      value = found.3 ∙ value_mapped s.t s.nodes (here s y).writes found.0 within;
    }

write_hits : (s : Scene) (y x i byte : ℕ) → y < count s
    → written s.visits (here s y).pos (place_of (address_value s.t s.nodes (here s x)) i) ≡ Some byte → IsHitBy s y x i byte
write_hits s y x i byte less e = writes_by s y x i byte (is_written s.t s.nodes (here s y)) less refl e

-- ---- one byte

given_is : (s : Scene) (x i : ℕ) → x < count s → i < length (here s x).reads
    → (given_by s.t).bytes (here s x).pos.thread (here s x).pos.step i ≡ value_of s.t s.nodes (here s x).reads i
given_is s x i less within = sym (((listed s x less).reads i within).value s.t)

abbrev place : Scene → ℕ → ℕ → ℕ
place s x i = place_of (address_value s.t s.nodes (here s x)) i

-- by the positions of the accesses, at the byte's address and with its value
abbrev Fitting : Scene → ℕ → ℕ → Type 0
Fitting s x i = IsByteBefore s.image s.visits (positions s) (Stands s.steps) (here s x).pos (place s x i) (value_of s.t s.nodes (here s x).reads i)

sees_to : (s : Scene) (x i : ℕ) → x < count s → SeesAt s.image s.t s.nodes s.paths.accesses s.lt x i → Fitting s x i
sees_to s x i less (inl sees) = inl (record {
  writer = (here s sees.writer).pos;
  listed = pos_in s.paths.accesses sees.writer sees.there;
  older = (s.order sees.writer x sees.there less).0 sees.older;
  writes = hit_writes s sees.writer sees.byte x i sees.there sees.within sees.is_hit ∙ ap Some (sym sees.reads);
  newest = λ (q : Pos) (other : ℕ) (j : In q (positions s)) (before : Stands s.steps q (here s x).pos) (writes : written s.visits q (place s x i) ≡ Some other)
      (differs : q ≢ (here s sees.writer).pos).
      let y : (y : ℕ) × (y < count s) × ((here s y).pos ≡ q) = in_pos s.paths.accesses q j in
      let hit : IsHitBy s y.0 x i other = write_hits s y.0 x i other y.1 (ap (λ (p : Pos). written s.visits p (place s x i)) y.2 ∙ writes) in
      subst (λ (p : Pos). Stands s.steps p (here s sees.writer).pos) y.2
      ((s.order y.0 sees.writer y.1 sees.there).0 (sees.newest y.0 hit.m y.1 hit.within
      (λ (e : y.0 ≡ sees.writer). differs (sym y.2 ∙ ap (λ (z : ℕ). (here s z).pos) e))
      ((s.order y.0 x y.1 less).1 (subst (λ (p : Pos). Stands s.steps p (here s x).pos) (sym y.2) before)) hit.hit));
})
sees_to s x i less (inr sees) = inr (
  λ (q : Pos) (j : In q (positions s)) (before : Stands s.steps q (here s x).pos).
      let y : (y : ℕ) × (y < count s) × ((here s y).pos ≡ q) = in_pos s.paths.accesses q j in
      by_written q y (written s.visits q (place s x i)) refl before,
  sees.reads,
) where
  by_written : (q : Pos) (y : (y : ℕ) × (y < count s) × ((here s y).pos ≡ q)) (o : Option ℕ) → written s.visits q (place s x i) ≡ o
      → Stands s.steps q (here s x).pos → written s.visits q (place s x i) ≡ None
  by_written q y None e before = e
  by_written q y (Some other) e before =
      let hit : IsHitBy s y.0 x i other = write_hits s y.0 x i other y.1 (ap (λ (p : Pos). written s.visits p (place s x i)) y.2 ∙ e) in
      absurd (sees.none y.0 hit.m y.1 hit.within ((s.order y.0 x y.1 less).1 (subst (λ (p : Pos). Stands s.steps p (here s x).pos) (sym y.2) before)) hit.hit)

sees_from : (s : Scene) (x i : ℕ) → x < count s → Fitting s x i → SeesAt s.image s.t s.nodes s.paths.accesses s.lt x i
sees_from s x i less (inl newest) =
    let y : (y : ℕ) × (y < count s) × ((here s y).pos ≡ newest.writer) = in_pos s.paths.accesses newest.writer newest.listed in
    let hit : IsHitBy s y.0 x i (value_of s.t s.nodes (here s x).reads i) =
    write_hits s y.0 x i (value_of s.t s.nodes (here s x).reads i) y.1 (ap (λ (p : Pos). written s.visits p (place s x i)) y.2 ∙ newest.writes) in
    inl (record {
      writer = y.0;
      byte = hit.m;
      there = y.1;
      within = hit.within;
      older = (s.order y.0 x y.1 less).1 (subst (λ (p : Pos). Stands s.steps p (here s x).pos) (sym y.2) newest.older);
      is_hit = hit.hit;
      newest = λ (z m : ℕ) (there : z < count s) (within : m < length (here s z).writes) (differs : z ≢ y.0) (before : s.lt z x ≡ true)
          (hits_it : hits s.t s.nodes (here s z) m (here s x) i ≡ true).
          (s.order z y.0 there y.1).1 (subst (Stands s.steps (here s z).pos) (sym y.2)
          (newest.newest (here s z).pos (value_of s.t s.nodes (here s z).writes m) (pos_in s.paths.accesses z there) ((s.order z x there less).0 before)
          (hit_writes s z m x i there within hits_it)
          (λ (e : (here s z).pos ≡ newest.writer). differs (one_number s.paths.accesses z y.0 s.are.lists.once there y.1 (e ∙ sym y.2)))));
      reads = hit.value;
    })
sees_from s x i less (inr unwritten) = inr (record {
  none = λ (y m : ℕ) (there : y < count s) (within : m < length (here s y).writes) (before : s.lt y x ≡ true) (hit : hits s.t s.nodes (here s y) m (here s x) i ≡ true).
      none-some (value_of s.t s.nodes (here s y).writes m)
      (sym (unwritten.0 (here s y).pos (pos_in s.paths.accesses y there) ((s.order y x there less).0 before)) ∙ hit_writes s y m x i there within hit);
  reads = unwritten.1;
})

-- ---- all bytes of an access

-- each byte that an access reads is the byte before it, by what is given
abbrev pub BytesFitAt : Layout → Assignment → Visits → List Pos → List Pos → Pos → Type 0
BytesFitAt image t visits accesses steps p =
    (i : ℕ) → i < read_count image (at visits p)
    → IsByteBefore image visits accesses (Stands steps) p (byte_address (access_address image visits p) i) ((given_by t).bytes p.thread p.step i)

address_is : (s : Scene) (x i : ℕ) → x < count s → place s x i ≡ byte_address (access_address s.image s.visits (here s x).pos) i
address_is s x i less =
    sym ((address_law (address_value s.t s.nodes (here s x))).row (s.words x less) i) ∙ ap (λ (a : ℕ). byte_address a i) (shown s x less).address

-- the same at the address of the walk's access, with the byte that is given
abbrev GivenFitting : Scene → ℕ → ℕ → Type 0
GivenFitting s x i =
    IsByteBefore s.image s.visits (positions s) (Stands s.steps) (here s x).pos (byte_address (access_address s.image s.visits (here s x).pos) i)
    ((given_by s.t).bytes (here s x).pos.thread (here s x).pos.step i)

fitting_to : (s : Scene) (x i : ℕ) → x < count s → i < length (here s x).reads → Fitting s x i → GivenFitting s x i
fitting_to s x i less within fitting =
    subst (λ (b : ℕ). IsByteBefore s.image s.visits (positions s) (Stands s.steps) (here s x).pos (byte_address (access_address s.image s.visits (here s x).pos) i) b)
    (sym (given_is s x i less within))
    (subst (λ (a : ℕ). IsByteBefore s.image s.visits (positions s) (Stands s.steps) (here s x).pos a (value_of s.t s.nodes (here s x).reads i)) (address_is s x i less) fitting)

fitting_from : (s : Scene) (x i : ℕ) → x < count s → i < length (here s x).reads → GivenFitting s x i → Fitting s x i
fitting_from s x i less within fitting =
    subst (λ (a : ℕ). IsByteBefore s.image s.visits (positions s) (Stands s.steps) (here s x).pos a (value_of s.t s.nodes (here s x).reads i)) (sym (address_is s x i less))
    (subst (λ (b : ℕ). IsByteBefore s.image s.visits (positions s) (Stands s.steps) (here s x).pos (byte_address (access_address s.image s.visits (here s x).pos) i) b)
    (given_is s x i less within) fitting)

pub all_fit : (s : Scene) (x : ℕ) → x < count s → BytesFitAt s.image s.t s.visits (positions s) s.steps (here s x).pos
    ↔ ((i : ℕ) → i < length (here s x).reads → SeesAt s.image s.t s.nodes s.paths.accesses s.lt x i)
all_fit s x less =
    let many : length (here s x).reads ≡ read_count s.image (at s.visits (here s x).pos) = (shown s x less).reads in (
      λ (fit : BytesFitAt s.image s.t s.visits (positions s) s.steps (here s x).pos) (i : ℕ) (within : i < length (here s x).reads).
          sees_from s x i less (fitting_from s x i less within (fit i (subst (λ (n : ℕ). i < n) many within))),
      λ (sees : (i : ℕ) → i < length (here s x).reads → SeesAt s.image s.t s.nodes s.paths.accesses s.lt x i) (i : ℕ) (within : i < read_count s.image (at s.visits (here s x).pos)).
          let below : i < length (here s x).reads = subst (λ (n : ℕ). i < n) (sym many) within in
          fitting_to s x i less below (sees_to s x i less (sees i below)),
    )
