-- What accesses see, where the nodes of their terms are among others.
use Rattle.std.specs.Prelude.{◌≡◌, ◌≢◌, ℕ, ◌+◌, ◌<◌, ◌%◌, ◌^◌, ◌&&◌, Bool, true, nat_eq, List, length}
use Rattle.std.proofs.Common.{sym, ◌∙◌, ap, inl, inr, arith}
use Rattle.std.proofs.lemmas.Bool.{cases_eq, eq-eqb, ne_eqb}
use Rattle.elf_image.specs.Layout.{Layout}
use Rattle.elf_image.specs.Memory.{byte_in, opening_cells}
use Rattle.bv_terms.specs.Shapes.{Shape}
use Rattle.bv_terms.specs.Values.{Assignment as TermAssignment}
use Rattle.thread_terms.specs.declared.access.Access.{Access}
use Rattle.hit_terms.specs.Hits.{is_hit, is_same_place, place_of}
use Rattle.term_sources.specs.Sees.{SeesAt, access_at, address_value, guard_value, hits, value_of}

-- the terms of accesses have the same values among two lists of nodes
pub record SameValues (t : TermAssignment) (p q : List Shape) (accesses : List Access) (x i : ℕ) : Type 0 where
  pub there : x < length accesses
  pub address : (y : ℕ) → y < length accesses → address_value t p (access_at accesses y) ≡ address_value t q (access_at accesses y)
  pub guard : (y : ℕ) → y < length accesses → guard_value t p (access_at accesses y) ≡ guard_value t q (access_at accesses y)
  pub writes : (y m : ℕ) → y < length accesses → m < length (access_at accesses y).writes
      → value_of t p (access_at accesses y).writes m ≡ value_of t q (access_at accesses y).writes m
  pub read : value_of t p (access_at accesses x).reads i ≡ value_of t q (access_at accesses x).reads i

pub values_back : (t : TermAssignment) (p q : List Shape) (accesses : List Access) (x i : ℕ) → SameValues t p q accesses x i → SameValues t q p accesses x i
values_back t p q accesses x i same = record {
  there = same.there;
  address = λ (y : ℕ) (in_list : y < length accesses). sym (same.address y in_list);
  guard = λ (y : ℕ) (in_list : y < length accesses). sym (same.guard y in_list);
  writes = λ (y m : ℕ) (in_list : y < length accesses) (within : m < length (access_at accesses y).writes). sym (same.writes y m in_list within);
  read = sym same.read;
}

pub same_hits : (t : TermAssignment) (p q : List Shape) (accesses : List Access) (x i y m k : ℕ) → SameValues t p q accesses x i → y < length accesses
    → hits t p (access_at accesses y) m (access_at accesses x) k ≡ hits t q (access_at accesses y) m (access_at accesses x) k
same_hits t p q accesses x i y m k same in_list =
    let writer = access_at accesses y in let reader = access_at accesses x in
    ap (λ (g : ℕ). is_hit g (address_value t p writer) m (address_value t p reader) k) (same.guard y in_list)
    ∙ ap (λ (a : ℕ). is_hit (guard_value t q writer) a m (address_value t p reader) k) (same.address y in_list)
    ∙ ap (λ (b : ℕ). is_hit (guard_value t q writer) (address_value t q writer) m b k) (same.address x same.there)

pub sees_moved : (image : Layout) (t : TermAssignment) (p q : List Shape) (accesses : List Access) (lt : ℕ → ℕ → Bool) (x i : ℕ) → SameValues t p q accesses x i
    → SeesAt image t p accesses lt x i → SeesAt image t q accesses lt x i
sees_moved image t p q accesses lt x i same (inl sees) = inl (record {
  writer = sees.writer;
  byte = sees.byte;
  there = sees.there;
  within = sees.within;
  older = sees.older;
  is_hit = sym (same_hits t p q accesses x i sees.writer sees.byte i same sees.there) ∙ sees.is_hit;
  newest = λ (y m : ℕ) (in_list : y < length accesses) (within : m < length (access_at accesses y).writes) (differs : y ≢ sees.writer) (before : lt y x ≡ true)
      (hit : hits t q (access_at accesses y) m (access_at accesses x) i ≡ true).
      sees.newest y m in_list within differs before (same_hits t p q accesses x i y m i same in_list ∙ hit);
  reads = sym same.read ∙ sees.reads ∙ same.writes sees.writer sees.byte sees.there sees.within;
})
sees_moved image t p q accesses lt x i same (inr sees) = inr (record {
  none = λ (y m : ℕ) (in_list : y < length accesses) (within : m < length (access_at accesses y).writes) (before : lt y x ≡ true)
      (hit : hits t q (access_at accesses y) m (access_at accesses x) i ≡ true).
      sees.none y m in_list within before (same_hits t p q accesses x i y m i same in_list ∙ hit);
  reads = sym same.read ∙ sees.reads ∙ ap (λ (a : ℕ). byte_in (opening_cells image (place_of a i))) (same.address x same.there);
})

-- ---- bytes that are as far on

far_on : (p q j : ℕ) → p % 2 ^ 32 ≡ q % 2 ^ 32 → (p + j) % 2 ^ 32 ≡ (q + j) % 2 ^ 32
far_on p q j e = omega (arith, e)

far_back : (p q j : ℕ) → (p + j) % 2 ^ 32 ≡ (q + j) % 2 ^ 32 → p % 2 ^ 32 ≡ q % 2 ^ 32
far_back p q j e = omega (arith, e)

same_far : (p q j : ℕ) → nat_eq (p % 2 ^ 32) (q % 2 ^ 32) ≡ nat_eq ((p + j) % 2 ^ 32) ((q + j) % 2 ^ 32)
same_far p q j = elim (cases_eq (p % 2 ^ 32) (q % 2 ^ 32)) [
  | inl e ↦ eq-eqb (p % 2 ^ 32) (q % 2 ^ 32) e ∙ sym (eq-eqb ((p + j) % 2 ^ 32) ((q + j) % 2 ^ 32) (far_on p q j e))
  | inr other ↦ ne_eqb (p % 2 ^ 32) (q % 2 ^ 32) other ∙ sym (ne_eqb ((p + j) % 2 ^ 32) ((q + j) % 2 ^ 32) (λ e. other (far_back p q j e)))
]

add_on : (a m j : ℕ) → (a + m) + j ≡ a + (m + j)
add_on a m j = omega arith

pub place_far : (a m b i j : ℕ) → is_same_place a m b i ≡ is_same_place a (m + j) b (i + j)
place_far a m b i j =
    same_far (a + m) (b + i) j ∙ ap (λ (n : ℕ). nat_eq (n % 2 ^ 32) (((b + i) + j) % 2 ^ 32)) (add_on a m j)
    ∙ ap (λ (n : ℕ). nat_eq ((a + (m + j)) % 2 ^ 32) (n % 2 ^ 32)) (add_on b i j)

-- a write hits a byte exactly where its byte that is as far on hits the one as far on
pub hits_far : (t : TermAssignment) (nodes : List Shape) (writer reader : Access) (m i j : ℕ)
    → hits t nodes writer m reader i ≡ hits t nodes writer (m + j) reader (i + j)
hits_far t nodes writer reader m i j =
    ap (λ (same : Bool). nat_eq (guard_value t nodes writer) 1 && same) (place_far (address_value t nodes writer) m (address_value t nodes reader) i j)
