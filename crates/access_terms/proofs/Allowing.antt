-- The rights of bytes: region after region, and byte after byte.
use Rattle.std.proofs.Common.{◌≡◌, ℕ, zero, suc, ◌+◌, ◌-◌, ◌/◌, ◌%◌, ◌^◌, ◌<◌, Bool, true, false, ◌&&◌, cond, List, [], ◌∷◌, length, get_or, drop, refl, sym, ◌∙◌, ap, nat_eq, arith}
use Rattle.std.specs.Prelude.{Option, Some, None, bit_and}
use Rattle.std.proofs.lemmas.List.{drop_more, drop_all}
use Rattle.elf_image.specs.declared.region.Region.{Region}
use Rattle.elf_image.specs.Layout.{covers, region_at}
use Rattle.elf_image.specs.Memory.{Cells, all_readable, all_writable, cell_in, in_stack, next}
use Rattle.bv_terms.specs.BitVectors.{bit_of}
use Rattle.rv_model.specs.Instruction.{is_aligned}
use Rattle.access_terms.specs.declared.right.Right.{Right}
use Rattle.access_terms.specs.declared.right.Right.TheVariants.{Read, Write}
use Rattle.access_terms.specs.Rights.{all_allow, allows, allows_in, grants}
use Rattle.access_terms.proofs.Tests.{aligned_test, both_hold}

-- ---- one byte

-- outside all regions
by_stack : (right : Right) (test : Bool) → allows right (cond test (Some (record { byte = 0; readable = true; writable = true })) None) ≡ test
by_stack Read true = refl
by_stack Read false = refl
by_stack Write true = refl
by_stack Write false = refl

pub allows_nowhere : (right : Right) (a : ℕ) → in_stack a ≡ allows_in right [] a
allows_nowhere right a = sym (by_stack right (in_stack a))

-- by the first region, or else by the others
by_first : (right : Right) (region : Region) (others : Option Region) (a : ℕ) (test : Bool)
    → cond test (bit_of (grants right region.perm)) (bit_of (allows right (cell_in others a))) ≡ bit_of (allows right (cell_in (cond test (Some region) others) a))
by_first Read region others a true = refl
by_first Write region others a true = refl
by_first right region others a false = refl

pub allows_first : (right : Right) (region : Region) (regions : List Region) (a : ℕ)
    → cond (covers region a) (bit_of (grants right region.perm)) (bit_of (allows_in right regions a)) ≡ bit_of (allows_in right (region ∷ regions) a)
allows_first right region regions a = by_first right region (region_at regions a) a (covers region a)

-- ---- the regions from the last to the first

pub rest_none : (regions : List Region) → drop (length regions - 0) regions ≡ []
rest_none regions = drop_all (length regions - 0) regions (omega arith)

pub rest_more : (regions : List Region) (done : ℕ) (d : Region) → done < length regions
    → drop (length regions - (done + 1)) regions ≡ get_or regions (length regions - 1 - done) d ∷ drop (length regions - done) regions
rest_more regions done d within =
    let at : length regions - (done + 1) ≡ length regions - 1 - done = omega arith in
    let after : (length regions - 1 - done) + 1 ≡ length regions - done = omega (arith, within) in
    ap (λ n. drop n regions) at ∙ drop_more regions (length regions - 1 - done) d (omega (arith, within))
    ∙ ap (λ n. get_or regions (length regions - 1 - done) d ∷ drop n regions) after

-- ---- byte after byte

pub all_read : (cells : Cells) (a count : ℕ) → all_allow Read cells a count ≡ all_readable cells a count
all_read cells a zero = refl
all_read cells a (suc count) = ap (λ t. allows Read (cells a) && t) (all_read cells (next a) count)

pub all_written : (cells : Cells) (a count : ℕ) → all_allow Write cells a count ≡ all_writable cells a count
all_written cells a zero = refl
all_written cells a (suc count) = ap (λ t. allows Write (cells a) && t) (all_written cells (next a) count)

pub all_from : (right : Right) (cells : Cells) (a count i : ℕ) → i < count
    → all_allow right cells a (count - i) ≡ (allows right (cells a) && all_allow right cells (next a) (count - (i + 1)))
all_from right cells a count i within = let e : count - i ≡ suc (count - (i + 1)) = omega (arith, within) in ap (all_allow right cells a) e

pub ruleset spans = (all_from)

-- one more byte at the end
and_three : (p q r : Bool) → (p && (q && r)) ≡ (p && q && r)
and_three true q r = refl
and_three false q r = refl

pub all_more : (right : Right) (cells : Cells) (a i : ℕ) → a < 2 ^ 32 → (all_allow right cells a i && allows right (cells ((a + i) % 2 ^ 32))) ≡ all_allow right cells a (suc i)
all_more right cells a zero below = ap (λ n. allows right (cells n)) here ∙ sym (last (allows right (cells a)))
  where
    here : (a + 0) % 2 ^ 32 ≡ a
    here = omega (arith, below)

    last : (t : Bool) → (t && true) ≡ t
    last true = refl
    last false = refl
all_more right cells a (suc i) below =
    let further : (a + suc i) % 2 ^ 32 ≡ (next a + i) % 2 ^ 32 = omega (arith, below) in
    sym (and_three (allows right (cells a)) (all_allow right cells (next a) i) (allows right (cells ((a + suc i) % 2 ^ 32))))
    ∙ ap (λ n. allows right (cells a) && (all_allow right cells (next a) i && allows right (cells n))) further
    ∙ ap (λ t. allows right (cells a) && t) (all_more right cells (next a) i (omega arith))

-- the word that atomic instructions may use, by its bits
pub usable_value : (cells : Cells) (a : ℕ) → bit_and (bit_of (nat_eq (a / 2 ^ 0 % 2 ^ 2) 0)) (bit_and (bit_of (all_allow Read cells a 4)) (bit_of (all_allow Write cells a 4)))
    ≡ bit_of (is_aligned a && (all_readable cells a 4 && all_writable cells a 4))
usable_value cells a =
    let low = nat_eq (a / 2 ^ 0 % 2 ^ 2) 0 in
    ap (λ n. bit_and (bit_of low) n) (both_hold (all_allow Read cells a 4) (all_allow Write cells a 4)) ∙ both_hold low (all_allow Read cells a 4 && all_allow Write cells a 4)
    ∙ ap (λ t. bit_of (t && (all_allow Read cells a 4 && all_allow Write cells a 4))) (aligned_test a)
    ∙ ap (λ t. bit_of (is_aligned a && (t && all_allow Write cells a 4))) (all_read cells a 4) ∙ ap (λ t. bit_of (is_aligned a && (all_readable cells a 4 && t))) (all_written cells a 4)
