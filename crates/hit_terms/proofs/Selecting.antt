-- The byte of the first region that has an address.
use Rattle.std.proofs.Common.{◌≡◌, ℕ, ◌-◌, Bool, true, false, ◌||◌, cond, List, [], ◌∷◌, refl}
use Rattle.std.specs.Prelude.{Option, Some, None, bit_or, slice_index}
use Rattle.elf_image.specs.declared.region.Region.{Region}
use Rattle.elf_image.specs.Layout.{covers, region_at}
use Rattle.elf_image.specs.Memory.{byte_in, cell_in, in_stack}
use Rattle.bv_terms.specs.BitVectors.{bit_of}
use Rattle.step_terms.specs.Made.{Grows, IsMade, IsTerm}
use Rattle.step_terms.proofs.Making.{by_two, first_stays, second_stays}
use Rattle.bv_terms.specs.Shapes.{Shape}
use Rattle.bv_terms.specs.Values.{Assignment, value_at}

pub one_holds : (p q : Bool) → bit_or (bit_of p) (bit_of q) ≡ bit_of (p || q)
one_holds true true = refl
one_holds true false = refl
one_holds false true = refl
one_holds false false = refl

-- a stack's bytes are 0, and so is what is nowhere
pub nowhere : (a : ℕ) → 0 ≡ byte_in (cell_in (region_at [] a) a)
nowhere a = by_test (in_stack a) where
  by_test : (b : Bool) → 0 ≡ byte_in (cond b (Some (record { byte = 0; readable = true; writable = true })) None)
  by_test true = refl
  by_test false = refl

by_first : (region : Region) (others : Option Region) (a : ℕ) (test : Bool)
    → cond test (slice_index region.bytes (a - region.start)) (byte_in (cell_in others a)) ≡ byte_in (cell_in (cond test (Some region) others) a)
by_first region others a true = refl
by_first region others a false = refl

pub first_byte : (region : Region) (regions : List Region) (a : ℕ)
    → cond (covers region a) (slice_index region.bytes (a - region.start)) (byte_in (cell_in (region_at regions a) a)) ≡ byte_in (cell_in (region_at (region ∷ regions) a) a)
first_byte region regions a = by_first region (region_at regions a) a (covers region a)

-- a term of two parts, made later
pub made_after_two : (old mid new : List Shape) (a b ka kb k : ℕ) (g : ℕ → ℕ → ℕ) (id : ℕ) → Grows old mid → IsTerm old ka a → IsTerm old kb b
    → IsMade mid new (a ∷ b ∷ []) k (λ w. g (value_at w mid a) (value_at w mid b)) id → IsMade old new (a ∷ b ∷ []) k (λ w. g (value_at w old a) (value_at w old b)) id
made_after_two old mid new a b ka kb k g id grows is_a is_b made =
    by_two old mid new (a ∷ b ∷ []) a b ka kb k (λ (w : Assignment). value_at w old a) (λ (w : Assignment). value_at w old b) g id
    (first_stays old mid a (b ∷ []) ka grows is_a) (second_stays old mid a b kb grows is_b) made
