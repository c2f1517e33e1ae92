-- What contracts see of an image: its regions, where no two share an address, and its entry.
use Rattle.std.specs.Prelude.{◌≡◌, ℕ, ◌+◌, ◌-◌, ◌*◌, ◌%◌, ◌^◌, ◌<◌, ◌≤◌, Bool, false, ◌&&◌, List, [], ◌∷◌, length, nat_eq, nat_le, nat_lt, slice_index, sum_by, All, AllPairs, IsTrue, IsSome, Option, Some, None, option_map, if◌then◌else◌}
use Rattle.elf_image.specs.declared.region.Region.{Region}
use Rattle.elf_image.specs.declared.region.Perm.{Perm}

pub record Layout : Type 0 where
  pub regions : List Region
  pub entry : ℕ

abbrev pub covers : Region → ℕ → Bool
covers region address = nat_le region.start address && nat_lt address (region.start + length region.bytes)

-- the region that an address is in
abbrev pub region_at : List Region → ℕ → Option Region
region_at [] address = None
region_at (region ∷ regions) address = if covers region address then Some region else region_at regions address

-- the image's byte at an address, none outside all regions
abbrev pub initial_of : Layout → ℕ → Option ℕ
initial_of image address = option_map (λ region. slice_index region.bytes (address - region.start)) (region_at image.regions address)

-- the rights at an address, none outside all regions
abbrev pub perm_of : Layout → ℕ → Option Perm
perm_of image address = option_map (λ region. region.perm) (region_at image.regions address)

-- a byte that may be fetched as part of an instruction
abbrev pub code_byte : Option Region → ℕ → Option ℕ
code_byte None address = None
code_byte (Some region) address = if region.perm.x then Some (slice_index region.bytes (address - region.start)) else None

abbrev pub code_of : Layout → ℕ → Option ℕ
code_of image address = code_byte (region_at image.regions address) address

-- a word from its four bytes, the lowest first; none where one is missing
abbrev pub little_endian : Option ℕ → Option ℕ → Option ℕ → Option ℕ → Option ℕ
little_endian (Some a) (Some b) (Some c) (Some d) = Some (a + 2 ^ 8 * b + 2 ^ 16 * c + 2 ^ 24 * d)
little_endian (Some a) (Some b) (Some c) None = None
little_endian (Some a) (Some b) None d = None
little_endian (Some a) None c d = None
little_endian None b c d = None

-- the instruction word at an address: a multiple of four whose four bytes may be fetched
abbrev pub fetch_of : Layout → ℕ → Option ℕ
fetch_of image pc = if nat_eq (pc % 4) 0 then little_endian (code_of image pc) (code_of image (pc + 1)) (code_of image (pc + 2)) (code_of image (pc + 3)) else None

-- a region of bytes that isn't empty, stands below the stacks, and is never both written and executed
pub record IsPlaced (region : Region) : Type 0 where
  pub some : 0 < length region.bytes
  pub fits : All (λ byte. byte < 2 ^ 8) region.bytes
  pub below : region.start + length region.bytes ≤ 0x70000000
  pub fixed_code : (region.perm.w && region.perm.x) ≡ false

-- no address is in both regions
abbrev pub AreApart : Region → Region → Type 0
AreApart a b = (address : ℕ) → IsTrue (covers a address) → IsTrue (covers b address) → ⊥

-- what every image keeps
pub record IsSound (image : Layout) : Type 0 where
  pub some : 0 < length image.regions
  pub few : length image.regions ≤ 16
  pub placed : All IsPlaced image.regions
  pub apart : AllPairs AreApart image.regions
  pub small : sum_by (λ region. length region.bytes) image.regions ≤ 1048576
  pub entry : IsSome (fetch_of image image.entry)
