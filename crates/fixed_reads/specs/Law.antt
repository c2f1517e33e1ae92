-- A byte with one source in every run has it by the values of terms.
use Rattle.std.specs.Prelude.{◌≡◌, ◌↔◌, ℕ, ◌<◌, Bool, List, length, Some, None}
use Rattle.elf_image.specs.Layout.{Layout}
use Rattle.elf_image.specs.Memory.{byte_in, opening_cells}
use Rattle.odr_log.specs.declared.log.Log.{Log}
use Rattle.bv_terms.specs.Shapes.{Shape}
use Rattle.bv_terms.specs.Values.{Assignment}
use Rattle.thread_terms.specs.declared.access.Access.{Access}
use Rattle.hit_terms.specs.Hits.{place_of}
use Rattle.race_set.specs.declared.shape.AccessShape.{AccessShape}
use Rattle.race_set.specs.Runs.{IsFixed}
use Rattle.term_sources.specs.Sees.{SeesAt, access_at, address_value, value_of}
use Rattle.fixed_reads.specs.Shapes.{AreShapes, IsTotalOf}

-- the address of a byte that an access reads
abbrev pub byte_at : Assignment → List Shape → List Access → (x i : ℕ) → ℕ
byte_at t nodes accesses x i = place_of (address_value t nodes (access_at accesses x)) i

-- No write is seen: the byte is the initial one.
abbrev pub InitialBytes : Type 0
InitialBytes = (image : Layout) (log : Log) (nodes : List Shape) (accesses : List Access) (shapes : List AccessShape)
    (t : Assignment) (lt : ℕ → ℕ → Bool) (x i : ℕ)
    → AreShapes nodes accesses shapes → IsTotalOf log accesses lt → x < length accesses
    → IsFixed log shapes (byte_at t nodes accesses x i) (access_at accesses x).pos None
    → SeesAt image t nodes accesses lt x i
    ↔ (value_of t nodes (access_at accesses x).reads i ≡ byte_in (opening_cells image (byte_at t nodes accesses x i)))

-- One write is seen: the byte is the one that it has there.
abbrev pub WrittenBytes : Type 0
WrittenBytes = (image : Layout) (log : Log) (nodes : List Shape) (accesses : List Access) (shapes : List AccessShape)
    (t : Assignment) (lt : ℕ → ℕ → Bool) (x i y m : ℕ)
    → AreShapes nodes accesses shapes → IsTotalOf log accesses lt → x < length accesses → y < length accesses → m < length (access_at accesses y).writes
    → place_of (address_value t nodes (access_at accesses y)) m ≡ byte_at t nodes accesses x i
    → IsFixed log shapes (byte_at t nodes accesses x i) (access_at accesses x).pos (Some (access_at accesses y).pos)
    → SeesAt image t nodes accesses lt x i ↔ (value_of t nodes (access_at accesses x).reads i ≡ value_of t nodes (access_at accesses y).writes m)
