-- A byte of a memory along steps is the newest write's of the accesses before.
use Rattle.std.specs.Prelude.{◌≡◌, ◌≢◌, ℕ, List, ◌∷◌, Option, Some, None}
use Rattle.std.proofs.Common.{sym, ◌∙◌, ap, subst, inl, inr}
use Rattle.std.proofs.lemmas.Option.{none-some, same_Some}
use Rattle.elf_image.specs.declared.write.Write.{Write}
use Rattle.elf_image.specs.Layout.{Layout}
use Rattle.elf_image.specs.declared.cell.Cell.{Cell}
use Rattle.elf_image.specs.Memory.{opening_cells, byte_in}
use Rattle.odr_log.specs.declared.log.Pos.{Pos}
use Rattle.guided_walk.specs.Guided.{Visits}
use Rattle.guided_walk.specs.Orders.{In, Stands}
use Rattle.guided_walk.specs.Fits.{writes_along, memory_along}
use Rattle.walk_orders.proofs.Lists.{stands_first, stands_second, stands_then, stands_once}
use Rattle.access_fits.specs.Fitting.{newest_in, written, IsNewest, IsByteBefore}
use Rattle.access_fits.specs.Law.{AreSteps}
use Rattle.access_fits.proofs.Newest.{or_else, memory_byte, IsLast, newest_or_none}
use Rattle.access_fits.proofs.Front.{Front, done_before, before_next}

-- a step that writes somewhere is an access
pub writer_listed : (image : Layout) (visits : Visits) (accesses steps : List Pos) → AreSteps image visits accesses steps → (q : Pos) (a byte : ℕ)
    → In q steps → written visits q a ≡ Some byte → In q accesses
writer_listed image visits accesses steps are q a byte i e = elim (are.quiet q i) [
  | inl listed ↦ listed
  | inr quiet ↦ absurd (none-some byte (sym (ap (λ (ws : List Write). newest_in ws a) quiet.writes) ∙ e))
]

-- what is done is among the steps, where one is left
done_in : (steps done later : List Pos) (p q : Pos) → Front steps done (p ∷ later) → In q done → In q steps
done_in steps done later p q front i = stands_first q p steps (before_next steps done later p q front i)

memory_at : (image : Layout) (visits : Visits) (done : List Pos) (a : ℕ) (cell : Cell) (found : Option ℕ) → opening_cells image a ≡ Some cell
    → newest_in (writes_along visits done) a ≡ found → byte_in (memory_along image visits done a) ≡ or_else found (byte_in (opening_cells image a))
memory_at image visits done a cell found e left =
    memory_byte image visits done a cell e ∙ ap (λ (o : Option ℕ). or_else o (byte_in (opening_cells image a))) left

newest_to : (image : Layout) (visits : Visits) (accesses steps done later : List Pos) (p : Pos) (a byte last : ℕ) → AreSteps image visits accesses steps
    → Front steps done (p ∷ later) → IsLast visits done a last → byte ≡ last → IsNewest visits accesses (Stands steps) p a byte
newest_to image visits accesses steps done later p a byte last are front found same = record {
  writer = found.writer;
  listed = writer_listed image visits accesses steps are found.writer a last (done_in steps done later p found.writer front found.there) found.writes;
  older = before_next steps done later p found.writer front found.there;
  writes = found.writes ∙ ap Some (sym same);
  newest = λ (q : Pos) (other : ℕ) (i : In q accesses) (before : Stands steps q p) (writes : written visits q a ≡ Some other) (differs : q ≢ found.writer).
      elim (found.others q (done_before steps done later p q front before)) [
        | inl s ↦ absurd (none-some other (sym (found.newer q s) ∙ writes))
        | inr x ↦ elim x [
          | inl e ↦ absurd (differs e)
          | inr s ↦ front.older q found.writer s
        ]
      ];
}

pub byte_to : (image : Layout) (visits : Visits) (accesses steps done later : List Pos) (p : Pos) (a byte : ℕ) (cell : Cell) → AreSteps image visits accesses steps
    → Front steps done (p ∷ later) → opening_cells image a ≡ Some cell → byte ≡ byte_in (memory_along image visits done a)
    → IsByteBefore image visits accesses (Stands steps) p a byte
byte_to image visits accesses steps done later p a byte cell are front here e = elim (newest_or_none visits done a front.done_once) [
  | inl found ↦ inl (newest_to image visits accesses steps done later p a byte found.0 are front found.1
      (e ∙ memory_at image visits done a cell (Some found.0) here found.1.left))
  | inr none ↦ inr (
    λ (q : Pos) (i : In q accesses) (before : Stands steps q p). none.none q (done_before steps done later p q front before),
    e ∙ memory_at image visits done a cell None here none.left,
  )
]

-- the newest write that is done is that of the newest access
same_last : (image : Layout) (visits : Visits) (accesses steps done later : List Pos) (p : Pos) (a byte last : ℕ) → AreSteps image visits accesses steps
    → Front steps done (p ∷ later) → IsNewest visits accesses (Stands steps) p a byte → IsLast visits done a last → byte ≡ last
same_last image visits accesses steps done later p a byte last are front newest found =
    elim (found.others newest.writer (done_before steps done later p newest.writer front newest.older)) [
      | inl s ↦ absurd (none-some byte (sym (found.newer newest.writer s) ∙ newest.writes))
      | inr x ↦ elim x [
        | inl e ↦ same_Some byte last (sym newest.writes ∙ ap (λ (q : Pos). written visits q a) e ∙ found.writes)
        | inr s ↦ absurd (turned s)
      ]
    ] where
      differs : Stands done found.writer newest.writer → found.writer ≢ newest.writer
      differs s e = stands_once newest.writer done front.done_once (subst (λ (q : Pos). Stands done q newest.writer) e s)

      before : Stands done found.writer newest.writer → Stands steps found.writer newest.writer
      before s =
          newest.newest found.writer last
          (writer_listed image visits accesses steps are found.writer a last (done_in steps done later p found.writer front found.there) found.writes)
          (before_next steps done later p found.writer front found.there) found.writes (differs s)

      turned : Stands done found.writer newest.writer → ⊥
      turned s = elim (front.stands found.writer newest.writer (before s)) [
        | inl t ↦ stands_once found.writer done front.done_once (stands_then found.writer newest.writer found.writer done front.done_once s t)
        | inr x ↦ elim x [
          | inl y ↦ front.apart newest.writer (stands_second found.writer newest.writer done s) y.1
          | inr y ↦ front.apart newest.writer (stands_second found.writer newest.writer done s) (stands_second found.writer newest.writer (p ∷ later) y)
        ]
      ]

pub byte_from : (image : Layout) (visits : Visits) (accesses steps done later : List Pos) (p : Pos) (a byte : ℕ) (cell : Cell) → AreSteps image visits accesses steps
    → Front steps done (p ∷ later) → opening_cells image a ≡ Some cell → IsByteBefore image visits accesses (Stands steps) p a byte
    → byte ≡ byte_in (memory_along image visits done a)
byte_from image visits accesses steps done later p a byte cell are front here (inl newest) = elim (newest_or_none visits done a front.done_once) [
  | inl found ↦ same_last image visits accesses steps done later p a byte found.0 are front newest found.1
      ∙ sym (memory_at image visits done a cell (Some found.0) here found.1.left)
  | inr none ↦ absurd (none-some byte (sym (none.none newest.writer (done_before steps done later p newest.writer front newest.older)) ∙ newest.writes))
]
byte_from image visits accesses steps done later p a byte cell are front here (inr unwritten) = elim (newest_or_none visits done a front.done_once) [
  | inl found ↦ absurd (none-some found.0 (sym (unwritten.0 found.1.writer
      (writer_listed image visits accesses steps are found.1.writer a found.0 (done_in steps done later p found.1.writer front found.1.there) found.1.writes)
      (before_next steps done later p found.1.writer front found.1.there)) ∙ found.1.writes))
  | inr none ↦ unwritten.1 ∙ sym (memory_at image visits done a cell None here none.left)
]
