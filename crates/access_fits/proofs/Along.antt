-- Fitting a list of steps is fitting the order of its accesses.
use Rattle.std.specs.Prelude.{◌≡◌, ℕ, ◌<◌, List, [], ◌∷◌, Some, refl}
use Rattle.std.proofs.Common.{sym, ◌∙◌, subst, arith, inl, inr}
use Rattle.std.proofs.lemmas.Option.{none-some}
use Rattle.elf_image.specs.Layout.{Layout}
use Rattle.elf_image.specs.declared.cell.Cell.{Cell}
use Rattle.elf_image.specs.Memory.{opening_cells}
use Rattle.odr_log.specs.declared.log.Pos.{Pos}
use Rattle.guided_walk.specs.Guided.{Given, Visits, at, conditional_in}
use Rattle.guided_walk.specs.Orders.{In, Stands}
use Rattle.guided_walk.specs.Fits.{FitsAlong, FitsVisit, byte_address, conditional_by, memory_along, read_count, reserved}
use Rattle.walk_facts.specs.Links.{access_address}
use Rattle.walk_facts.specs.Quiet.{IsQuiet}
use Rattle.access_fits.specs.Fitting.{FitsOrder, IsFitting, LooksBack}
use Rattle.access_fits.specs.Law.{AreSteps, FitsByOrder}
use Rattle.access_fits.proofs.Front.{Front, front_none, front_next}
use Rattle.access_fits.proofs.Bytes.{byte_to, byte_from}
use Rattle.access_fits.proofs.Won.{Succeeds, won_where, won_is, won_iff}

-- a step fits after those that are done
abbrev FitsAfter : Layout → Given → Visits → List Pos → Pos → Type 0
FitsAfter image given visits done p = FitsVisit image given (memory_along image visits done) (reserved image visits p.thread done) p (at visits p)

fitting_to : (image : Layout) (given : Given) (visits : Visits) (accesses steps done later : List Pos) (p : Pos) → AreSteps image visits accesses steps
    → Front steps done (p ∷ later) → In p steps → In p accesses → FitsAfter image given visits done p → IsFitting image given visits accesses (Stands steps) p
fitting_to image given visits accesses steps done later p are front there listed fits = record {
  bytes = λ (i : ℕ) (less : i < read_count image (at visits p)).
      let cell : (c : Cell) × (opening_cells image (byte_address (access_address image visits p) i) ≡ Some c) = are.cells p listed i less in
      byte_to image visits accesses steps done later p (byte_address (access_address image visits p) i) (given.bytes p.thread p.step i) cell.0 are front cell.1 (fits.bytes i less);
  won = λ (lr : Pos) (address : ℕ) (e : conditional_by (conditional_in image (at visits p).seen) (at visits p).outcome ≡ Some address) (looks : LooksBack image visits lr p).
      won_iff (given.won p.thread p.step) address (reserved image visits p.thread done) (Succeeds image visits accesses steps lr p address)
      (won_where image visits accesses steps done later lr p address are front there looks)
      (fits.won address (access_address image visits lr) e (are.links lr p there looks));
}

fitting_from : (image : Layout) (given : Given) (visits : Visits) (accesses steps done later : List Pos) (p : Pos) → AreSteps image visits accesses steps
    → Front steps done (p ∷ later) → In p steps → In p accesses → IsFitting image given visits accesses (Stands steps) p → FitsAfter image given visits done p
fitting_from image given visits accesses steps done later p are front there listed fits = record {
  bytes = λ (i : ℕ) (less : i < read_count image (at visits p)).
      let cell : (c : Cell) × (opening_cells image (byte_address (access_address image visits p) i) ≡ Some c) = are.cells p listed i less in
      byte_from image visits accesses steps done later p (byte_address (access_address image visits p) i) (given.bytes p.thread p.step i) cell.0 are front cell.1 (fits.bytes i less);
  won = λ (address link : ℕ) (e : conditional_by (conditional_in image (at visits p).seen) (at visits p).outcome ≡ Some address) (linked : (at visits p).seen.link ≡ Some link).
      let looks : (lr : Pos) × LooksBack image visits lr p = are.back p link there linked in
      won_is (given.won p.thread p.step) address (reserved image visits p.thread done) (Succeeds image visits accesses steps looks.0 p address)
      (won_where image visits accesses steps done later looks.0 p address are front there looks.1) (fits.won looks.0 address e looks.1);
}

quiet_fits : (image : Layout) (given : Given) (visits : Visits) (done : List Pos) (p : Pos) → IsQuiet image (at visits p) → FitsAfter image given visits done p
quiet_fits image given visits done p quiet = record {
  bytes = λ (i : ℕ) (less : i < read_count image (at visits p)). absurd (omega (arith, less, quiet.reads));
  won = λ (address link : ℕ) (e : conditional_by (conditional_in image (at visits p).seen) (at visits p).outcome ≡ Some address) (linked : (at visits p).seen.link ≡ Some link).
      absurd (none-some address (sym quiet.conditional ∙ e));
}

fits_to : (image : Layout) (given : Given) (visits : Visits) (accesses steps done later : List Pos) → AreSteps image visits accesses steps
    → Front steps done later → ((q : Pos) → In q later → In q steps) → FitsAlong image given visits done later
    → (q : Pos) → In q later → In q accesses → IsFitting image given visits accesses (Stands steps) q
fits_to image given visits accesses steps done [] are front within fits q i listed = absurd i
fits_to image given visits accesses steps done (p ∷ later) are front within fits q (inl e) listed =
    subst (IsFitting image given visits accesses (Stands steps)) e
    (fitting_to image given visits accesses steps done later p are front (within p (inl refl)) (subst (λ (r : Pos). In r accesses) (sym e) listed) fits.0)
fits_to image given visits accesses steps done (p ∷ later) are front within fits q (inr i) listed =
    fits_to image given visits accesses steps (p ∷ done) later are (front_next steps done later p front) (λ (r : Pos) (j : In r later). within r (inr j)) fits.1 q i listed

fits_from : (image : Layout) (given : Given) (visits : Visits) (accesses steps done later : List Pos) → AreSteps image visits accesses steps
    → Front steps done later → ((q : Pos) → In q later → In q steps) → FitsOrder image given visits accesses (Stands steps) → FitsAlong image given visits done later
fits_from image given visits accesses steps done [] are front within fits = tt
fits_from image given visits accesses steps done (p ∷ later) are front within fits = (
  elim (are.quiet p (within p (inl refl))) [
    | inl listed ↦ fitting_from image given visits accesses steps done later p are front (within p (inl refl)) listed (fits p listed)
    | inr quiet ↦ quiet_fits image given visits done p quiet
  ],
  fits_from image given visits accesses steps (p ∷ done) later are (front_next steps done later p front) (λ (r : Pos) (j : In r later). within r (inr j)) fits,
)

pub fits_by_order : FitsByOrder
fits_by_order image given visits accesses steps are = (
  λ (fits : FitsAlong image given visits [] steps) (p : Pos) (i : In p accesses).
      fits_to image given visits accesses steps [] steps are (front_none steps are.once) (λ (q : Pos) (j : In q steps). j) fits p (are.listed p i) i,
  λ (fits : FitsOrder image given visits accesses (Stands steps)).
      fits_from image given visits accesses steps [] steps are (front_none steps are.once) (λ (q : Pos) (j : In q steps). j) fits,
)
