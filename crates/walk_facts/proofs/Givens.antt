-- What is given to a walk matters where the walk asks for it, which is at accesses alone; and where it fits, its bytes are bytes.
use Rattle.std.specs.Prelude.{◌≡◌, ℕ, suc, ◌^◌, ◌<◌, Bool, true, false, cond, List, [], ◌∷◌, ◌++◌, length, nat_eq, Contains, Option, option_map, Some, None, refl}
use Rattle.std.proofs.Common.{sym, ◌∙◌, subst, arith, inl, inr}
use Rattle.std.proofs.Math.Nat.{mod-eq_of_lt}
use Rattle.std.proofs.lemmas.Option.{none-some}
use Rattle.elf_image.specs.declared.cell.Cell.{Cell}
use Rattle.elf_image.specs.declared.write.Write.{Write}
use Rattle.elf_image.specs.ImageLaws.{opening_cells-Some}
use Rattle.elf_image.specs.Layout.{IsSound, Layout}
use Rattle.elf_image.specs.Memory.{Cells, byte_in, cells_after, next, opening_cells, with_byte, writes_of}
use Rattle.odr_log.specs.declared.log.Call.TheVariants as call
use Rattle.odr_log.specs.declared.log.Log.{Log}
use Rattle.odr_log.specs.declared.log.Pos.{Pos}
use Rattle.rv_model.specs.declared.state.Note.TheVariants as note
use Rattle.rv_model.specs.CallsFit.{CallsFit}
use Rattle.rv_model.specs.Noted.{note_in, writes_in}
use Rattle.rv_model.specs.Walk.{IsWalk, Walk}
use Rattle.guided_walk.specs.Fits.{Fits, FitsAlong, FitsVisit, byte_address, conditional_by, memory_along, read_count, reserved, writes_along}
use Rattle.guided_walk.specs.Guided.{Given, IsGuided, Seen, Visit, Visits, access_in, at, conditional_in, instr_of, joined_from, joins, seen_before, visit}
use Rattle.guided_walk.specs.Orders.{In}
use Rattle.guided_walk.specs.Schedules.{places}
use Rattle.guided_walk.specs.Told.{IsPlace, noted, told}
use Rattle.guided_walk.specs.Woven.{Woven}
use Rattle.guided_walk.proofs.Facts.{place_called}
use Rattle.guided_walk.proofs.NeedsOrder.{among_contains}
use Rattle.guided_walk.proofs.Records.{rec}
use Rattle.guided_walk.proofs.ScheduleLaw.{IsPlaced, placed}
use Rattle.walk_flow.specs.Depends.{SameGiven}
use Rattle.walk_flow.proofs.Given.{same_step}
use Rattle.walk_facts.specs.Givens.{BytesLaw, GivenLaw, ReadsBytes, SameAtAccesses, ServesToo, narrowed}
use Rattle.walk_facts.specs.Quiet.{IsQuiet}
use Rattle.walk_facts.proofs.Moves.{AreBytes, GetsBytes}
use Rattle.walk_facts.proofs.Quiet.{access_or, quiet_place}
use Rattle.walk_facts.proofs.Rights.{RightsBy, rights_here}

-- ---- at each place

same_quiet : (image : Layout) (one other : Given) (p : Pos) (visit : Visit) → IsQuiet image visit → SameGiven image one other p visit
same_quiet image one other p visit quiet = record {
  bytes = λ (i : ℕ) (less : i < read_count image visit). absurd (omega (arith, less, quiet.reads));
  won = λ (address link : ℕ) (e : conditional_by (conditional_in image visit.seen) visit.outcome ≡ Some address) (linked : visit.seen.link ≡ Some link).
      absurd (none-some address (sym quiet.conditional ∙ e));
}

same_at : (image : Layout) (log : Log) (walk : Walk) (one other : Given) (v : Visits) → IsWalk image log walk → IsGuided image (told log walk) one v
    → SameAtAccesses image log walk one other v → (p : Pos) → IsPlace (told log walk) p → SameGiven image one other p (at v p)
same_at image log walk one other v is guided same p place = elim (access_or image log walk is p place) [
  | inl access ↦ same p access
  | inr none ↦ same_quiet image one other p (at v p) (quiet_place image log walk one v p is guided place none)
]

-- ---- the walk and what fits it

solves_too : (image : Layout) (log : Log) (walk : Walk) (one other : Given) (v : Visits) → IsGuided image (told log walk) one v
    → (p : Pos) → IsPlace (told log walk) p → SameGiven image one other p (at v p) → at v p ≡ visit image (told log walk) other v p.thread p.step
solves_too image log walk one other v guided p place same =
    let seen : Seen = seen_before image (told log walk) v p.thread p.step in
    let joined : ℕ = joined_from (told log walk) v (joins (noted (told log walk) p)) in
    guided.solves p place
    ∙ same_step image (told log walk) one other p seen joined (subst (SameGiven image one other p) (guided.solves p place) same)

fits_too : (image : Layout) (one other : Given) (memory : Cells) (reservation : Option ℕ) (p : Pos) (visit : Visit) → SameGiven image one other p visit
    → FitsVisit image one memory reservation p visit → FitsVisit image other memory reservation p visit
fits_too image one other memory reservation p visit same fits = record {
  bytes = λ (i : ℕ) (less : i < read_count image visit). sym (same.bytes i less) ∙ fits.bytes i less;
  won = λ (address link : ℕ) (e : conditional_by (conditional_in image visit.seen) visit.outcome ≡ Some address) (linked : visit.seen.link ≡ Some link).
      sym (same.won address link e linked) ∙ fits.won address link e linked;
}

fits_on : (image : Layout) (one other : Given) (v : Visits) (done later : List Pos) → ((p : Pos) → In p later → SameGiven image one other p (at v p))
    → FitsAlong image one v done later → FitsAlong image other v done later
fits_on image one other v done [] same fits = tt
fits_on image one other v done (p ∷ later) same fits = (
  fits_too image one other (memory_along image v done) (reserved image v p.thread done) p (at v p) (same p (inl refl)) fits.0,
  fits_on image one other v (p ∷ done) later (λ (q : Pos) (i : In q later). same q (inr i)) fits.1,
)

-- a woven schedule has places alone
only_places : (image : Layout) (log : Log) (walk : Walk) (pairs : List (Pos × Pos)) (schedule : List ℕ) → IsWalk image log walk → CallsFit log → Woven log pairs schedule
    → (p : Pos) → In p (places schedule) → IsPlace (told log walk) p
only_places image log walk pairs schedule is fit woven p i =
    let there : IsPlaced image log walk schedule = placed image log walk pairs schedule is fit woven in there.come.only p i

serves_by : (image : Layout) (log : Log) (walk : Walk) (one other : Given) (v : Visits) → IsWalk image log walk → CallsFit log → IsGuided image (told log walk) one v
    → ((p : Pos) → IsPlace (told log walk) p → SameGiven image one other p (at v p)) → ServesToo image log walk one other v
serves_by image log walk one other v is fit guided same = record {
  guided = record {
    solves = λ (p : Pos) (place : IsPlace (told log walk) p). solves_too image log walk one other v guided p place (same p place);
    shows = guided.shows;
  };
  fits = λ (pairs : List (Pos × Pos)) (schedule : List ℕ) (woven : Woven log pairs schedule) (fits : Fits image one v schedule).
      fits_on image one other v [] (places schedule)
      (λ (p : Pos) (i : In p (places schedule)). same p (only_places image log walk pairs schedule is fit woven p i)) fits;
}

pub given_law : GivenLaw
given_law image log walk one other v is fit guided same =
    serves_by image log walk one other v is fit guided (same_at image log walk one other v is guided same)

-- ---- memory holds bytes

abbrev Below : List Write → Type 0
Below [] = Unit {0}
Below (w ∷ ws) = (w.byte < 2 ^ 8) × Below ws

below_both : (xs ys : List Write) → Below xs → Below ys → Below (xs ++ ys)
below_both [] ys p q = q
below_both (x ∷ xs) ys p q = (p.0, below_both xs ys p.1 q)

below_writes : (a : ℕ) (bytes : List ℕ) (older : List Write) → AreBytes bytes → Below older → Below (writes_of a bytes older)
below_writes a [] older small below = below
below_writes a (b ∷ bytes) older small below =
    below_writes (next a) bytes (record { address = a; byte = b } ∷ older) (λ (k : ℕ) (less : k < length bytes). small (suc k) (omega (arith, less)))
    (small 0 (omega arith), below)

byte_map : (b : ℕ) (o : Option Cell) → b < 2 ^ 8 → byte_in o < 2 ^ 8 → byte_in (option_map (with_byte b) o) < 2 ^ 8
byte_map b None less before = before
byte_map b (Some cell) less before = less

byte_cond : (t : Bool) (b : ℕ) (o : Option Cell) → b < 2 ^ 8 → byte_in o < 2 ^ 8 → byte_in (cond t (option_map (with_byte b) o) o) < 2 ^ 8
byte_cond true b o less before = byte_map b o less before
byte_cond false b o less before = before

memory_below : (before : Cells) (ws : List Write) (a : ℕ) → byte_in (before a) < 2 ^ 8 → Below ws → byte_in (cells_after before ws a) < 2 ^ 8
memory_below before [] a opening below = opening
memory_below before (w ∷ ws) a opening below = byte_cond (nat_eq w.address a) w.byte (cells_after before ws a) below.0 (memory_below before ws a opening below.1)

opening_below : (image : Layout) (a : ℕ) → IsSound image → byte_in (opening_cells image a) < 2 ^ 8
opening_below image a sound = by_cell (opening_cells image a) refl where
  by_cell : (o : Option Cell) → opening_cells image a ≡ o → byte_in o < 2 ^ 8
  by_cell None e = omega arith
  by_cell (Some cell) e = (opening_cells-Some image a cell sound e).fits

reads_are : (log : Log) → ReadsBytes log → (t s want : ℕ) (bytes : List ℕ) → Contains log.calls (rec t s (call.Read want bytes)) → AreBytes bytes
reads_are log small t s want bytes has k less = small (rec t s (call.Read want bytes)) has k 0 less

place_below : (image : Layout) (log : Log) (walk : Walk) (given : Given) (v : Visits) → ReadsBytes log → IsWalk image log walk → CallsFit log → IsGuided image (told log walk) given v
    → (p : Pos) → IsPlace (told log walk) p → Below (writes_in (at v p).outcome)
place_below image log walk given v small is fit guided p place =
    let by : RightsBy image (at v p).seen.local (instr_of image (at v p).seen) (at v p).outcome = rights_here image log walk given v p is fit guided place in
    let gets : GetsBytes (at v p).outcome = λ (want : ℕ) (bytes : List ℕ) (e : note_in (at v p).outcome ≡ note.Called (call.Read want bytes)).
    reads_are log small p.thread p.step want bytes
    (among_contains log.calls (rec p.thread p.step (call.Read want bytes)) (place_called image log walk is p (call.Read want bytes) (sym (guided.shows p place) ∙ e))) in
    subst Below (sym by.writes) (below_writes _ by.written [] (by.bytes gets) tt)

below_along : (image : Layout) (given : Given) (v : Visits) (done later : List Pos) → IsSound image → Below (writes_along v done)
    → ((p : Pos) → In p later → Below (writes_in (at v p).outcome)) → FitsAlong image given v done later
    → (p : Pos) → In p later → (i : ℕ) → i < read_count image (at v p) → given.bytes p.thread p.step i < 2 ^ 8
below_along image given v done [] sound below writes fits p there i less = absurd there
below_along image given v done (q ∷ later) sound below writes fits p (inl e) i less =
    let a : ℕ = byte_address (access_in image (at v q).seen).address i in
    subst (λ (x : Pos). i < read_count image (at v x) → given.bytes x.thread x.step i < 2 ^ 8) e
    (λ (inside : i < read_count image (at v q)).
    let is : given.bytes q.thread q.step i ≡ byte_in (memory_along image v done (byte_address (access_in image (at v q).seen).address i)) = fits.0.bytes i inside in
    subst (λ (n : ℕ). n < 2 ^ 8) (sym is)
    (memory_below (opening_cells image) (writes_along v done) (byte_address (access_in image (at v q).seen).address i)
    (opening_below image (byte_address (access_in image (at v q).seen).address i) sound) below)) less
below_along image given v done (q ∷ later) sound below writes fits p (inr there) i less =
    below_along image given v (q ∷ done) later sound (below_both (writes_in (at v q).outcome) (writes_along v done) (writes q (inl refl)) below)
    (λ (x : Pos) (j : In x later). writes x (inr j)) fits.1 p there i less

pub bytes_law : BytesLaw
bytes_law image log walk given v pairs schedule sound small is fit guided woven fits =
    let there : IsPlaced image log walk schedule = placed image log walk pairs schedule is fit woven in
    let below : (p : Pos) → IsPlace (told log walk) p → (i : ℕ) → i < read_count image (at v p) → given.bytes p.thread p.step i < 2 ^ 8 =
    λ (p : Pos) (place : IsPlace (told log walk) p).
    below_along image given v [] (places schedule) sound tt
    (λ (q : Pos) (i : In q (places schedule)). place_below image log walk given v small is fit guided q (there.come.only q i)) fits p (there.all p place) in
    record {
      below = below;
      serves = serves_by image log walk given (narrowed given) v is fit guided
          (λ (p : Pos) (place : IsPlace (told log walk) p). record {
            bytes = λ (i : ℕ) (less : i < read_count image (at v p)). sym (mod-eq_of_lt (below p place i less));
            won = λ (address link : ℕ) (e : conditional_by (conditional_in image (at v p).seen) (at v p).outcome ≡ Some address) (linked : (at v p).seen.link ≡ Some link). refl;
          });
    }
