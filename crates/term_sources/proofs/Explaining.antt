-- A woven schedule has the log exactly where terms explain it.
use Rattle.std.specs.Prelude.{◌≡◌, ℕ, ◌<◌, ◌^◌, Bool, true, false, cond, [], Some, Contains}
use Rattle.std.proofs.Common.{sym, arith}
use Rattle.elf_image.specs.Layout.{Layout}
use Rattle.odr_log.specs.declared.log.Log.{Log}
use Rattle.odr_log.specs.declared.log.Pos.{Pos}
use Rattle.rv_model.specs.CallsFit.{CallsFit}
use Rattle.rv_model.specs.Walk.{IsWalk, Walk}
use Rattle.guided_walk.specs.Fits.{Explained, Fits, conditional_by, read_count, reads_in}
use Rattle.guided_walk.specs.Guided.{Given, Guided, IsGuided, Visits, access_in, at, conditional_in, instr_of}
use Rattle.guided_walk.specs.Orders.{In, Stands}
use Rattle.guided_walk.specs.Schedules.{places}
use Rattle.guided_walk.specs.Told.{told}
use Rattle.guided_walk.specs.Woven.{Woven}
use Rattle.guided_walk.proofs.ScheduleLaw.{schedule_law}
use Rattle.thread_terms.specs.Given.{given_by}
use Rattle.walk_orders.proofs.Decided.{logged_woven}
use Rattle.walk_facts.specs.Bytes.{HasRights}
use Rattle.walk_facts.specs.Givens.{IsGivenBytes, SameAtAccesses, ServesToo, narrowed}
use Rattle.walk_facts.proofs.Addresses.{counted_is_place}
use Rattle.walk_facts.proofs.Givens.{bytes_law, given_law}
use Rattle.walk_facts.proofs.Rights.{rights_law}
use Rattle.access_fits.specs.Fitting.{FitsOrder}
use Rattle.access_fits.proofs.Woven.{woven_fits_law}
use Rattle.term_sources.specs.Explains.{ExplainedHasLog, HasFewSteps, LogIsExplained}
use Rattle.term_sources.proofs.Fitting.{terms_fit}
use Rattle.term_sources.proofs.Given.{assigned, assigned_byte, assigned_won}

pub explained_has_log : ExplainedHasLog
explained_has_log image log walk nodes paths t lt pairs schedule version is calls are terms woven order explains =
    let guided : Guided image (told log walk) (given_by t) = (are.meets t).0 explains.meets in
    let fits : FitsOrder image (given_by t) guided.0 _ (Stands (places schedule)) =
    (terms_fit image log walk nodes paths t guided.0 (places schedule) lt is calls are guided.1 (terms.words t) (terms.outcomes t) order).1 explains.seen in
    (schedule_law image log walk pairs schedule version is calls woven).1 (record {
      given = given_by t;
      visits = guided.0;
      guided = guided.1;
      fits = (woven_fits_law image log walk (given_by t) guided.0 pairs schedule _ is calls guided.1 woven are.lists).1 fits;
    })

-- no more bytes are read than an access has
read_by_test : (b : Bool) (n i : ℕ) → i < cond b n 0 → i < n
read_by_test true n i less = less
read_by_test false n i less = absurd (omega (arith, less))

read_few : (image : Layout) (visits : Visits) (p : Pos) (i : ℕ) → HasRights image (at visits p) → i < read_count image (at visits p) → i < 2 ^ 8
read_few image visits p i rights less =
    let within : i < (access_in image (at visits p).seen).count = read_by_test (reads_in (instr_of image (at visits p).seen) (at visits p).outcome) (access_in image (at visits p).seen).count i less in
    omega (arith, within, rights.few)

-- what is given is the same by the assignment, at accesses
same_assigned : (image : Layout) (log : Log) (walk : Walk) (given : Given) (visits : Visits) → IsWalk image log walk → CallsFit log
    → IsGuided image (told log walk) (narrowed given) visits → HasFewSteps log
    → SameAtAccesses image log walk (narrowed given) (given_by (assigned given)) visits
same_assigned image log walk given visits is calls guided few p access =
    let rights : HasRights image (at visits p) =
    rights_law image log walk (narrowed given) visits p is calls guided (counted_is_place image log walk is p access.0) in record {
      bytes = λ (i : ℕ) (less : i < read_count image (at visits p)).
          sym (assigned_byte given p.thread p.step i (few p access.0) (read_few image visits p i rights less));
      won = λ (address link : ℕ) (taken : conditional_by (conditional_in image (at visits p).seen) (at visits p).outcome ≡ Some address)
          (linked : (at visits p).seen.link ≡ Some link). sym (assigned_won given p.thread p.step (few p access.0));
    }

pub log_is_explained : LogIsExplained
log_is_explained image log walk nodes paths lt schedule version sound bytes few is calls are terms has order =
    let woven : Woven log [] schedule = logged_woven image log walk schedule [] [] is calls has
    (λ (p : Pos) (i : In p []). absurd i) (λ (p q : Pos) (i : Contains [] (p, q)). absurd (omega (arith, i.1))) in
    let explained : Explained image (told log walk) schedule = (schedule_law image log walk [] schedule version is calls woven).0 has in
    let given : IsGivenBytes image log walk explained.given explained.visits =
    bytes_law image log walk explained.given explained.visits [] schedule sound bytes is calls explained.guided woven explained.fits in
    let serves : ServesToo image log walk (narrowed explained.given) (given_by (assigned explained.given)) explained.visits =
    given_law image log walk (narrowed explained.given) (given_by (assigned explained.given)) explained.visits is calls given.serves.guided
    (same_assigned image log walk explained.given explained.visits is calls given.serves.guided few) in
    let fits : Fits image (given_by (assigned explained.given)) explained.visits schedule =
    serves.fits [] schedule woven (given.serves.fits [] schedule woven explained.fits) in (
      assigned explained.given,
      record {
        meets = (are.meets (assigned explained.given)).1 (explained.visits, serves.guided);
        seen = (terms_fit image log walk nodes paths (assigned explained.given) explained.visits (places schedule) lt is calls are serves.guided
            (terms.words (assigned explained.given)) (terms.outcomes (assigned explained.given)) order).0
            ((woven_fits_law image log walk (given_by (assigned explained.given)) explained.visits [] schedule _ is calls serves.guided woven are.lists).0 fits);
      },
    )
