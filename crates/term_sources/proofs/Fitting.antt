-- What is given fits an order exactly where each access is what it sees.
use Rattle.std.specs.Prelude.{◌≡◌, ℕ, ◌<◌}
use Rattle.std.proofs.Common.{subst}
use Rattle.guided_walk.specs.Orders.{Stands}
use Rattle.thread_terms.specs.Given.{given_by}
use Rattle.access_fits.specs.Fitting.{FitsOrder, IsFitting}
use Rattle.term_sources.specs.Sees.{IsSeen}
use Rattle.term_sources.specs.Law.{TermsFit}
use Rattle.term_sources.proofs.Listed.{pos_in, in_pos}
use Rattle.term_sources.proofs.Scenes.{Scene, count, here, positions}
use Rattle.term_sources.proofs.Sources.{all_fit}
use Rattle.term_sources.proofs.Outcomes.{outcome_to, outcome_from}

abbrev Fits : Scene → Type 0
Fits s = FitsOrder s.image (given_by s.t) s.visits (positions s) (Stands s.steps)

abbrev Seen : Scene → ℕ → Type 0
Seen s x = IsSeen s.image s.t s.nodes s.paths.accesses s.lt x

seen_to : (s : Scene) → Fits s → (x : ℕ) → x < count s → Seen s x
seen_to s fits x less =
    let fit : IsFitting s.image (given_by s.t) s.visits (positions s) (Stands s.steps) (here s x).pos = fits (here s x).pos (pos_in s.paths.accesses x less) in
    record { bytes = (all_fit s x less).0 fit.bytes; outcome = outcome_to s x less fit.won }

seen_from : (s : Scene) → ((x : ℕ) → x < count s → Seen s x) → Fits s
seen_from s seen p i =
    let x : (x : ℕ) × (x < count s) × ((here s x).pos ≡ p) = in_pos s.paths.accesses p i in
    subst (IsFitting s.image (given_by s.t) s.visits (positions s) (Stands s.steps)) x.2 (record {
      bytes = (all_fit s x.0 x.1).1 (seen x.0 x.1).bytes;
      won = outcome_from s x.0 x.1 (seen x.0 x.1).outcome;
    })

pub terms_fit : TermsFit
terms_fit image log walk nodes paths t visits steps lt is fits are guided words outcomes order =
    let s : Scene = record {
      image = image;
      log = log;
      walk = walk;
      nodes = nodes;
      paths = paths;
      t = t;
      visits = visits;
      steps = steps;
      lt = lt;
      is = is;
      fits = fits;
      are = are;
      guided = guided;
      words = words;
      outcomes = outcomes;
      order = order;
    } in (seen_to s, seen_from s)
