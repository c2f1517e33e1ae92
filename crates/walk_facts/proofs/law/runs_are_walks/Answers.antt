use Rattle.walk_facts.proofs.Runs.{end_law, run_law}
use Rattle.walk_facts.proofs.law.runs_are_walks.Goals as goal

pub returns : goal.returns
returns c = record { steps = run_law; ends = end_law }
