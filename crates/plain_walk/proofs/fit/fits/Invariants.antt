use Rattle.plain_walk.specs.Data.{given_of}
use Rattle.plain_walk.specs.Tables.{visits_in}
use Rattle.plain_walk.proofs.FitLemmas.{SoFar}
use Rattle.plain_walk.proofs.fit.fits.Given as goal

abbrev pub invariant-loop-thread : goal.invariant-loop-thread
invariant-loop-thread l = SoFar l.image (given_of l.rows) (visits_in l.table) l.schedule l.thread-index l.done l.writes
