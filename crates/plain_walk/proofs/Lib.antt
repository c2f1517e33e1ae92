mod TableLemmas
mod BegunLemmas
mod ByteLemmas
mod RightLemmas
mod WalkLemmas
mod OrderLemmas
mod HoldsLemmas
mod FitLemmas
