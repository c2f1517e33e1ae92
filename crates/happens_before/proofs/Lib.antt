pub mod ClosedForm
pub mod FitLemmas
pub mod PassLemmas
pub mod TableLemmas
