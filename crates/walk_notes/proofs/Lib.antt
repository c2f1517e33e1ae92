mod NoteLemmas
mod RowLemmas
