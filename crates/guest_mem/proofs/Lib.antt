pub mod Rows
pub mod BlockLemmas
pub mod Spans
pub mod OpeningLemmas
