pub mod Counts
pub mod NewestLemmas
pub mod ShortCalls
pub mod Spans
