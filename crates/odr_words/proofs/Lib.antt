pub mod NumberLemmas
pub mod WordLemmas
pub mod OptionLemmas
pub mod GivenLemmas
pub mod JobLemmas
pub mod WalkLemmas
pub mod SplitLemmas
