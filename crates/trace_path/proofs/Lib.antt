pub mod ToldLemmas
pub mod StepLemmas
pub mod WalkLemmas
pub mod StartLemmas
pub mod AccessLemmas
pub mod ThreadLemmas
pub mod WholeLemmas
