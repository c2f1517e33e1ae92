pub mod Sameness
pub mod Sources
pub mod Adding
