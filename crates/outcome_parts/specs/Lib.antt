pub mod Rivals
pub mod Outcomes
