pub mod Verdicts
pub mod Bases
pub mod Trials
