pub mod Members
pub mod Rest
pub mod StepLemmas
pub mod Agreement
pub mod Growth
pub mod Rooting
