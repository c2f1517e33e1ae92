pub mod GateLemmas
pub mod Rooting
