pub mod Verdict
pub mod Refusals
pub mod Files
pub mod Done
pub mod Settled
