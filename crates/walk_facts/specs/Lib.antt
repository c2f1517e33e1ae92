pub mod Steps
pub mod Bytes
pub mod Quiet
pub mod Links
pub mod Givens
pub mod Runs
pub mod Law
