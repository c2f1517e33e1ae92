pub mod Trying
pub mod Basing
pub mod Judging
