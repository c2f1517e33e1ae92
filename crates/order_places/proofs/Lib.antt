pub mod Placed
pub mod Merged
pub mod Decided
pub mod Telling
