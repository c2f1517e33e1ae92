pub mod Links
pub mod Following
pub mod Ending
pub mod Paths
pub mod Progress
