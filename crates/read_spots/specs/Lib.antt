pub mod Spots
pub mod Sources
