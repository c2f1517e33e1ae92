pub mod Refuted
pub mod Listing
pub mod Naming
pub mod Formed
pub mod Building
