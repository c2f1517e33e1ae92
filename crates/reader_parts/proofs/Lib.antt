pub mod Testing
pub mod Later
pub mod Candidates
pub mod Building
