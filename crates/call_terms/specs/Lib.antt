pub mod Records
pub mod Law
pub mod Constraints
pub mod Moved
pub mod Steps
