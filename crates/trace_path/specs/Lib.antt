pub mod Items
pub mod Faults
pub mod Starts
pub mod Shown
pub mod Steps
pub mod Followed
pub mod Traced
