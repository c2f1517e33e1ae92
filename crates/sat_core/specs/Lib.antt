pub mod Marks
pub mod Analyses
pub mod Lines
pub mod Searching
