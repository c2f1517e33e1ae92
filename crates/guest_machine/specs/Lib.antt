pub mod Notes
pub mod Ran
pub mod Spans
pub mod Hearing
pub mod Whole
pub mod Waiting
