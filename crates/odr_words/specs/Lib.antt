pub mod Limits
pub mod Arguments
pub mod Jobs
pub mod Numbers
pub mod Read
pub mod Split
