pub mod Succeeding
pub mod Whole
pub mod Reaching
pub mod Building
