pub mod Whole
pub mod Decides
pub mod Stands
pub mod Law
