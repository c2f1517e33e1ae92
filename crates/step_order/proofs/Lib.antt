pub mod Orders
pub mod Fronts
pub mod Needed
pub mod Whole
