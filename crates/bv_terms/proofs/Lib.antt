pub mod Gathered
pub mod Terms
pub mod Bounds
pub mod Equal
pub mod Growth
pub mod Shared
pub mod Folding
