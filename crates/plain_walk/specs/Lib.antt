pub mod Data
pub mod Tables
pub mod Begun
pub mod Heard
pub mod Order
pub mod Fit
