pub mod Fitting
pub mod Law
