pub mod Asked
pub mod Basis
