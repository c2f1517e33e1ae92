pub mod Given
mod Rank
mod Dependence
