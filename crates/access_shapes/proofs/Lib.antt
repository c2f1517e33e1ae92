pub mod Guards
pub mod Shaping
