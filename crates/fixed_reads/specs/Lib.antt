pub mod Shapes
pub mod Law
