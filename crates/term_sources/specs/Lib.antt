pub mod Sees
pub mod Law
pub mod Explains
