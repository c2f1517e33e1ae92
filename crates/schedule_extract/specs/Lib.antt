pub mod Going
pub mod Marks
pub mod Law
