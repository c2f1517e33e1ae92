pub mod Answer
pub mod Met
pub mod Advance
