pub mod Readers
pub mod Conditionals
pub mod Together
