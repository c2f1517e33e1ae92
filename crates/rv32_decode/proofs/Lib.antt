pub mod Disjoint
pub mod Groups
pub mod Masks
pub mod OneWord
pub mod Rows
pub mod Validity
