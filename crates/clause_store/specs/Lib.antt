pub mod Literals
pub mod Formula
pub mod UnitRule
pub mod Steps
pub mod Rooted
pub mod Laws
