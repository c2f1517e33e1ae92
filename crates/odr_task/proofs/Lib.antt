pub mod Settling
pub mod Loading
