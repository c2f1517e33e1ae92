pub mod Bits
pub mod Seeing
pub mod Succeeding
pub mod Joining
