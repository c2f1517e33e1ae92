mod Newest
mod Front
mod Bytes
mod Reserved
mod Won
mod Along
pub mod Woven
mod Decided
