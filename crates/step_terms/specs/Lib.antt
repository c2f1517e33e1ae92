pub mod Made
pub mod Division
pub mod Bytes
