pub mod Records
pub mod Constraints
pub mod Buffers
pub mod Access
pub mod Calling
