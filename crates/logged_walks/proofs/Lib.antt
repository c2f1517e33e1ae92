pub mod Possible
pub mod Steps
pub mod Halts
pub mod Calls
pub mod Threads
pub mod Runs
pub mod Along
pub mod Walks
