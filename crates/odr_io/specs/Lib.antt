pub mod Outside
pub mod Calls
pub mod InMemory
pub mod FileMap
pub mod Written
