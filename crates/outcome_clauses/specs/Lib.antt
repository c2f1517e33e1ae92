pub mod Succeeds
pub mod Contract
pub mod NoneOf
pub mod Failures
pub mod Placed
pub mod Laws
