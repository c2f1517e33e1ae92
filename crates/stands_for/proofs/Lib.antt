pub mod Given
pub mod Orders
pub mod Variables
pub mod Standing
