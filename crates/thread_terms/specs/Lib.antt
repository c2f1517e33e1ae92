pub mod Standing
pub mod Variables
pub mod Given
pub mod Steps
