pub mod Gate
pub mod Fixed
pub mod Laws
