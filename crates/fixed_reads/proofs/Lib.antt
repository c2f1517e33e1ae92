pub mod Numbers
pub mod Fixed
