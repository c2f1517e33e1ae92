pub mod Same
pub mod Adding
