pub mod Seeded
pub mod Added
