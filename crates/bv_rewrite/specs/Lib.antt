pub mod Views
pub mod Right
pub mod Neutral
pub mod Simpler
pub mod Swapped
pub mod Walks
pub mod Bytes
pub mod Forms
