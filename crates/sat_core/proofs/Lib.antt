pub mod Leaving
pub mod Gathering
pub mod Answering
pub mod Turning
