pub mod Refuting
pub mod Affirming
pub mod Ending
pub mod Gathering
pub mod Adding
pub mod Composing
pub mod Placing
