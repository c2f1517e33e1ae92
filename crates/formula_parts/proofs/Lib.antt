pub mod Composing
pub mod Required
