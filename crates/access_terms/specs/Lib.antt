pub mod Rights
pub mod Split
pub mod Won
pub mod Alone
