pub mod DraftLines
pub mod Emitting
pub mod Find
pub mod Finishing
pub mod Labels
pub mod Lines
pub mod RegisterNames
pub mod Words
