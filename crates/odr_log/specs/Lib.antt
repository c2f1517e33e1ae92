pub mod Grammar
pub mod Tape
pub mod Same
pub mod SameLaws
pub mod Reading
pub mod Faults
