pub mod HeaderLemmas
pub mod SoundImages
pub mod Faults
pub mod Apart
