pub mod Text
pub mod Runs
pub mod RunLaws
pub mod LineLaws
pub mod Reading
pub mod FirstBad
pub mod FirstBadLaws
pub mod TextLaws
