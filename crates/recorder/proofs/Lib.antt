pub mod Seeding
pub mod StepLogs
pub mod Fits
pub mod Children
pub mod Choice
pub mod Holds
