pub mod Listed
mod Written
mod Touched
mod Scenes
mod Sources
mod Outcomes
mod Fitting
mod Given
mod Explaining
