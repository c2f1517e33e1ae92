pub mod Strict
pub mod Cells
pub mod ChosenTables
pub mod Agreeing
