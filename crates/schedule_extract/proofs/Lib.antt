pub mod Passing
pub mod Counts
pub mod Standing
pub mod Weaving
pub mod Ends
pub mod Totals
