pub mod OneWord
pub mod ReadInstructions
pub mod ReadLines
pub mod ReadNames
pub mod ReadNumbers
pub mod ReadOperands
pub mod ReadRanges
pub mod ReadWords
