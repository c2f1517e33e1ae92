pub mod Requiring
pub mod Adding
pub mod Reading
pub mod Succeeding
pub mod Whole
