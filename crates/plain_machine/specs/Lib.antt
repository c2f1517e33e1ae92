pub mod Met
pub mod Short
