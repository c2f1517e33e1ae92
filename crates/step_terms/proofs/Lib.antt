pub mod Making
pub mod Signs
pub mod Words
pub mod Products
pub mod Divisions
pub mod Loading
