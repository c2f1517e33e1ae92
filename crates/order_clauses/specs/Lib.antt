pub mod Orders
pub mod Literals
pub mod Tables
pub mod Clauses
pub mod Grid
pub mod Ordered
pub mod Laws
