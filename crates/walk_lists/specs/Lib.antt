pub mod Data
pub mod Order
pub mod Law
