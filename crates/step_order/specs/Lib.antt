pub mod Order
pub mod SoFar
