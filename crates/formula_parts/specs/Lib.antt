pub mod Order
pub mod Facts
pub mod Parts
pub mod Laws
