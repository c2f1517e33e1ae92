pub mod Fields
pub mod Laws
pub mod Table
pub mod Valid
