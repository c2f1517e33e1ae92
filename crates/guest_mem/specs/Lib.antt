pub mod Accesses
pub mod Blocks
pub mod Opening
pub mod Runs
pub mod Width
pub mod Laws
