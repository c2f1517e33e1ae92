pub mod Packing
pub mod Inverse
pub mod Paths
pub mod Watching
pub mod Visits
pub mod Engines
pub mod Loading
