pub mod HeldIn
pub mod Pieces
