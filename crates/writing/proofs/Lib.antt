pub mod Pieces
pub mod Turns
pub mod Pages
