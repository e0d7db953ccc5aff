pub mod Pieces
pub mod Parts
pub mod Pages
