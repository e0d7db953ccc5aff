pub mod Edges
pub mod Vectors
