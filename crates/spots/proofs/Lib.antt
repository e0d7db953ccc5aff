-- What the proofs of several functions cite.
pub mod Lines
pub mod Drawing
pub mod Rows
