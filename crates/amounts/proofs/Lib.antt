pub mod Range
pub mod Kept
pub mod Examples
