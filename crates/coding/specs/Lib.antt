pub mod Stack
pub mod Pen
pub mod Coding
