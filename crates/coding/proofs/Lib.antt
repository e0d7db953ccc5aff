pub mod Numbers
pub mod Stack
pub mod Pen
pub mod Rows
