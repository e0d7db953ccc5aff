pub mod Lines
pub mod Shown
pub mod Written
pub mod Claims
