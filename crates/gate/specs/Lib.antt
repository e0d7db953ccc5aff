pub mod Lent
pub mod Steps
