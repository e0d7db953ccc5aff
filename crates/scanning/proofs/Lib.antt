pub mod Entries
pub mod Turns
