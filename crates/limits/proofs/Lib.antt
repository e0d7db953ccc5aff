pub mod Made
pub mod Cleared
