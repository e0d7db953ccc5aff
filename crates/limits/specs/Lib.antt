pub mod Greatest
pub mod Made
pub mod Cleared
