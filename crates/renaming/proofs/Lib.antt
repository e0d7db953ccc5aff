pub mod Corresponding
pub mod Typed
pub mod Running
pub mod Claims
