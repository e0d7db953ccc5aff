pub mod Reading
pub mod Typing
pub mod Running
pub mod Texts
pub mod Claims
