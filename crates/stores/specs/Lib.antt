pub mod Ends
pub mod Choices
