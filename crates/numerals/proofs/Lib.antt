pub mod Written
pub mod Reading
pub mod Fronts
pub mod Examples
