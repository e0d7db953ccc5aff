pub mod Classes
pub mod Stretches
pub mod Packing
pub mod Loops
pub mod Following
pub mod Fronts
pub mod Answers
pub mod Examples
