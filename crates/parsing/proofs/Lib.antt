pub mod Stacks
pub mod Loops
pub mod Finding
