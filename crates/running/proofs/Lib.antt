pub mod Laws
pub mod Values
pub mod Blocks
pub mod Commands
