pub mod Entries
pub mod State
pub mod Program
pub mod Leaves
pub mod Codes
pub mod Machine
pub mod Shown
