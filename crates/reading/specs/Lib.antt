pub mod Outcomes
pub mod Promise
