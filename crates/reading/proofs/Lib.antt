pub mod Numbered
pub mod Trees
pub mod Narrow
pub mod Simulated
pub mod Answered
pub mod Scanned
pub mod Lefts
pub mod Answers
