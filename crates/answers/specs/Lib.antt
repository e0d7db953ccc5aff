pub mod Answers
pub mod Ended
