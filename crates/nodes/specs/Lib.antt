pub mod Nodes
pub mod Written
pub mod Forests
pub mod Trees
pub mod Names
pub mod Meanings
