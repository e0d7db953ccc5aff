pub mod Admits
pub mod Tables
pub mod Came
pub mod Programs
pub mod Promised
pub mod Ways
