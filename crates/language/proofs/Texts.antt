pub mod Verdicts
pub mod Promised
pub mod Afresh
pub mod Tables
pub mod Desk
pub mod Worked
pub mod Returning
pub mod Blocks
