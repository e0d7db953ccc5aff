pub mod Ways
pub mod Pinned
pub mod PurseWays
