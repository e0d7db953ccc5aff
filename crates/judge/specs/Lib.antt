pub mod Names
pub mod Scopes
pub mod Types
pub mod Rules
pub mod Judge
