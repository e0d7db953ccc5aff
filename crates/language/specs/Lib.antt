-- The language, said once. What is believed, in the order of reading:
pub mod Library
pub mod Syntax
pub mod Bytes
pub mod Places
pub mod Answers
pub mod Names
pub mod Numbers
pub mod Words
pub mod Grammar
pub mod Table
pub mod Levels
pub mod Reading
pub mod Types
pub mod Typing
pub mod Order
pub mod Limits
pub mod Rules
pub mod Outcome
pub mod Promises
-- What is claimed of it, and proved in proofs/Claims.antt:
pub mod Desk
pub mod Claims
