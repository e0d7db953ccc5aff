pub mod Amounts
pub mod Signs
