pub mod Marks
pub mod Next
pub mod Tests
