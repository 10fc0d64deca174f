pub mod All
pub mod Slice
pub mod Stack
pub mod Tests
