pub mod All
pub mod Slice
pub mod Paste
pub mod Replicate
pub mod Stack
pub mod Stores
pub mod Tests
