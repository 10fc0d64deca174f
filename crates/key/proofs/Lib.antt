pub mod Copy
pub mod Orderly
pub mod Saved
