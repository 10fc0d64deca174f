pub mod Orderly
pub mod Range
pub mod Saved
pub mod Std
