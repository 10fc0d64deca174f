pub mod Base
pub mod Fields
pub mod Index
pub mod Mask
pub mod Config
pub mod Saved
