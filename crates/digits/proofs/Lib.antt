pub mod Puts
pub mod Read
pub mod ReadBack
pub mod ReadLoop
pub mod Writes
