pub mod Bit
pub mod Index
pub mod Monitor
pub mod Saved
pub mod Table
