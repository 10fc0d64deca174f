pub mod Decode
pub mod Devices
pub mod EachBay
pub mod Lines
pub mod Orderly
pub mod Range
pub mod Saved
pub mod WriteOnce
