pub mod Ahead
pub mod Places
pub mod Refused
pub mod Targets
pub mod Filling
pub mod Image
pub mod Emitting
pub mod Compiling
