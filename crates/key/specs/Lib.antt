pub mod Key
pub mod Saved
