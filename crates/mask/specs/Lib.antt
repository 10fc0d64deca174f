pub mod Every
pub mod Mask
