pub mod ReadBack
pub mod Std
