pub mod Walk
pub mod Interpret
pub mod Interpreted
pub mod Partners
pub mod State
