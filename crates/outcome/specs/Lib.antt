pub mod Ending
pub mod Number
pub mod Refusal
pub mod Refused
