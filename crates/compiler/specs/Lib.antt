pub mod Compile
pub mod Emit
pub mod Refused
pub mod Words
