pub mod Run
pub mod Ran
pub mod Ends
