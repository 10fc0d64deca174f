pub mod Faults
pub mod Flat
pub mod Grammar
pub mod Loops
pub mod OneBody
pub mod Records
pub mod Blocks
pub mod Scanning
