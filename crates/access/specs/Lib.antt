pub mod Block
pub mod Status
