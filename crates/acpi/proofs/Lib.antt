pub mod Flags
pub mod Legal
pub mod Orderly
pub mod Range
pub mod Saved
pub mod Settle
pub mod Ticks
