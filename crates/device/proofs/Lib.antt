pub mod Claims
pub mod Orderly
pub mod Range
pub mod Settle
pub mod Ticks
pub mod NamedOwner
