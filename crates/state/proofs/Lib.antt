pub mod Calls
pub mod Parts
pub mod RoundTrip
pub mod Slices
