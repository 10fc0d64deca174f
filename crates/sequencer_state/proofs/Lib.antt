pub mod RoundTrip
pub mod Slices
