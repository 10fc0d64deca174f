pub mod Call
pub mod State
