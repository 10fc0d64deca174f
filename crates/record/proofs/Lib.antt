pub mod ReadBack
pub mod FieldBytes
