pub mod FirstBad
pub mod LoopInvariant
pub mod Answers
pub mod Endings
pub mod Range
