pub mod Assemble
pub mod Assembled
pub mod Grammar
pub mod TextCorrect
