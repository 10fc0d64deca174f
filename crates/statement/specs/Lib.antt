pub mod Found
pub mod Grammar
pub mod Line
