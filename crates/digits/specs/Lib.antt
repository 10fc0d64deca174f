pub mod Found
pub mod Read
pub mod Text
pub mod Written
