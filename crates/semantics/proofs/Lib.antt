pub mod Events
pub mod RunOwner
