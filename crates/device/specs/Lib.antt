pub mod Device
pub mod Dispatch
pub mod Event
pub mod EventKinds
pub mod Single
pub mod Owner
pub mod Owners
