pub mod Record
pub mod WordKind
pub mod WordKinds
