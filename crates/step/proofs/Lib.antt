pub mod Events
pub mod CounterArray
pub mod EachKind
pub mod Faults
pub mod Enumerated
