pub mod World
pub mod OwnRun
