pub mod Word
pub mod Step
pub mod Sequencer
pub mod Represents
pub mod Checked
pub mod Effects
