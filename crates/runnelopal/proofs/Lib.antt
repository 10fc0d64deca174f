pub mod Refusals
pub mod ResumeSaved
pub mod SavedCalls
pub mod Valid
