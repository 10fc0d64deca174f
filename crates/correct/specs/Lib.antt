pub mod Cases
pub mod CompilerCorrect
pub mod InterpreterCorrect
pub mod ResumeCorrect
