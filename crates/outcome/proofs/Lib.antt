pub mod MapErr
pub mod Numbers
