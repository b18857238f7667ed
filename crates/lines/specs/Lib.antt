pub mod Words
pub mod Tokens
pub mod Numbers
pub mod Commands
pub mod Answers
pub mod Inputs
pub mod Outputs
