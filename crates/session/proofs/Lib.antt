pub mod Powering
pub mod Answering
