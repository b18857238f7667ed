pub mod Cases
pub mod Asked
pub mod Logs
pub mod Rows
