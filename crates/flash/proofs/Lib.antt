pub mod Refusals
pub mod Keeping
