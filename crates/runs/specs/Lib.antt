pub mod Held
pub mod Hands
pub mod States
pub mod Runs
pub mod Whole
