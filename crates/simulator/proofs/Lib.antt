pub mod Cuts
pub mod Fitting
pub mod Making
pub mod Rows
pub mod Simulating
