pub mod Stopping
pub mod Changing
pub mod Following
pub mod Plainly
pub mod Writing
pub mod Law
pub mod Tying
pub mod Looking
