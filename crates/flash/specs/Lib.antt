pub mod Calls
pub mod Causes
pub mod FlashState
pub mod Plans
pub mod Seen
pub mod Shapes
