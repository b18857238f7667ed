pub mod ImageNumbers
pub mod ImageUnits
pub mod ImageFlashes
pub mod ImageCalls
