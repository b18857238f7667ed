pub mod ImageBytes
pub mod ImageStates
pub mod ImageHeader
pub mod ImageOpening
pub mod Formed
