pub mod Mirrored
pub mod MirrorFaults
pub mod MirrorSides
pub mod Formed
