pub mod Residues
pub mod Shapes
pub mod SimulatorStates
pub mod Tables
pub mod Formed
