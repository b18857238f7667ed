pub mod Asked
pub mod Past
pub mod Entries
pub mod Laws
pub mod Endings
pub mod Readings
pub mod Mixed
