pub mod Looked
pub mod Admitted
