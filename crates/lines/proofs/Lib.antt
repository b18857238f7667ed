pub mod Cuts
pub mod Digits
pub mod Names
pub mod Lines
pub mod Parted
pub mod Takes
pub mod Written
pub mod InputLines
