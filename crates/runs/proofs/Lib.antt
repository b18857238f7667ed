pub mod Tickets
pub mod Steps
pub mod Given
pub mod Links
pub mod Wholes
