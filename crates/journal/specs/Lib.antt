pub mod Reading
pub mod Stretch
pub mod Log
pub mod Views
pub mod Writes
pub mod Commit
pub mod Outcomes
