pub mod Simulated
pub mod Sessions
pub mod Held
pub mod Exchanges
pub mod Requests
