pub mod Bounds
pub mod Floor
pub mod Judged
pub mod Products
pub mod Ranges
pub mod Sizes
