pub mod ByHeight
pub mod Grown
pub mod Recorded
pub mod Spelled
