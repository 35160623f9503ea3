pub mod ByHeight
pub mod Recorded
pub mod Searched
