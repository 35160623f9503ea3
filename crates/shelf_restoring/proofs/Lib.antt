pub mod Judged
pub mod Loaded
mod LinkBits
