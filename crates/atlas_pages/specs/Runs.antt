pub mod Packing
pub mod Running
pub mod Told
