pub mod Padded
pub mod Private
pub mod Runs
