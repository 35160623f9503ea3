pub mod Arranging
pub mod Private
