pub mod Arranging
pub mod Options
pub mod Order
pub mod Private
