pub mod Arranging
pub mod Order
pub mod Tied
