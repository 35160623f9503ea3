pub mod Keys
pub mod Private
