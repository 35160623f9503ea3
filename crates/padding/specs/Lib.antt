pub mod Caches
pub mod Laws
pub mod Padding
pub mod Pages
pub mod Private
