pub mod Atlases
pub mod Caches
pub mod Pages
