pub mod Pages
pub mod Sheet
pub mod Texture
