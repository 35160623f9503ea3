pub mod Saved
pub mod Spelling
