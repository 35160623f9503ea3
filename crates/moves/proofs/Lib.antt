pub mod MovedAtlases
pub mod MovedCaches
pub mod MovedPages
