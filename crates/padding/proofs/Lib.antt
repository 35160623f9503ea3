pub mod Accepted
pub mod PaddedCaches
pub mod PaddedPages
pub mod Refused
pub mod Trimmed
