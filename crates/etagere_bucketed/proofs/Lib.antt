pub mod AtlasGrows
pub mod AtlasReturns
pub mod Broken
