pub mod Cutting
pub mod FirstEntries
pub mod Going
pub mod Renumbering
pub mod RestOfRun
pub mod Starting
pub mod WholePositions
