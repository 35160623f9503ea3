-- How shelves are made, merged, widened and dropped.
pub mod Added
pub mod Ends
pub mod Groups
pub mod GrownFrames
pub mod GrownShelves
pub mod Made
pub mod Merged
pub mod NewFrames
pub mod Powers
pub mod Shares
pub mod Shelves
