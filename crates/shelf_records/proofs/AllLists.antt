-- That all records stay linked through each step: each list is a list, and each record stands in one.
pub mod Following
pub mod LinkedEdits
pub mod LinkedFields
pub mod LinkedFrames
pub mod LinkedItems
pub mod LinkedMerges
pub mod LinkedParts
pub mod LinkedShelves
pub mod LinkedSplits
pub mod LinkedUnused
pub mod LinkedUses
pub mod LinkedWalks
