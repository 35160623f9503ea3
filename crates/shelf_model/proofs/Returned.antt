-- What merging and returning change and keep.
pub mod MergedAllocated
pub mod MergedNear
pub mod MergedStates
pub mod Restored
pub mod ReturnedAllocated
pub mod ReturnedFreeList
pub mod ReturnedShelf
pub mod ReturnedSpace
pub mod ReturnedValid
pub mod ReturnedWhole
