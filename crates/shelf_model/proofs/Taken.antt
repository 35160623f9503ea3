-- What taking a place changes and keeps.
pub mod Allocated
pub mod FreeNumber
pub mod PlacedWithin
pub mod TakenAllocated
pub mod TakenFreeList
pub mod TakenItems
pub mod TakenPieces
pub mod TakenShelves
pub mod TakenSpace
pub mod TakenTiling
pub mod TakenValid
