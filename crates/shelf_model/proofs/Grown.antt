-- What a grow changes and keeps.
pub mod GrownAllocated
pub mod GrownFrames
pub mod GrownShelf
pub mod GrownShelves
pub mod GrownValid
pub mod HeightenedShelves
