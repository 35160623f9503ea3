-- What records spell once the steps of the calls have changed them.
pub mod AllocatedRecords
pub mod Ends
pub mod FoundFirst
pub mod FoundBucket
pub mod MadeBuckets
pub mod MadeLengths
pub mod MadeShelves
pub mod MergedShelves
pub mod PlacedRecords
pub mod SpotRecords
pub mod TakenRecords
pub mod WidestRooms
pub mod WidestSpots
