-- What contracts of steps and invariants of types cite; no public clause of the atlas does.
pub mod FoundNotes
pub mod FreshRecords
pub mod ItemReturned
pub mod PlacementTaken
pub mod RecordsGrown
pub mod ReturnedNotes
pub mod SecondWidths
pub mod Settling
