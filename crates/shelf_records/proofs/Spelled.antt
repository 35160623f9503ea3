-- What linked records spell, and how each edit of them changes it.
pub mod EntryValues
pub mod HeightsBefore
pub mod KeptShelves
pub mod RecordValues
pub mod SpelledNumbers
pub mod SpelledPlaces
pub mod StandsKept
pub mod StandsLinked
pub mod Witnessed
pub mod Witnesses
