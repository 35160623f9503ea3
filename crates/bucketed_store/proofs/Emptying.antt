-- What a return does to records: an item leaves its bucket, and shelves at the end are dropped.
pub mod EndDrops
pub mod EndTotals
pub mod IdleEnds
pub mod ItemReturns
pub mod KnownRecords
pub mod Returned
pub mod SpelledDrops
pub mod SpelledSpots
pub mod SpelledReturns
pub mod Splices
