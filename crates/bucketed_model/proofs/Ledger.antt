-- What a ledger of live entries and the buckets have to do with each other.
pub mod Busy
pub mod BusyApart
pub mod Entries
pub mod EntriesApart
pub mod EntriesReturned
pub mod EntriesSeen
pub mod EntriesTaken
pub mod KnownBusy
pub mod TiedGrown
pub mod TiedLaws
pub mod TiedReturned
pub mod TiedTaken
