-- What records say of what is allocated.
pub mod Members
pub mod RecordedAllocations
pub mod RecordsOfIds
