-- What records say of what is allocated, and of what is taken and returned.
pub mod RecordedArea
pub mod RecordedListing
pub mod RecordedReturn
pub mod RecordedTaking
