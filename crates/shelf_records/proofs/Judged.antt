-- What passes over lists that walks have met need to judge the rules of a snapshot.
pub mod EqualTimes
pub mod FreeLists
