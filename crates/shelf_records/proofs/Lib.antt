pub mod Judged
pub mod Recorded
pub mod Spelled
pub mod AllLists
pub mod Families
pub mod FirstLinks
mod FirstWrites
pub mod MadeRecords
pub mod NeighbourFrames
pub mod MissingRecords
pub mod UsedRecords
pub mod RecordRows
pub mod ChainEdits
pub mod Chains
pub mod ListEnds
pub mod RecordFrames
pub mod RecordLists
