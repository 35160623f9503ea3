pub mod EditLemmas
mod WalkRows
mod WalkSteps
mod MarkedWalks
mod WalkPrefixes
pub mod Chains
mod FirstFaults
pub mod LinkBits
pub mod ListEnds
mod MetPositions
pub mod MarkLemmas
pub mod RecordChanges
pub mod ReadLinks
pub mod Tallies
pub mod WalkChains
pub mod FieldChanges
pub mod WalkedLists
