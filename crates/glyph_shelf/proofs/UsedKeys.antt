pub mod BareEntries
pub mod Entries
pub mod KeyCounts
pub mod StampLemmas
pub mod StateLemmas
pub mod ToFront
pub mod Turning
pub mod Uses
