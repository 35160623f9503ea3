mod Beginnings
mod DigitCounts
pub mod GatheringLemmas
