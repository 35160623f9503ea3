-- What the passes over a snapshot's records tell of its rules.
pub mod Assembled
pub mod Breaches
pub mod Comparisons
pub mod JudgedShelves
pub mod LinksRead
pub mod RefusedWalks
pub mod RowPasses
pub mod RowTests
pub mod StackTests
