pub mod Continuing
pub mod GoingOn
pub mod Ledgers
pub mod Refusals
pub mod Resuming
pub mod Saving
pub mod Stats
pub mod Tallies
