pub mod Evicting
pub mod Keeping
pub mod PagedLemmas
pub mod PagedRunsOn
pub mod PagedStepsTold
pub mod Told
