pub mod Faults
pub mod Held
pub mod Keyed
pub mod Paged
pub mod Private
pub mod Runs
