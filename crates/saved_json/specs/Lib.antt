pub mod JsonFields
pub mod Records
pub mod Snapshots
pub mod Private
