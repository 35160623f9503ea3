pub mod Done
pub mod Entries
pub mod Found
pub mod Restored
