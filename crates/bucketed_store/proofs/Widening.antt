-- What a grow does to records: shelves get further buckets in front of their own.
pub mod Grown
pub mod NoneWidened
pub mod Shares
pub mod WidenedShelf
pub mod WidenedShelves
