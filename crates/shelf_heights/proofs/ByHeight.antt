-- The shelves in use by height: how the list is searched and changed.
pub mod Edited
pub mod FreeBounds
pub mod LeftOver
pub mod MovedLists
pub mod OrdersRise
pub mod PairedShelves
pub mod PassedBounds
pub mod Positions
pub mod RisingNumbers
pub mod SameBounds
pub mod ShiftedLists
pub mod SortedKeys
pub mod UsedLists
pub mod WideBounds
