-- What is allocated: its list, ids, counts and rectangles.
pub mod AllocatedIds
pub mod AllocatedItems
pub mod AllocatedLists
pub mod AllocatedNothing
pub mod AllocatedRectangles
pub mod AllocatedTotals
pub mod EqualCounts
pub mod IdLists
pub mod InShelves
pub mod ItemBound
pub mod ItemIds
pub mod ListedOnce
pub mod RecordNumbers
pub mod SeenById
