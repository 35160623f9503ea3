-- What passes over lists that walks have met need to judge the rules of a snapshot.
pub mod ColumnStarts
pub mod FlagPasses
pub mod ItemPasses
pub mod JudgedShelves
pub mod MappedLists
pub mod NeighbourPasses
pub mod OwnItems
pub mod OwnLists
pub mod ShortLists
pub mod StackedShelves
pub mod UsedMarks
