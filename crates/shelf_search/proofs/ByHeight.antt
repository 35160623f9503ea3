-- The shelves in use by height: how a search goes over the list.
pub mod BestByHeight
pub mod EarliestChosen
pub mod EarliestShelves
pub mod EmptyShelves
pub mod GoodOffers
pub mod LeastOffers
pub mod PassedShelves
pub mod SearchableShelves
pub mod SearchedOnes
pub mod Searches
