-- The place of a size, found by records: it is the one that the model finds.
pub mod AskedReasons
pub mod CountedStates
pub mod FirstLooks
pub mod FoundPlacements
pub mod LowestCandidates
pub mod OneMore
pub mod PassedWalks
pub mod SearchSteps
pub mod SearchedShelves
