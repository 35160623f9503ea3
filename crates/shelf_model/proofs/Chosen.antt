-- What is known of a chosen place.
pub mod ChosenByRule
pub mod FreshPlace
pub mod Placed
pub mod PlacedLarge
pub mod PlacedSizes
