-- What records spell, and that they stand for it.
pub mod Fresh
pub mod KeptShelves
pub mod ReadBack
pub mod Stands
pub mod StandsKept
pub mod UsedAreas
