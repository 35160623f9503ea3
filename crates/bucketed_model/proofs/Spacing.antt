-- The area that is allocated.
pub mod Spaces
pub mod SpacesBounded
