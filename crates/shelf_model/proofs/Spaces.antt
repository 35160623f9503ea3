-- The area that is allocated.
pub mod SpaceBounds
pub mod SpaceLemmas
pub mod SpaceNone
pub mod SpaceSmall
