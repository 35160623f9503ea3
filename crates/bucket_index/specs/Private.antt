-- What contracts of steps and invariants of types cite; no public clause of the atlas does.
pub mod Blocks
pub mod Heights
pub mod Missed
pub mod Rest
pub mod Rooms
pub mod Searching
pub mod Spans
