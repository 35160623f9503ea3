-- What contracts of steps and invariants of types cite; no public clause does.
pub mod Changes
pub mod Coded
pub mod Given
pub mod Ids
pub mod Renamed
pub mod Renumbered
pub mod Rooms
pub mod Tables
pub mod Tied
