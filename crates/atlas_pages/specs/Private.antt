-- What contracts of private functions and the invariants of private fields cite; no public clause does.
pub mod Fullest
pub mod Kept
pub mod Listed
pub mod Pieces
pub mod Restored
pub mod Taking
