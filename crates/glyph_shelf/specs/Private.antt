-- What contracts of private functions and the invariants of private fields cite; no public clause does.
pub mod Asking
pub mod Kept
pub mod Restoring
