-- What the invariants of private fields cite; no public clause does.
pub mod Kept
pub mod Listed
