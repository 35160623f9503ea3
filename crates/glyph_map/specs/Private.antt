-- What contracts of private functions and the invariants of private fields cite; no public clause does.
pub mod Entering
pub mod Evicting
pub mod Listed
pub mod Lockstep
pub mod Numbering
pub mod Outcomes
pub mod Refusing
