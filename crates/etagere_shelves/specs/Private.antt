-- What contracts of steps and the invariants of private fields cite; no public clause of the atlas does.
pub mod Consistent
pub mod Listed
