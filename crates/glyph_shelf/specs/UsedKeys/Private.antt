-- What contracts of private functions and the invariants of private fields cite; no public clause does but that of
-- the iterator.
pub mod Inside
pub mod Stamps
