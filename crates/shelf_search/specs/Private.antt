-- What contracts of steps and invariants of types cite; no public clause of the atlas does.
pub mod Asking
pub mod DrawnRecords
pub mod Opening
pub mod Searching
