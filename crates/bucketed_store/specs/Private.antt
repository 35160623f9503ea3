-- What contracts of steps and invariants of types cite; no public clause of the atlas does.
pub mod DrawnRecords
pub mod Grows
pub mod Placing
pub mod Refusals
pub mod Returns
pub mod StoreEdits
