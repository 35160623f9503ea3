-- What contracts of steps and invariants of types cite; no public clause of the atlas does.
pub mod Pending
pub mod SecondWidths
