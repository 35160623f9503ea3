-- What contracts of steps and invariants of types cite; no public clause of the atlas does.
pub mod ByHeight
pub mod FrontRoom
pub mod ListFields
pub mod OneBound
