-- What contracts of steps and invariants of types cite; no public clause does.
pub mod Arguments
pub mod Digits
pub mod PlainLines
