-- What contracts of private functions cite; no public clause does.
pub mod Sides
