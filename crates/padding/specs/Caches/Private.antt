-- What keeps the fields; no public clause cites it.
pub mod Kept
pub mod Listed
