-- What contracts of private functions and the invariants of private fields cite; no public clause
-- does.
pub mod Drawn
pub mod Judged
pub mod ScriptStreaming
