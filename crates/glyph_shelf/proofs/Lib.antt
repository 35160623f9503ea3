mod Asking
mod Evicting
mod Fitting
mod FrameUses
mod FullFrames
mod Keeping
mod Restoring
mod SavedLemmas
mod Shrinking
mod Tying
mod WorkedRows
pub mod Callers
pub mod Refused
pub mod Shown
pub mod UsedKeys
