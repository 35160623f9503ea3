pub mod Asking
pub mod Done
pub mod Laws
pub mod SameFrames
pub mod Sorting
