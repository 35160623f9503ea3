-- That each step keeps a state valid.
pub mod Changed
pub mod EmptiedValid
pub mod GrownValid
pub mod Picked
pub mod Placed
pub mod Spots
pub mod Taken
pub mod TakenValid
