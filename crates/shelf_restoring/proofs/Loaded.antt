-- Loading a snapshot: following its links, and what its rules say together.
pub mod ChainsWalked
pub mod LinksFollowed
pub mod WalksBroken
pub mod WalksBy
pub mod WalksFit
pub mod WalksRestore
pub mod WalksStand
