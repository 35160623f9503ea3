pub mod Noted
pub mod NotedShelves
