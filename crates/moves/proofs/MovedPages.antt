pub mod Arranged
pub mod Done
pub mod TiedLists
pub mod Turns
