pub mod Gathering
pub mod Sending
