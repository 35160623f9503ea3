pub mod Laws
pub mod Replaying
pub mod ReplyText
pub mod Runs
pub mod Script
pub mod Setups
pub mod Streaming
pub mod Words
