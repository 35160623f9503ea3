pub mod Answers
pub mod Checking
pub mod Drawing
pub mod Private
pub mod ReplayLaws
pub mod Replaying
pub mod Saved
pub mod Streaming
