mod AtlasBox
mod BatchSteps
mod BucketedBox
mod CacheBox
mod Counting
pub mod Evicted
mod HandleSteps
mod Restoring
pub mod Saving
mod Sending
