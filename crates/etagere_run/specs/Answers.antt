pub mod AtlasRuns
pub mod BucketedRuns
pub mod Laws
pub mod Leading
pub mod Live
pub mod Private
pub mod Runs
