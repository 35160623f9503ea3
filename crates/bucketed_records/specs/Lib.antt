pub mod BucketRecords
pub mod Private
pub mod Restoring
pub mod StandsFor
