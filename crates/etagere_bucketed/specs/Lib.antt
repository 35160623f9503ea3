pub mod Private
pub mod RecordLaws
