pub mod Plain
pub mod Private
pub mod RecordLaws
