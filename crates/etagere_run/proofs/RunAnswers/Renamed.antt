pub mod NewNames
pub mod OtherNames
pub mod RenamedChoice
pub mod RenamedGrow
pub mod RenamedPicture
pub mod RenamedReturns
pub mod RenamedRuns
pub mod RenamedTaking
