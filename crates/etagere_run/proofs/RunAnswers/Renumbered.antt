pub mod RenumberedChanges
pub mod RenumberedNames
pub mod RenumberedDestinations
pub mod RenumberedRuns
