pub mod InputsDecide
pub mod Pictures
pub mod ReplayAnswers
pub mod RightAnswers
pub mod RunAnswers
pub mod SavedDrawings
pub mod StreamsOn
pub mod TextRows
