pub mod PaddedLemmas
pub mod PaddedRunsOn
pub mod WorkedRows
