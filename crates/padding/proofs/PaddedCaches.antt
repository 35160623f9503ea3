pub mod CacheKept
pub mod DroppedKeys
pub mod LayoutAllocated
pub mod PaddedAnswers
pub mod PaddedLemmas
pub mod PaddedRunsOn
pub mod PaddedStepsTold
pub mod RetainedLemmas
