pub mod RunsOn
pub mod StepsTold
