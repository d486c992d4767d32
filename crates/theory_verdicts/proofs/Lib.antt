-- The laws of this crate.
pub mod Admitting
pub mod BehindEndless
pub mod CutOwed
pub mod LesserRuns
pub mod Owed
pub mod ResultSets
pub mod Results
pub mod RunLaws
pub mod RunningLaws
pub mod Verdicts
pub mod Demand3
