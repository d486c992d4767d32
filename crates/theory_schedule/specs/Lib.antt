-- The root of the specs.
pub mod Schedules
pub mod Counts
pub mod Twins
