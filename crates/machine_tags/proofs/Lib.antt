-- The laws of this crate.
pub mod Changes
pub mod Least
pub mod PlaneFire
pub mod PlanePush
pub mod PlaneStanding
pub mod PlaneTake
pub mod RunSteps
pub mod TagLaws
