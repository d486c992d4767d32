pub mod Least
pub mod TagRun
pub mod TagValid
pub mod TagCalls
pub mod PlaneStanding
pub mod RunSteps
pub mod Changes
