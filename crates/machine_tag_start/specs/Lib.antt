pub mod TagStart
pub mod TagStartLaws
pub mod EmptiedTags
pub mod SameBytes
pub mod PlanesStarted
pub mod TagGraphs
pub mod StartFigures
