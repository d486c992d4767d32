pub mod FormedGraphs
pub mod BitsRise
pub mod StandsValid
pub mod WrittenRecords
pub mod StartedStands
pub mod StartCases
