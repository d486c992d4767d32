-- The laws of this crate.
pub mod BitsRise
pub mod FormedGraphs
pub mod Lent
pub mod MadeSound
pub mod PortLaws
pub mod Positions
pub mod StandsValid
pub mod StartCases
pub mod StartedStands
pub mod StoredConstants
pub mod WrittenRecords
