-- The laws of this crate.
pub mod AtRest
pub mod ChoiceCounts
pub mod Conservation
pub mod Counts
pub mod FormulaCounts
pub mod JoinCounts
pub mod LesserOfTwo
pub mod Links
pub mod Machine
pub mod MadeGraph
pub mod MadeTwins
pub mod PortedGraphs
pub mod Ports
pub mod RowCounts
pub mod Tally
pub mod Twins
pub mod Wiring
