-- The root of the specs, in the order of reading: names and layout, single firings, each way of composing graphs, loops, then the whole.
pub mod Plugged
pub mod Firings
pub mod Plan
pub mod NameRows
pub mod GateFiring
pub mod RingGates
pub mod LoopCore
pub mod Bareness
pub mod GraphLayout
pub mod Bystanders
pub mod WrittenOut
pub mod WholeGraph
pub mod Marks
pub mod TwinNets
pub mod FindCopies
pub mod CutSchedule
