-- The root of the specs.
pub mod Values
pub mod Rules
pub mod Histories
pub mod HistoryLaw
pub mod Net
pub mod Commute
pub mod Wired
pub mod Fill
pub mod Decide
pub mod Firing
pub mod FiringLinks
pub mod FiringHistory
pub mod FiringSample
pub mod Ends
pub mod Uses
pub mod Poisoned
