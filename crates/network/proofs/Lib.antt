-- The laws of this crate.
pub mod Commute
pub mod Decide
pub mod Ends
pub mod Fill
pub mod Firing
pub mod FiringHistory
pub mod FiringLinks
pub mod FiringSample
pub mod HistoryLaw
pub mod Net
pub mod Poisoned
pub mod Uses
pub mod Wired
