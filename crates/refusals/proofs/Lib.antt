-- The laws of this crate.
pub mod DriftRefused
pub mod Exact
pub mod FiredLinks
pub mod FirstRefusal
pub mod Kept
pub mod LogExact
pub mod LogKept
pub mod LogLaws
pub mod LogRows
pub mod NextRefused
pub mod Refused
pub mod Rows
pub mod RunCount
pub mod TagRunCount
pub mod TaggedRefused
pub mod TidyRefused
pub mod TrayExact
