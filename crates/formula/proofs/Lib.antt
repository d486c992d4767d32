-- The laws of this crate.
pub mod Acceptance
pub mod Constants
pub mod CountLaws
pub mod FaultLaws
pub mod FaultRows
pub mod KindWidths
pub mod PlaceLaws
pub mod Refusals
pub mod Results
pub mod RowsMet
pub mod SheetLaws
pub mod TestLaws
pub mod TreeLaws
pub mod Verdicts
