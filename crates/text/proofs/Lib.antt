-- The laws of this crate.
pub mod Examples
pub mod FieldLaws
pub mod PrintLaws
pub mod RoundTrip
pub mod ScanLaws
pub mod SetLineLaws
pub mod ValueBytes
