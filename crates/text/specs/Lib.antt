pub mod Printed
pub mod Fields
pub mod SetLines
pub mod Scan
pub mod SetLineLaws
pub mod ScanLaws
pub mod RoundTrip
pub mod Examples
