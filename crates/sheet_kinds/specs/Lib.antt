pub mod Bytes
pub mod Checks
pub mod KindWidths
pub mod Line
pub mod Walk
pub mod WalkBody
