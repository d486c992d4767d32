pub mod KnownRows
pub mod LowerRows
pub mod Told
