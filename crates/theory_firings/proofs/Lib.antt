-- The laws of this crate.
pub mod LesserFirings
pub mod SameFirings
