pub mod SameFirings
pub mod LesserFirings
