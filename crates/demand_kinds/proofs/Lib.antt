-- The laws of this crate.
pub mod LesserKinds
pub mod RefusedSets
pub mod RightKinds
