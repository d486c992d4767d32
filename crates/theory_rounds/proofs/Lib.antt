-- The laws of this crate.
pub mod EarlyEnd
pub mod LesserRounds
pub mod OneSet
pub mod RoundsReady
pub mod RunsFire
pub mod Shares
pub mod TurnLaws
pub mod WorkEnds
