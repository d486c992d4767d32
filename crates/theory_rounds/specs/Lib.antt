pub mod InTurn
pub mod TurnLaws
pub mod RunsFire
pub mod WorkEnds
pub mod LesserRounds
