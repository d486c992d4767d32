pub mod LetterWalk
