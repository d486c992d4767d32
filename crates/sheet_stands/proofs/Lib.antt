pub mod FrontLaws
pub mod ContentLaws
pub mod StandLaws
pub mod TestLaws
