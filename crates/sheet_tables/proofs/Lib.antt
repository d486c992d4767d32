pub mod NodeLaws
pub mod WidthLaws
pub mod MaskLaws
pub mod LoopLaws
