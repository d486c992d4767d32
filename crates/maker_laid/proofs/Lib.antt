pub mod MaskWalk
