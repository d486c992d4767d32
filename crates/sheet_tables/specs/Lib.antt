pub mod Nodes
pub mod Ends
pub mod Loops
pub mod Widths
pub mod Masks
pub mod Ready
