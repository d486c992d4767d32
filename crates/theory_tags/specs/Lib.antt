pub mod PlainGraphs
