pub mod ReadLaws
pub mod FigureLaws
