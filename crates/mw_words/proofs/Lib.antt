pub mod PatternLaws
