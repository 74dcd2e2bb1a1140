pub mod CutTexts
pub mod Ends
pub mod GivenLines
