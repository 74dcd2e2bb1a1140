pub mod LineTextLaws
pub mod FirstLines
pub mod AskedWords
mod OneAnswer
mod FormRules
