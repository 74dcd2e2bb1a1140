pub mod FittingFiles
pub mod ServerOptions
pub mod LineTexts
pub mod Limits
pub mod Refusals
pub mod LineReader
pub mod Forms
pub mod CommandLine
