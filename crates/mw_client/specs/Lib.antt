pub mod RequestLines
pub mod ReplyGrammar
pub mod Exchanges
