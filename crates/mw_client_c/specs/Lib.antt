pub mod Crossing
pub use Rattle.mw_client.specs.RequestLines
pub use Rattle.mw_client.specs.ReplyGrammar
