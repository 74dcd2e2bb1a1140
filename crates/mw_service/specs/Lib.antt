pub mod Borrowed
pub mod OwnReplies
pub mod RequestTokens
pub mod Served
pub mod SessionOrder
pub mod SinceStart
pub mod TokenTables
pub mod EngineAnswers
