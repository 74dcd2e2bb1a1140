pub mod SessionOrders
pub mod Sessions
pub mod Workers
pub mod SinceStarts
mod OwnTokens
pub mod TokenMoves
