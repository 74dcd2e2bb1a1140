-- What the laws of all passes say of sessions. This page only lists its modules.
pub mod OwnRequests
