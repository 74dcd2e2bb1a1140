-- How calls on tenants' files end on words that threads share, and the file token. This page only lists its modules.
pub mod OtherEvents
pub mod CallsByToken
pub mod CallEnds
pub mod FileTokens
pub mod CallStarts
pub mod TokensInWorlds
pub mod StableStatuses
