-- The proofs about calls on tenants' files and about file tokens. This page only lists its modules.
pub mod OtherEventLaws
pub mod CallsByTokenLaws
pub mod CallEndLaws
pub mod TokensAfterCalls
pub mod WorldAfterCalls
pub mod EventsOfWorkers
pub mod CallStartLaws
pub mod TokensTellCalls
pub mod TokenLaws
pub mod StableStatusLaws
