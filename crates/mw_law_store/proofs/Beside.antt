-- The proofs that a step of one tenant's request leaves another tenant's part of the world unchanged. This page only lists its
-- modules.
pub mod Moves
pub mod Points
pub mod Tenants
