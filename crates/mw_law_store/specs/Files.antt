-- The facts about the tenants' files: what they are, which events keep them, and what they allow. This page only lists its
-- modules.
pub mod Enabled
pub mod Files
pub mod Laws
pub mod Ready
pub mod Room
