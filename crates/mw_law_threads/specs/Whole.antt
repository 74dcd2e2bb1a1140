-- Whose a change in a tenant's file is, and which requests make none. This page only lists its modules.
pub mod WholeChanges
pub mod Refusals
