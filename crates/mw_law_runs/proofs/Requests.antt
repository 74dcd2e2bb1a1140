-- The proofs of what holds of every run of one request. This page only lists its modules.
pub mod BalanceLaws
pub mod OrderLaws
pub mod RisingLaws
pub mod RunLaws
pub mod StageLaws
