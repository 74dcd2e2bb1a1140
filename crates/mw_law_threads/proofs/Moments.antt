-- The proofs that replies have moments. This page only lists its modules.
pub mod CauseMoments
pub mod MomentLaws
