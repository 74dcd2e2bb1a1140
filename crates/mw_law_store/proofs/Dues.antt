-- The proofs that after each step the store alone has what is due of the request (`specs/Due`). This page only lists its
-- modules.
pub mod StepEnds
pub mod Noted
pub mod Onward
pub mod Reads
pub mod Steps
