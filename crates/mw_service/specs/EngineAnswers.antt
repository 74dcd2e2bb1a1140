-- Defines that an engine answered the calls of a session: with one pass (a handle to the engine), or with one that was borrowed for each
-- request.
-- Used by: mw_law_threads, mw_programs. A change here changes what a server's clients are promised.
use Rattle.std.specs.Prelude.{List}
use Rattle.mw_session.specs.Talk.{Call}
use Rattle.mw_session.specs.Transitions.{GoesThrough}
use Rattle.mw_engine.specs.Brand.{Identity}
use Rattle.mw_engine.specs.Passes.{IsPassOf}
pub use Rattle.mw_engine.specs.FromBelow.{Pass}
pub use Rattle.mw_service.specs.OwnReplies.{AnswersOwn, Kept}
pub use Rattle.mw_service.specs.Served.{Answers}

-- These calls were answered with one pass of this engine, each as a worker answers (`Answers`).
pub record ByWorker (identity : Identity) (calls : List Call) : Type 0 where
  pub old : Pass
  pub new : Pass
  pub own : IsPassOf identity old
  pub answered : GoesThrough (Answers identity) old calls new

-- These calls were answered with a pass that was borrowed for each, and their replies are to requests of their own (`AnswersOwn`).
pub record ByBorrower (identity : Identity) (calls : List Call) : Type 0 where
  pub old : Kept
  pub new : Kept
  pub answered : GoesThrough (AnswersOwn identity) old calls new
