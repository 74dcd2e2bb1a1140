-- Definitions of mw_actor, mw_book and mw_core that users of the engine need, so that the crates above name only this crate.
-- Used by: mw_service, mw_law_threads, mw_engine_tests. Add and take out names as these crates need them.
pub use Rattle.mw_actor.specs.ActorState.{ActorState}
pub use Rattle.mw_book.specs.Copies.{HeldIsOnlyRead, IsOnlyRead}
pub use Rattle.mw_core.specs.FromTable.{HasLearned, IsCarried, IsOfSameWorker, IsSamePass, Note, Pass, View, note, opening_at, said_in}
