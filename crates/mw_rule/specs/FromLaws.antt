-- Definitions of mw_law_runs and mw_law_store that mw_rule needs too, passed on so that it names this crate alone.
-- Used by: src/views.rt, mw_table, mw_service, mw_law_threads. Add and take out names as these crates need them.
pub use Rattle.mw_law_runs.specs.RunInvariant.{IsSound}
pub use Rattle.mw_law_store.specs.Simulation.{start_of}
pub use Rattle.mw_law_store.specs.History.{AreNoStarts, IsBeginning, SealsHaveGoneOn, put_sealed}
pub use Rattle.mw_law_store.specs.AbstractStates.{AbstractState, SealedChange, after_marks, first_abstract_state, abstract_state_at, abstract_state_of}
pub use Rattle.mw_law_store.specs.Durability.{IsDurableIn, changes_of, put_all}
pub use Rattle.mw_law_store.specs.ReplyPlaces.{HasBegun, IsRightAt, IsRightSince, sealed_of, words_after, words_at_start}
pub use Rattle.mw_law_store.specs.Refinement.{AreApart}
pub use Rattle.mw_law_store.specs.ReadRetries.{FindsItsWay, is_as_named}
