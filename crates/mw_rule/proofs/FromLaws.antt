-- Lemmas of mw_law_runs and mw_law_store that mw_rule needs too, passed on. Add and take out names as it needs them.
-- Used by: mw_table, mw_service, mw_law_threads.
pub use Rattle.mw_law_runs.proofs.Knowledge.Updates.Preservation.{upd_else, upd_here}
pub use Rattle.mw_law_runs.proofs.BitExactness.{runs_are_bit_exact}
pub use Rattle.mw_law_runs.proofs.Numbers.{same_or_other}
pub use Rattle.mw_law_runs.proofs.RunsAreSound.{runs_are_sound}
pub use Rattle.mw_law_runs.proofs.GuardedEvents.{first_holds, second_holds}
pub use Rattle.mw_law_store.proofs.Attempts.{attempts_are_numbers}
pub use Rattle.mw_law_store.proofs.Histories.{asks_stand_once, seals_stay_long}
pub use Rattle.mw_law_store.proofs.AbstractStateLaws.{got_within}
pub use Rattle.mw_law_store.proofs.ReplyPlaceLaws.{on_with, replies_are_linearized, requests_begin, requests_have_begun, requests_stay_begun, sealed_are_right}
pub use Rattle.mw_law_store.proofs.DurabilityInRunsLaws.{runs_hold_changes}
pub use Rattle.mw_law_store.proofs.RunSimulation.{events_are_simulated, every_run_is_durably_linearizable, runs_are_simulated}
pub use Rattle.mw_law_store.proofs.SealedLists.{places_stay_right}
pub use Rattle.mw_law_store.proofs.ReadRetryLaws.{reads_find_their_way}
