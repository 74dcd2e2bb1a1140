-- Lemmas of mw_table that mw_engine and mw_table_tests need too, passed on.
-- Used by: mw_engine, mw_law_threads, mw_table_tests. Add and take out names as they need them.
pub use Rattle.mw_table.proofs.RequestsMayCome.{request_comes}
pub use Rattle.mw_table.proofs.FromRule.{calls_begin, calls_end, calls_go_on, each_last, finished_are_of_store_alone, keeps_all, keeps_on, keeps_so, requests_go_on_from_calls, runs_are_sound}
pub use Rattle.mw_table.proofs.IdlePasses.{none_carried}
pub use Rattle.mw_table.proofs.StepsKeepNumbers.{settled_number}
