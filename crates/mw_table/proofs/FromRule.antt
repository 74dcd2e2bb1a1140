-- Lemmas of mw_rule that mw_core needs too, passed on.
-- Used by: mw_core. Add and take out names as it needs them.
pub use Rattle.mw_rule.proofs.WholeCallLaws.{calls_begin, calls_take_files, calls_end, calls_file, calls_give_back, calls_go_on, each_last, keeps_all, keeps_on, keeps_so}
pub use Rattle.mw_rule.proofs.KnownRunLaws.{on_again}
pub use Rattle.mw_rule.proofs.RunsBehind.{behind_files}
pub use Rattle.mw_rule.proofs.StoreAloneLaws.{finished_are_of_store_alone}
pub use Rattle.mw_rule.proofs.Calls.TokensAfterCalls.{file_tokens_follow_calls}
pub use Rattle.mw_rule.proofs.Calls.TokensTellCalls.{opened_told}
pub use Rattle.mw_rule.proofs.Calls.WorldAfterCalls.{requests_go_on_from_calls}
pub use Rattle.mw_rule.proofs.FromLaws.{runs_are_sound}
pub use Rattle.mw_rule.proofs.WorkerStretches.{begins_on}
pub use Rattle.mw_rule.proofs.WordActionLaws.{told_on}
pub use Rattle.mw_rule.proofs.KnowledgeIsRight.{without_file_right}
