-- Definitions of mw_rule that crates above need too, passed on so that they name this crate alone.
-- Used by: mw_core (`specs/FromTable` passes some on), mw_law_threads. Add and take out names as these crates need them.
pub use Rattle.mw_rule.specs.WholeCalls.{Answered, Serves}
pub use Rattle.mw_rule.specs.Steps.{LearnsFirstStep, FindsWayAt, ExtendsWithLearned, HasToken, IsFound, IsReady, IsReadyAt, IsReadyFor, ExtendsView, LearnsPlainLoad, MayCome, LearnsMeeting, AddsFinishedIf, LearnsStep, comes, finished_as, settled, settled_as, stepped, told, actor_after}
pub use Rattle.mw_rule.specs.RunEvents.{events_loaded, starts_by}
pub use Rattle.mw_rule.specs.RunBehind.{IsBehind, IsInRun}
pub use Rattle.mw_rule.specs.StoreAlone.{HadNumbers, IsOfStoreAlone}
pub use Rattle.mw_rule.specs.KnownRuns.{KnownRun, ExtendsKnownRun, known_run_of}
pub use Rattle.mw_rule.specs.Splits.{note, without_file, takes_files, with_file_given, first_held, other_held, token_of}
pub use Rattle.mw_rule.specs.FileCalls.{Calls, LeavesRest, Loaded, LoadedAs, Starts, LearnsFileCall, after_call, broken_so, fails, filed_so, place_held, places_held, went}
pub use Rattle.mw_rule.specs.Calls.CallsByToken.{End, FindsFault, GoesWell, MayEnd, MeetsFault, Skips, file_token_by, went_well}
pub use Rattle.mw_rule.specs.Calls.FileTokens.{TellsFile, file_told, file_token_broken, file_token_filed, file_token_opened}
pub use Rattle.mw_rule.specs.FromLaws.{FindsItsWay, put_sealed, is_as_named}
pub use Rattle.mw_rule.specs.declared.file_token.FileToken.{FileToken}
pub use Rattle.mw_rule.specs.Layout.{index_of}
pub use Rattle.mw_rule.specs.WordActions.{AddsFirstStepEvents, AddsNoEvent, AddsStepEvent, WentOn}
pub use Rattle.mw_rule.specs.Rule.{Each, IsFinished, IsRight, words_given}
pub use Rattle.mw_rule.specs.Prefixes.{opening_at, seen_at}
pub use Rattle.mw_rule.specs.declared.views.FoundStatus.{FoundStatus}
pub use Rattle.mw_rule.specs.declared.views.HeldFile.{HeldFile}
pub use Rattle.mw_rule.specs.declared.views.WorkerToken.{WorkerToken}
pub use Rattle.mw_rule.specs.declared.views.View.{View}
