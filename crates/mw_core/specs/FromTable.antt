-- Definitions of mw_table that crates above need too, passed on so that they name this crate alone.
-- Used by: mw_engine (`specs/FromBelow` passes some on), mw_programs, mw_law_threads, mw_table_tests. Add and take out names as
-- these crates need them.
pub use Rattle.mw_table.specs.Basis.{Basis}
pub use Rattle.mw_table.specs.CarriedRequest.{IsCarried}
pub use Rattle.mw_table.specs.NewPasses.{AreInOrder, IsDealt}
pub use Rattle.mw_table.specs.FileCalls.{IsFree, IsFilePassOf, IsSoOfWorld, file_kept}
pub use Rattle.mw_table.specs.TableAtStart.{basis_of_start, opening_given, openings_given}
pub use Rattle.mw_table.specs.FromRule.{Answered, Each, FileToken, AddsNoEvent, HadNumbers, HasToken, IsFinished, IsInRun, IsOfStoreAlone, IsReady, IsReadyAt, IsReadyFor, ExtendsKnownRun, IsRight, ExtendsView, LearnsPlainLoad, MayCome, LearnsMeeting, AddsFinishedIf, WorkerToken, Serves, View, after_call, comes, known_run_of, file_told, note, finished_as, index_of, opening_at, put_sealed, seen_at, token_of, words_given, file_token_opened, settled, settled_as, stepped, told, actor_after, went_well}
pub use Rattle.mw_table.specs.HeldFiles.{file_among}
pub use Rattle.mw_table.specs.Meet.{HaveMet, IsSamePass, MetByNone}
pub use Rattle.mw_table.specs.Notes.{HasLearned, said_in}
pub use Rattle.mw_table.specs.Numbers.{number_of, numbers}
pub use Rattle.mw_table.specs.NewFilePasses.{AreOpened}
pub use Rattle.mw_table.specs.Origins.{basis_of, config_of, openings_of}
pub use Rattle.mw_table.specs.SeenFiles.{SeesFile}
pub use Rattle.mw_table.specs.Passes.{IsOf, IsOfSameWorker, IsIdleAfter, known}
pub use Rattle.mw_table.specs.declared.origin.FileOpening.{FileOpening}
pub use Rattle.mw_table.specs.declared.origin.Origin.{Origin}
pub use Rattle.mw_table.specs.declared.file_pass.FilePass.{FilePass}
pub use Rattle.mw_table.specs.declared.note.Note.{Note}
pub use Rattle.mw_table.specs.declared.shared.Pass.{Pass}
pub use Rattle.mw_table.specs.declared.shared.Shared.{Shared}
