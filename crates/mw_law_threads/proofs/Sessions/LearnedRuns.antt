-- A pass that a session borrowed knows the run that the session's note tells. For `after_loan`. Used by: AfterReplyLaws.
use Rattle.std.specs.Prelude.{Option, Some, None}
use Rattle.mw_rule.specs.KnownRuns.{ExtendsKnownRun}
use Rattle.mw_rule.specs.declared.views.View.{View}
use Rattle.mw_engine.specs.FromBelow.{Note}
use Rattle.mw_service.specs.Borrowed.{LearnsNote}
use Rattle.mw_law_threads.specs.AfterReplies.{run_in}

pub learned_run : (before first : View) (old : Option Note) → LearnsNote old before first → ExtendsKnownRun (run_in old) first.known_run
learned_run before first None learns = tt
learned_run before first (Some said) learns = learns.known_run
