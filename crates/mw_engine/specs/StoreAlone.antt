-- States that an answered request was answered as its tenant's store alone (the sequential reference model) answers it. It
-- joins `Engine::serve` with the theorem (docs/THEOREM.md).
-- Used by: src/laws.rt.
use Rattle.std.specs.Prelude.{ℕ, ◌++◌}
use Rattle.mw_words.specs.declared.jobs.Job.{Job}
use Rattle.mw_words.specs.declared.replies.Reply.{Reply}
use Rattle.mw_core.specs.FromTable.{HadNumbers, IsOfStoreAlone, View, finished_as}
use Rattle.mw_engine.specs.History.{IsAnswered}

-- After the run behind what the thread knows then, the request and its reply are of its tenant's store alone, if there were
-- numbers left at every moment of that run.
abbrev pub AnswersAreOfStoreAlone : Type 0
AnswersAreOfStoreAlone = (first now : View) (tenant : ℕ) (job : Job) (reply : Reply) (answered : IsAnswered first now tenant job reply) → HadNumbers now answered.run.behind
    → IsOfStoreAlone now.config answered.run.behind.openings (answered.run.behind.before ++ answered.run.behind.events) answered.run.behind.state
    (finished_as answered.token tenant job reply answered.answered.place)
