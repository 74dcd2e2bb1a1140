-- A tenant may ask for a job that is well formed for its words.
use Rattle.std.specs.Prelude.{ℕ, List, IsTrue}
use Rattle.std.proofs.Common.{sym, subst}
use Rattle.mw_words.specs.declared.jobs.Job.{Job}
use Rattle.mw_words.specs.Change.{is_well_formed}
use Rattle.mw_engine.specs.Identity.{HasWords, IsFor, Line}

pub may_ask : (lines : List Line) (tenant words : ℕ) (job : Job) → HasWords lines tenant words → IsTrue (is_well_formed words job) → IsFor lines tenant job
may_ask lines tenant words job has formed = record { there = has.there; formed = subst (λ (n : ℕ). IsTrue (is_well_formed n job)) (sym has.words_are) formed }
