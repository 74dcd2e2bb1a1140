-- A call on its file leaves a request the same. A request without a reply is under way. Used by: Engine::file, Engine::serve.
use Rattle.std.specs.Prelude.{ℕ, ◌≡◌, true, false, Bool, Option, None}
use Rattle.std.proofs.Common.{sym, ap, subst, ◌∙◌}
use Rattle.mw_words.specs.declared.jobs.Job.{Job}
use Rattle.mw_words.specs.declared.replies.Reply.{Reply}
use Rattle.mw_actor.specs.ActorState.{ActorState}
use Rattle.mw_actor.specs.Program.{replied}
use Rattle.mw_disk.specs.Facts.{Facts}
use Rattle.mw_core.specs.FromTable.{Pass, View, after_call, went_well}
use Rattle.mw_engine.specs.Brand.{Identity}
use Rattle.mw_engine.specs.FileCalls.{FilesOne}
use Rattle.mw_engine.specs.History.{IsAnswered, IsInProgress, RequestOutcome, OutcomeAs}
use Rattle.mw_engine.specs.Steps.{IsSameRequest}

module _ {D : Type 0} (facts : D → Facts) (identity : Identity) (old new : Pass) (actor next : ActorState) (files : FilesOne facts identity old new actor next) where
  -- the thread still serves the request
  pub file_serves : (first : View) → IsInProgress first old.seat.me.0 actor → IsInProgress first new.seat.me.0 next
  file_serves first served = record { token = after_call (went_well files.once.end) served.token actor; serves = files.once.serves first served.token served.serves; whole = served.whole }

  pub file_same : IsSameRequest actor next
  file_same = record {
    same_worker = ap (λ (one : ActorState). one.worker) files.once.told;
    same_tenant = ap (λ (one : ActorState). one.tenant) files.once.told;
    same_job = ap (λ (one : ActorState). one.job) files.once.told;
  }

-- a request that has no reply is under way
pub under_way : (first now : View) (actor : ActorState) → replied actor ≡ None → RequestOutcome first now actor → IsInProgress first now actor
under_way first now actor is stands = subst (λ (reply : Option Reply). OutcomeAs reply first now actor) is stands

-- the same request's reply
pub answered_so : (first now : View) (actor : ActorState) (tenant : ℕ) (job : Job) (reply : Reply) → actor.tenant ≡ tenant → actor.job ≡ job → IsAnswered first now actor.tenant actor.job reply
    → IsAnswered first now tenant job reply
answered_so first now actor tenant job reply its same answered =
    subst (λ (n : ℕ). IsAnswered first now n job reply) its (subst (λ (one : Job). IsAnswered first now actor.tenant one reply) same answered)

pub same_on : (first between last : ActorState) → IsSameRequest first between → IsSameRequest between last → IsSameRequest first last
same_on first between last one more = record {
  same_worker = more.same_worker ∙ one.same_worker;
  same_tenant = more.same_tenant ∙ one.same_tenant;
  same_job = more.same_job ∙ one.same_job;
}

pub not_both : (test : Bool) → test ≡ true → test ≡ false → ⊥
not_both test on off = let never : true ≡ false = sym on ∙ off in cc
