-- Defines which requests may be made of an engine. Used by: src/reads.rt, src/steps.rt, src/tenants.rt, mw_engine_tests.
use Rattle.std.specs.Prelude.{◌≡◌, ℕ}
use Rattle.mw_words.specs.declared.jobs.Job.{Job}
use Rattle.mw_words.specs.declared.jobs.Job.TheVariants.{Get}
use Rattle.mw_actor.specs.ActorState.{ActorState, first}
use Rattle.mw_core.specs.FromTable.{Pass}
use Rattle.mw_engine.specs.Brand.{Identity}
use Rattle.mw_engine.specs.Identity.{IsFor, quota_told}

-- the request of a tenant for a job, at its first step; it has the tenant's quota, and the engine's pool
abbrev pub request_of : Identity → ℕ → ℕ → Job → ActorState
request_of identity worker tenant job = first worker tenant (quota_told identity.lines tenant) identity.config.pool job

-- the read of a tenant's word by a pass's worker, at its first step
abbrev pub read_of : Identity → Pass → ℕ → ℕ → ActorState
read_of identity pass tenant address = request_of identity pass.worker tenant (Get address)

-- This is a worker's request at its first step, for a job for which its tenant may ask.
pub record IsRequest (identity : Identity) (worker : ℕ) (actor : ActorState) : Type 0 where
  pub formed : IsFor identity.lines actor.tenant actor.job
  pub is : actor ≡ request_of identity worker actor.tenant actor.job
