-- An engine's identity (what stays the same for its whole life) and its table agree on lines, places, slots, passes and
-- requests.
-- Used by: src/start.rt and nearly all other calls of Engine.
use Rattle.std.specs.Prelude.{ℕ, ◌≡◌, ◌<◌, List, map, Option}
use Rattle.std.proofs.Common.{sym, ap, subst, ◌∙◌}
use Rattle.mw_words.specs.declared.jobs.Job.{Job}
use Rattle.mw_actor.specs.ActorState.{first}
use Rattle.mw_world.specs.declared.config.Config.{Config}
use Rattle.mw_core.specs.FromTable.{IsFree, IsOf, IsIdleAfter, Pass, Shared, config_of, openings_of}
use Rattle.mw_engine.specs.declared.tenant_words.TenantWords.{TenantWords}
use Rattle.mw_engine.specs.LinesOfWorld.{places_told}
use Rattle.mw_engine.specs.Brand.{Identity, identity_on}
use Rattle.mw_engine.specs.DisksAtStart.{DiskAtStart}
use Rattle.mw_engine.specs.Identity.{IsFor, Line, quota_told}
use Rattle.mw_engine.specs.Passes.{IsPassOf}
use Rattle.mw_engine.specs.Requests.{request_of}
use Rattle.mw_engine.specs.TenantWords.{HasPass, lines_told, places_kept}
use Rattle.mw_engine.proofs.PassAfterCall.{one_free, one_on}

module _ (words : TenantWords) (identity : Identity) (same : identity_on words.core.shared (lines_told words) identity.disks ≡ identity) where
  pub same_lines : lines_told words ≡ identity.lines
  same_lines = ap (λ (one : Identity). one.lines) same

  -- with the identity's own lines, the shared words have just this identity
  pub with_own_lines : identity_on words.core.shared identity.lines identity.disks ≡ identity
  with_own_lines = subst (λ (lines : List Line). identity_on words.core.shared lines identity.disks ≡ identity) same_lines same

  same_config : config_of words.core.shared.table.shared.key ≡ identity.config
  same_config = ap (λ (one : Identity). one.config) same

  same_openings : openings_of words.core.shared.table.shared.key ≡ identity.openings
  same_openings = ap (λ (one : Identity). one.openings) same

  -- they agree on the number of places of each file
  pub same_places : places_kept words ≡ map places_told identity.openings
  same_places = words.places_are ∙ ap (map places_told) same_openings

  pub same_table : words.core.shared.table.shared.table_id ≡ identity.table
  same_table = ap (λ (one : Identity). one.table) same

  -- they agree on the number of slots
  pub same_pool : words.core.shared.pool ≡ identity.config.pool
  same_pool = words.core.shared.pool_is ∙ ap (λ (config : Config). config.pool) same_config

  pub same_slots : words.pool ≡ identity.config.pool
  same_slots = words.agrees.slots ∙ ap (λ (config : Config). config.pool) same_config

  -- a pass of the engine is one of its table, and the other way round
  pub in_words : (pass : Pass) → IsPassOf identity pass → HasPass words pass
  in_words pass own = record {
    own = record { table = own.table ∙ sym same_table; config = own.config ∙ sym same_config; openings = own.openings ∙ sym same_openings };
    there = subst (λ (config : Config). pass.worker < config.workers) (sym same_config) own.there;
    free = own.free;
  }

  pub of_engine : (pass : Pass) → HasPass words pass → IsPassOf identity pass
  of_engine pass own = record {
    table = own.own.table ∙ same_table;
    config = own.own.config ∙ same_config;
    openings = own.own.openings ∙ same_openings;
    there = subst (λ (config : Config). pass.worker < config.workers) same_config own.there;
    free = own.free;
  }

  -- after a step on its words, and after a call that leaves it no file pass, a pass is still the engine's
  pub still_of : (old new : Pass) → IsPassOf identity old → IsOf words.core.shared new → new.worker ≡ old.worker → new.seat.me.0.files ≡ old.seat.me.0.files → IsPassOf identity new
  still_of old new own is worker files = of_engine new (one_on words.core.shared old new (in_words old own) is worker files)

  pub free_of : (old new : Pass) → IsPassOf identity old → IsOf words.core.shared new → new.worker ≡ old.worker → IsFree new → IsPassOf identity new
  free_of old new own is worker free = of_engine new (one_free words.core.shared old new (in_words old own) is worker free)

  -- a tenant's request is the same for both
  pub same_request : (worker tenant : ℕ) (job : Job) → first worker tenant (quota_told (lines_told words) tenant) words.pool job ≡ request_of identity worker tenant job
  same_request worker tenant job = λ i. first worker tenant (quota_told (same_lines i) tenant) (same_slots i) job

  pub formed_there : (tenant : ℕ) (job : Job) → IsFor identity.lines tenant job → IsFor (lines_told words) tenant job
  formed_there tenant job formed = subst (λ (lines : List Line). IsFor lines tenant job) (sym same_lines) formed

-- a pass of the engine that becomes idle is still the engine's
pub rested_of : (identity : Identity) (old new : Pass) → IsPassOf identity old → IsIdleAfter old new → IsPassOf identity new
rested_of identity old new own rested = record {
  table = (λ i. (rested.same_seat i).table_id) ∙ own.table;
  config = (λ i. (rested.same_seat i).me.0.config) ∙ own.config;
  openings = (λ i. (rested.same_seat i).me.0.openings) ∙ own.openings;
  there = subst (λ (n : ℕ). n < identity.config.workers) (sym rested.same_worker) own.there;
  free = (λ i. (rested.same_seat i).me.0.files) ∙ own.free;
}

-- an identity has the disks with which it was made
pub with_own_disks : (shared : Shared) (lines : List Line) (disks : List (Option DiskAtStart)) (identity : Identity) → identity_on shared lines disks ≡ identity → identity_on shared lines identity.disks ≡ identity
with_own_disks shared lines disks identity same = subst (λ (all : List (Option DiskAtStart)). identity_on shared lines all ≡ identity) (ap (λ (one : Identity). one.disks) same) same
