-- Calls made one after another on a request's file are calls alone. Used by: RequestsGoOn.
use Rattle.std.specs.Prelude.{ℕ, zero, suc}
use Rattle.std.proofs.Common.{refl, subst}
use Rattle.mw_actor.specs.ActorState.{ActorState}
use Rattle.mw_disk.specs.Facts.{Facts}
use Rattle.mw_core.specs.FromTable.{Pass}
use Rattle.mw_engine.specs.Brand.{Identity}
use Rattle.mw_engine.specs.FileCalls.{FilesOne, IsMadeByCalls, MadeByCalls}

module _ {D : Type 0} (facts : D → Facts) (identity : Identity) where
  -- no call was made
  pub none_made : (pass : Pass) (actor : ActorState) → IsMadeByCalls facts identity pass actor pass actor
  none_made pass actor = record { count = 0; calls = (refl, refl) }

  pub one_made : (old new : Pass) (actor next : ActorState) → FilesOne facts identity old new actor next → IsMadeByCalls facts identity old actor new next
  one_made old new actor next files = record { count = 1; calls = (new, next, files, (refl, refl)) }

  after_calls : (count : ℕ) (old : Pass) (was : ActorState) (pass : Pass) (actor : ActorState) (new : Pass) (now : ActorState)
      → MadeByCalls facts identity count old was pass actor → IsMadeByCalls facts identity pass actor new now → IsMadeByCalls facts identity old was new now
  after_calls zero old was pass actor new now same more =
      subst (λ (one : Pass). IsMadeByCalls facts identity one was new now) same.0 (subst (λ (one : ActorState). IsMadeByCalls facts identity pass one new now) same.1 more)
  after_calls (suc count) old was pass actor new now calls more =
      let rest = after_calls count calls.0 calls.1 pass actor new now calls.3 more in
      record { count = suc rest.count; calls = (calls.0, calls.1, calls.2, rest.calls) }

  -- the calls of two in a row
  pub more_made : (old : Pass) (was : ActorState) (pass : Pass) (actor : ActorState) (new : Pass) (now : ActorState)
      → IsMadeByCalls facts identity old was pass actor → IsMadeByCalls facts identity pass actor new now → IsMadeByCalls facts identity old was new now
  more_made old was pass actor new now one more = after_calls one.count old was pass actor new now one.calls more
