-- Defines how a request comes back to its thread after threads made calls on its file for it, or just as it was left.
-- Used by: src/combiner.rt, src/file_lock/one_call.rt, src/errand.rt.
use Rattle.mw_actor.specs.ActorState.{ActorState}
use Rattle.mw_core.specs.FromTable.{IsCarried, IsOfSameWorker, Pass, View}
use Rattle.mw_disk.specs.Facts.{Facts}
use Rattle.mw_engine.specs.declared.errand.Errand.{Errand}
use Rattle.mw_engine.specs.Brand.{Identity}
use Rattle.mw_engine.specs.FileCalls.{IsMadeByCalls}
use Rattle.mw_engine.specs.History.{IsInProgress}
use Rattle.mw_engine.specs.Passes.{IsPassOf}
use Rattle.mw_engine.specs.Replies.{IsOnItsWay}
use Rattle.mw_engine.specs.Steps.{IsSameRequest}

module _ (identity : Identity) where
  -- The pass is the engine's and has no file pass. It carries the request, which may have its reply already.
  pub record CarriesRequest (pass : Pass) (actor : ActorState) : Type 0 where
    pub own : IsPassOf identity pass
    pub carried : IsCarried pass actor

  abbrev pub IsCarriedHere : Errand → Type 0
  IsCarriedHere errand = CarriesRequest errand.pass errand.actor

module _ {D : Type 0} (facts : D → Facts) (identity : Identity) where
  -- Calls on its file were made for the request, and no other step. The pass is still the engine's, of the same worker, and carries the request, which is the same one. If the request was in progress since
  -- its thread knew `first`, it still is. If it was at a point that its job can have, and its reply, if it had one, was one that the job can
  -- have, both are still so.
  pub record RequestGoesOn (old : Pass) (was : ActorState) (new : Pass) (actor : ActorState) : Type 0 where
    pub own : IsPassOf identity new
    pub carried : IsCarried new actor
    pub worker : IsOfSameWorker old new
    pub request : IsSameRequest was actor
    pub in_progress : (first : View) → IsInProgress first old.seat.me.0 was → IsInProgress first new.seat.me.0 actor
    pub way : IsOnItsWay was.job was.point → IsOnItsWay actor.job actor.point
    pub calls : IsMadeByCalls facts identity old was new actor

  -- The same of a request that its thread has left in a box.
  abbrev pub GoesOn : Errand → Errand → Type 0
  GoesOn left now = RequestGoesOn left.pass left.actor now.pass now.actor
