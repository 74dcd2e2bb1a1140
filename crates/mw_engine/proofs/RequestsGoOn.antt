-- A request with which threads have gone on, one after another, has gone on.
-- Used by: src/combiner.rt, src/file_lock/one_call.rt.
use Rattle.std.proofs.Common.{refl, ◌∙◌}
use Rattle.mw_actor.specs.ActorState.{ActorState}
use Rattle.mw_disk.specs.Facts.{Facts}
use Rattle.mw_core.specs.FromTable.{IsCarried, IsSamePass, Pass}
use Rattle.mw_engine.specs.Brand.{Identity}
use Rattle.mw_engine.specs.Errands.{CarriesRequest, RequestGoesOn}
use Rattle.mw_engine.specs.FileCalls.{FilesOne}
use Rattle.mw_engine.specs.Passes.{IsPassOf}
use Rattle.mw_engine.proofs.CallsOfRequests.{more_made, none_made, one_made}
use Rattle.mw_engine.proofs.RepliesOfJobs.{file_way}
use Rattle.mw_engine.proofs.RequestAfterFileCall.{file_same, file_serves, same_on}

module _ {D : Type 0} (facts : D → Facts) (identity : Identity) where
  -- a request goes on from itself
  pub stays : (pass : Pass) (actor : ActorState) → CarriesRequest identity pass actor → RequestGoesOn facts identity pass actor pass actor
  stays pass actor here = record {
    own = here.own;
    carried = here.carried;
    worker = refl;
    request = record { same_worker = refl; same_tenant = refl; same_job = refl };
    in_progress = λ first at. at;
    way = λ way. way;
    calls = none_made facts identity pass actor;
  }

  -- a request goes on by one call on its file
  pub called : (old new : Pass) (actor next : ActorState) → IsPassOf identity new → IsCarried new next → IsSamePass old new → FilesOne facts identity old new actor next
      → RequestGoesOn facts identity old actor new next
  called old new actor next own carried same files = record {
    own = own;
    carried = carried;
    worker = same.same_worker;
    request = file_same facts identity old new actor next files;
    in_progress = file_serves facts identity old new actor next files;
    way = file_way facts identity old new actor next files;
    calls = one_made facts identity old new actor next files;
  }

  -- two steps in a row make one
  pub goes_further : (old : Pass) (was : ActorState) (pass : Pass) (actor : ActorState) (new : Pass) (now : ActorState)
      → RequestGoesOn facts identity old was pass actor → RequestGoesOn facts identity pass actor new now → RequestGoesOn facts identity old was new now
  goes_further old was pass actor new now one more = record {
    own = more.own;
    carried = more.carried;
    worker = more.worker ∙ one.worker;
    request = same_on was actor now one.request more.request;
    in_progress = λ first at. more.in_progress first (one.in_progress first at);
    way = λ way. more.way (one.way way);
    calls = more_made facts identity old was pass actor new now one.calls more.calls;
  }

  -- what a request that has gone on gives to the next call
  pub still_here : (old : Pass) (was : ActorState) (new : Pass) (now : ActorState) → RequestGoesOn facts identity old was new now → CarriesRequest identity new now
  still_here old was new now on = record { own = on.own; carried = on.carried }
