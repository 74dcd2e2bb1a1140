-- If a listener is asked once more, and the client that it gave is served, `AreServed` still holds. Used by: serve_pages.
use Rattle.std.proofs.Common.{ℕ, List, [], ◌∷◌, ◌++◌}
use Rattle.std.specs.declared.result.Result.{Result}
use Rattle.mw_session.proofs.TransitionLaws.{goes_further}
use Rattle.mw_http.specs.Calls.{Call}
use Rattle.mw_server_pages.specs.Clients.{AreServed, IsTurn}

pub served_more : {L V P E : Type 0} (names : List (List ℕ)) (accepts : L → Result V E → L → Type 0) (answered : P → Call → P → Type 0) (listener between new_listener : L) (old middle new : P) (answer : Result V E)
    → AreServed names accepts answered listener between old middle → accepts between answer new_listener → IsTurn names answered middle answer new
    → AreServed names accepts answered listener new_listener old new
served_more names accepts answered listener between new_listener old middle new answer h accepted turn = record {
  given = h.given ++ answer ∷ [];
  accepted = goes_further accepts listener h.given between answer new_listener h.accepted accepted;
  served = goes_further (IsTurn names answered) old h.given middle answer new h.served turn;
}
