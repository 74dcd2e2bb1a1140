-- Defines which clients were served, each by one exchange, and in what order.
-- Used by: server.rt. A change here changes what serve_pages promises.
use Rattle.std.specs.Prelude.{◌≡◌, ℕ, List}
use Rattle.std.specs.declared.result.Result.{Result}
use Rattle.std.specs.declared.result.Result.TheVariants.{Ok, Err}
use Rattle.mw_session.specs.StreamRecords.{ReadRecord, WriteRecord, no_reads, no_writes}
use Rattle.mw_session.specs.Transitions.{GoesThrough}
use Rattle.mw_http.specs.declared.exchanges.Exchanged.{Exchanged}
use Rattle.mw_http.specs.Calls.{AreAnswered, Call}
use Rattle.mw_http.specs.Exchanges.{IsExchange}

-- One exchange of a server with these names was made with a client, between two states of the pages. Before it nothing was read from the
-- client, and nothing was written to it.
pub record IsServed {P : Type 0} (names : List (List ℕ)) (answered : P → Call → P → Type 0) (old new : P) : Type 0 where
  pub reads : ReadRecord
  pub writes : WriteRecord
  pub ended : Exchanged
  pub exchange : IsExchange names no_reads reads no_writes writes (AreAnswered answered old new) ended

-- A client that was given was served. If none was given, the pages were asked for nothing.
abbrev pub IsTurn : {V P E : Type 0} → List (List ℕ) → (P → Call → P → Type 0) → P → Result V E → P → Type 0
IsTurn names answered old (Ok visitor) new = IsServed names answered old new
IsTurn names answered old (Err fault) new = new ≡ old

-- The listener was asked for clients, and each that it gave was served by one exchange, in order, and nothing else was done
-- with the pages.
pub record AreServed {L V P E : Type 0} (names : List (List ℕ)) (accepts : L → Result V E → L → Type 0) (answered : P → Call → P → Type 0) (listener new_listener : L) (old new : P) : Type 0 where
  pub given : List (Result V E)
  pub accepted : GoesThrough accepts listener given new_listener
  pub served : GoesThrough (IsTurn names answered) old given new
