-- Defines how long the server waits before it asks a listener again that had no room for a connection.
-- Used by: patience.rt, which has the first and the longest wait. A change here changes when Patient asks again.
use Rattle.std.specs.Prelude.{◌≡◌, ◌*◌, ℕ, min, Bool, true, false, if◌then◌else◌}
use Rattle.std.specs.declared.result.Result.{Result}
use Rattle.std.specs.declared.result.Result.TheVariants.{Ok, Err}
use Rattle.std.specs.declared.io.Error.{Error}
use Rattle.std.specs.declared.io.ErrorKind.{ErrorKind}
use Rattle.std.specs.declared.io.ErrorKind.TheVariants.{Interrupted, ConnectionAborted}
use Rattle.std.specs.IoError.{error_kind}
use Rattle.mw_connections.specs.declared.patience.TheConstants.{FIRST_PAUSE, LONGEST_PAUSE}

-- a fault about one client alone: the call was interrupted, or its client went away
abbrev pub is_of_client : ErrorKind → Bool
is_of_client Interrupted = true
is_of_client ConnectionAborted = true
is_of_client _ = false

-- the next wait is twice as long, and no longer than the longest
abbrev pub longer : ℕ → ℕ
longer pause = min (2 * pause) LONGEST_PAUSE

-- The next wait, and whether the watch was told, after an answer of the listener. After a connection the waits begin
-- anew and nothing is told. A fault about one client changes nothing. If there is no room, the next wait is longer, and
-- the watch is told.
abbrev pub GoesOn : {C : Type 0} → Result C Error → ℕ → Bool → ℕ → Bool → Type 0
GoesOn (Ok connection) pause told new_pause new_told = (new_pause ≡ FIRST_PAUSE) × (new_told ≡ false)
GoesOn (Err fault) pause told new_pause new_told =
    (new_pause ≡ (if is_of_client (error_kind fault) then pause else longer pause)) × (new_told ≡ (if is_of_client (error_kind fault) then told else true))
