-- Defines how long a connection may still wait for a worker, in nanoseconds.
-- Used by: usher.rt. A change here changes when a client is sent away that no worker serves.
use Rattle.std.specs.Prelude.{ℕ, ◌-◌, Option, Some, None}
use Rattle.std.specs.Option.{option_map}
use Rattle.std.specs.Time.{instant_nanos}
use Rattle.std.specs.declared.time.Instant.{Instant}

-- a reading of the clock, if there is one
abbrev pub moment : Option Instant → Option ℕ
moment time = option_map instant_nanos time

-- How long a connection may still wait for a worker, by when it came. If a time isn't known, it may wait anew.
abbrev pub still_to_wait : ℕ → Option ℕ → Option ℕ → ℕ
still_to_wait wait None now = wait
still_to_wait wait (Some came) None = wait
still_to_wait wait (Some came) (Some now) = wait - (now - came)
