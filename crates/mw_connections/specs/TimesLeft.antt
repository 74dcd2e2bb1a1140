-- Defines how long a session may still wait for its client: which times run, and what is left of each limit, in nanoseconds.
-- Used by: time_limits.rt. A change here changes when a slow client is sent away.
use Rattle.std.specs.Prelude.{◌≡◌, ◌||◌, ◌&&◌, is_some, ℕ, ◌-◌, ◌*◌, ◌==◌, min, max, length, Bool, true, false, List, Option, Some, None, slice_get, if◌then◌else◌}
use Rattle.std.specs.List.{list_any}
use Rattle.std.specs.Option.{option_map}
use Rattle.std.specs.Time.{instant_nanos}
use Rattle.std.specs.Duration.{as_nanos}
use Rattle.std.specs.declared.time.Duration.{Duration}
use Rattle.std.specs.declared.time.Instant.{Instant}
use Rattle.mw_frame.specs.Lines.{line_feed}
use Rattle.mw_connections.specs.declared.time_limits.TheConstants.{LOOK}
use Rattle.mw_connections.specs.declared.time_limits.Timing.{Timing}
use Rattle.mw_connections.specs.declared.time_limits.Timing.TheVariants.{Stopped, Starting, Since}
use Rattle.mw_connections.specs.declared.time_limits.Times.{Times}
use Rattle.mw_connections.specs.declared.time_limits.WaitLimits.{WaitLimits}

-- a time that is to start runs from now on, and any other goes on as it is
abbrev pub started_timing : Timing → Instant → Timing
started_timing Stopped now = Stopped
started_timing Starting now = Since now
started_timing (Since since) now = Since since

-- both times, when a call begins
abbrev pub started : Times → Instant → Times
started times now = record { part = started_timing times.part now; turn = started_timing times.turn now }

-- a time that is to run: one that runs already goes on, and does not start anew
abbrev pub kept : Timing → Timing
kept Stopped = Starting
kept Starting = Starting
kept (Since since) = Since since

-- The times after a piece with this last byte, and with or without a line feed in it. After a piece that ends a line no
-- line is under way. After one that ends a line and begins the next, the next one's time starts. With every line that ends, the
-- turn starts anew. After any other bytes the line's time runs on, or starts if the line has just begun. After no byte
-- nothing changes.
abbrev pub after_last : Option ℕ → Bool → Times → Times
after_last None fed old = old
after_last (Some last) fed old =
    if last == line_feed then record { part = Stopped; turn = Starting }
    else (if fed then record { part = Starting; turn = Starting }
    else record { part = kept old.part; turn = old.turn })

-- the times after a piece of what the client sends
abbrev pub after_piece : Times → List ℕ → Times
after_piece old piece = after_last (slice_get piece (length piece - 1)) (list_any (λ b. b == line_feed) piece) old

-- The times after a write of a reply, by whether all of it was taken. If not, the reply's time runs on, or starts.
abbrev pub after_write : Times → Bool → Times
after_write old true = record { part = Stopped; turn = Starting }
after_write old false = record { part = kept old.part; turn = old.turn }

-- a length of time, if there is one
abbrev pub nanos : Option Duration → Option ℕ
nanos length = option_map as_nanos length

-- so many seconds, if there is a number
abbrev pub in_seconds : Option ℕ → Option ℕ
in_seconds seconds = option_map (λ count. count * 1_000_000_000) seconds

-- what is left of a limit, if there is one, at a time since another; 0 if it is over
abbrev pub left_of : Option ℕ → ℕ → ℕ → Option ℕ
left_of limit since now = option_map (λ most. most - (now - since)) limit

-- the same of a time that may run
abbrev pub timing_left : Option ℕ → Timing → ℕ → Option ℕ
timing_left limit Stopped now = None
timing_left limit Starting now = None
timing_left limit (Since since) now = left_of limit (instant_nanos since) now

-- What is left of a client's turn. While nobody else waits it is not over, and the session looks again after a while.
abbrev pub turn_left : Bool → Option ℕ → Option ℕ
turn_left true left = left
turn_left false left = option_map (max (LOOK * 1_000_000)) left

-- the lesser of two lengths of time, of which each may be without end
abbrev pub lesser : Option ℕ → Option ℕ → Option ℕ
lesser None other = other
lesser (Some length) None = Some length
lesser (Some length) (Some other) = Some (min length other)

-- How long a call that began at one time may still wait at another: as long as no limit is over. 0: one is.
abbrev pub wait_left : WaitLimits → Times → Instant → Instant → Bool → Option ℕ
wait_left limits times called now others =
    lesser (left_of (nanos limits.silence) (instant_nanos called) (instant_nanos now))
    (lesser (timing_left (nanos limits.line) times.part (instant_nanos now)) (turn_left others (timing_left (nanos limits.turn) times.turn (instant_nanos now))))

-- how long one write may wait before it looks at the clock: for LOOK, or a shorter silence; without end if nothing is limited
abbrev pub write_wait : WaitLimits → Option ℕ
write_wait limits = if is_some limits.silence || is_some limits.line then lesser (nanos limits.silence) (Some (LOOK * 1_000_000)) else None

-- whether a time runs, or is to run
abbrev pub runs : Timing → Bool
runs Stopped = false
runs Starting = true
runs (Since since) = true

-- Whether a call has to ask a clock: others may want the client's turn, or a line or a reply is under way whose time is limited.
abbrev pub needs_clock : WaitLimits → Times → Bool
needs_clock limits times = is_some limits.turn || (is_some limits.line && runs times.part)

-- At whatever time the next call begins, and whoever waits, it may wait for a whole silence.
abbrev pub MayWaitASilence : WaitLimits → Times → Type 0
MayWaitASilence limits times = (called : Instant) (others : Bool) → wait_left limits (started times called) called called others ≡ nanos limits.silence
