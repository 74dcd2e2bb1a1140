-- Defines when a lease is good, and what a stream may write by one.
-- Used by: lease.rt, leased_stream.rt. A change here changes what a server without its lease still tells: docs/OPERATING
-- changes with it. Times and lengths of time are in nanoseconds.
use Rattle.std.specs.Prelude.{◌≡◌, ℕ, ◌-◌, ◌⊎◌, ◌||◌, Bool, true, false, List, codes, nat_eq, nat_lt, Option, Some, None, Result, IsErr}
use Rattle.std.specs.List.{starts_with}
use Rattle.std.specs.Time.{instant_nanos}
use Rattle.std.specs.Duration.{as_nanos}
use Rattle.std.specs.declared.io.Error.{Error}
use Rattle.std.specs.declared.time.Instant.{Instant}
use Rattle.mw_session.specs.PeerCalls.{PeerCall, Reads, Writes, EndsWriting}
use Rattle.mw_connections.specs.declared.lease.Beats.{Beats}

-- a beat that began then is younger than this
abbrev pub is_young : ℕ → Option Instant → Instant → Bool
is_young limit None now = false
is_young limit (Some began) now = nat_lt (instant_nanos now - instant_nanos began) limit

-- whether a lease is good at a moment: its last beat went well and is young. A beat's age counts from its start, because another
-- server may have the lock from then on.
abbrev pub is_good : Beats → Instant → Bool
is_good beats now = is_young (as_nanos beats.limit) beats.began now

-- After a beat that began then, and went well or not. A beat that failed may mean that another server has the lock by now.
abbrev pub after_beat : Beats → Instant → Bool → Beats
after_beat beats began true = record { limit = beats.limit; began = Some began }
after_beat beats began false = record { limit = beats.limit; began = None }

-- What may be told of a lease, by whether there must be one. If not, all is well. Else it is told to be good only if some beats were
-- good at some moment. That these are its own beats, and that the moment is now, is not said.
abbrev pub Tells : Bool → Bool → Type 0
Tells false good = good ≡ true
Tells true true = (beats : Beats) × (now : Instant) × (is_good beats now ≡ true)
Tells true false = Unit {0}

-- Whether a reply needs no lease: YES has a sync of its own, and BUSY, FAULT and WORN tell nothing of a word. Any other text needs
-- one, and so does the rest of a reply of which a part was sent.
abbrev pub needs_none : List ℕ → Bool
needs_none text =
    starts_with nat_eq text (codes "YES") || starts_with nat_eq text (codes "BUSY") || starts_with nat_eq text (codes "FAULT") || starts_with nat_eq text (codes "WORN")

-- The lease was asked, and was good, and then the stream below was written to.
pub record IsAllowed {L T : Type 0} (asked : L → Bool → L → Type 0) (called : T → PeerCall → T → Type 0) (lease : L) (stream : T) (text : List ℕ) (outcome : Result ℕ Error) (new_lease : L) (new_stream : T) : Type 0 where
  pub told : asked lease true new_lease
  pub made : called stream (Writes text outcome) new_stream

-- The lease was asked, and was not good, and nothing was written.
pub record IsWithheld {L T : Type 0} (asked : L → Bool → L → Type 0) (lease : L) (stream : T) (outcome : Result ℕ Error) (new_lease : L) (new_stream : T) : Type 0 where
  pub told : asked lease false new_lease
  pub same : new_stream ≡ stream
  pub failed : IsErr outcome

-- a write, by whether its text needs no lease
abbrev pub IsWrite : {L T : Type 0} → (L → Bool → L → Type 0) → (T → PeerCall → T → Type 0) → Bool → L → T → List ℕ → Result ℕ Error → L → T → Type 0
IsWrite asked called true lease stream text outcome new_lease new_stream = (new_lease ≡ lease) × called stream (Writes text outcome) new_stream
IsWrite asked called false lease stream text outcome new_lease new_stream =
    IsAllowed asked called lease stream text outcome new_lease new_stream ⊎ IsWithheld asked lease stream outcome new_lease new_stream

-- A call of the stream. A read, and the end of the writing, ask no lease.
abbrev pub IsCallOfLeased : {L T : Type 0} → (L → Bool → L → Type 0) → (T → PeerCall → T → Type 0) → L → T → PeerCall → L → T → Type 0
IsCallOfLeased asked called lease stream (Reads piece outcome) new_lease new_stream = (new_lease ≡ lease) × called stream (Reads piece outcome) new_stream
IsCallOfLeased asked called lease stream (Writes text outcome) new_lease new_stream =
    IsWrite asked called (needs_none text) lease stream text outcome new_lease new_stream
IsCallOfLeased asked called lease stream (EndsWriting outcome) new_lease new_stream = (new_lease ≡ lease) × called stream (EndsWriting outcome) new_stream
