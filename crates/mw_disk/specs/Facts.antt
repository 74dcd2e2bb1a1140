-- Defines the facts of a disk at one moment (its abstract state), and what one call may change of them. It is the disk model.
-- Used by: many crates from mw_file on, device.rt, file.rt. A change here changes what the server
-- assumes of a disk: README, docs/PROMISES and docs/OPERATING.
use Rattle.std.specs.Prelude.{◌≡◌, ◌<◌, ◌≤◌, ℕ, suc, ◌+◌, ◌^◌, ◌-◌, Bool, true, false, Option, Some, IsTrue, List, [], ◌∷◌, ◌++◌, length, take, drop, min, max, slice_index, if◌then◌else◌}

-- The facts of a disk at one moment.
pub record Facts : Type 1 where
  -- the bytes that a read gives
  pub reads : List ℕ
  -- the moment, a number that never falls
  pub moment : ℕ
  -- a crash at that moment may leave these bytes
  pub image : ℕ → List ℕ → Type 0
  -- the disk keeps the crash model; no call changes that
  pub honest : Bool
  -- how each device call so far ended, the oldest first; true: it went well (known of an honest disk only)
  pub outcomes : List Bool
  -- how many calls failed, up to the last value of a counter
  pub faults : ℕ
  -- how many calls were refused memory, up to the last value of a counter
  pub refused : ℕ
  -- What is known of the calls to come; the next one is number 0. False: it fails. True: it goes well unless it is refused
  -- memory or is a read past the end. None: nothing is known.
  pub plan : ℕ → Option Bool

-- a crash now may leave these bytes
abbrev pub MayLeave : Facts → List ℕ → Type 0
MayLeave f image = f.image f.moment image

-- a crash at some moment from t until now may have left these bytes
abbrev pub MayHaveLeft : Facts → ℕ → List ℕ → Type 0
MayHaveLeft f t image = (k : ℕ) × (t ≤ k) × (k ≤ f.moment) × f.image k image

-- the disk is synced: a crash now leaves what a read gives
abbrev pub IsSynced : Facts → Type 0
IsSynced f = (image : List ℕ) → MayLeave f image → image ≡ f.reads

-- A write of n bytes at an offset was cut short anywhere. In its range and past the old end there are any bytes, elsewhere the same.
pub record Torn (at n : ℕ) (old new : List ℕ) : Type 0 where
  pub before : (k : ℕ) → k < at → k < length old → slice_index new k ≡ slice_index old k
  pub after : (k : ℕ) → at + n ≤ k → k < length old → slice_index new k ≡ slice_index old k
  pub no_shorter : length old ≤ length new
  pub no_longer : length new ≤ max (length old) (at + n)

-- these bytes with a block written over them at an offset
abbrev pub patched : List ℕ → ℕ → List ℕ → List ℕ
patched old at bytes = take at old ++ (bytes ++ drop (at + length bytes) old)

-- the greatest number to which calls are counted
abbrev pub most_counted : ℕ
most_counted = 2 ^ 64 - 1

-- What holds of every call, whether it went well or not. Time goes on, and the images of past moments stay. Faults are counted. What
-- was known of the calls to come is still known. An honest disk counts its calls too.
pub record Called (old new : Facts) (ok : Bool) : Type 0 where
  pub later : old.moment ≤ new.moment
  pub honest : new.honest ≡ old.honest
  -- the images of past moments stay
  pub past : (k : ℕ) (c : List ℕ) → k ≤ old.moment → new.image k c → old.image k c
  pub kept : (k : ℕ) (c : List ℕ) → k ≤ old.moment → old.image k c → new.image k c
  -- an image of a moment within the call is an image of now
  pub fresh : (k : ℕ) (c : List ℕ) → old.moment < k → k ≤ new.moment → new.image k c → MayLeave new c
  -- an honest disk tells how each of its calls ended
  pub outcomes : IsTrue old.honest → length old.outcomes + 1 < 2 ^ 64 → new.outcomes ≡ old.outcomes ++ ok ∷ []
  pub faults : new.faults ≡ (if ok then old.faults else min (old.faults + 1) most_counted)
  -- the call that was number 1 is now number 0, and so on
  pub plan : (k : ℕ) → new.plan k ≡ old.plan (suc k)
  -- a call that was known to fail failed
  pub doomed : old.plan 0 ≡ Some false → ok ≡ false
  -- a call that went well was not refused memory
  pub granted : ok ≡ true → new.refused ≡ old.refused
  -- what a read gives is an image of now
  pub seen : IsTrue old.honest → MayLeave new new.reads

-- A call that was known to go well if it has memory, and failed, was refused memory.
pub record Spares (old new : Facts) (ok : Bool) : Type 0 where
  pub spared : old.plan 0 ≡ Some true → ok ≡ false → new.refused ≡ min (old.refused + 1) most_counted

-- a crash now leaves nothing that it would not have left before
abbrev pub NothingNew : Facts → Facts → Type 0
NothingNew old new = (c : List ℕ) → MayLeave new c → MayLeave old c

-- a crash now leaves what it might have left before, with a write of n bytes at an offset cut short
abbrev pub TearsAt : ℕ → ℕ → Facts → Facts → Type 0
TearsAt at n old new = (c : List ℕ) → MayLeave new c → (d : List ℕ) × MayLeave old d × Torn at n d c
