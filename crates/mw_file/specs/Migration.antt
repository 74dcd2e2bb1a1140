-- Defines the migration of a tenant's file: one that has its first layout alone gets the second layout after it.
-- Used by: mw_world_file, migration.rt, opening.rt. What OpeningEnds imports, callers are promised; the rest changes with
-- migration.rt.
use Rattle.std.specs.Prelude.{◌≡◌, ◌⊎◌, ◌<◌, ◌≤◌, ℕ, ◌+◌, ◌*◌, false, None, List, [], ◌∷◌, length, drop, slice_index, IsTrue}
use Rattle.mw_disk.specs.Facts.{Facts, MayLeave, IsSynced, patched}
use Rattle.mw_disk.specs.Runs.{Later}
use Rattle.mw_record.specs.declared.layout.Layout.TheVariants.{First, Second}
use Rattle.mw_record.specs.declared.layout.TheConstants.{PLACES_GROW, WORD_SIZE, COMMITTED, SWITCH_AT, SECOND_AT}
use Rattle.mw_record.specs.Layout.{size, number_bytes, second_part}
use Rattle.mw_record.specs.Records.{record_at}
use Rattle.mw_record.specs.Damages.{is_switched, second_at, words_of, found_places}
use Rattle.mw_record.specs.Contents.{HasWords, HasSecond}
use Rattle.mw_file.specs.RollForward.{InRange}

-- How many device calls the migration makes: it writes the layout and its offset, syncs, writes the switch byte, and syncs.
abbrev pub migration_calls : ℕ
migration_calls = 5

-- The new bytes are no fewer than the old ones, and have the same byte at each old offset below n outside S.
pub record GrownBut (S : ℕ → Type 0) (n : ℕ) (old new : List ℕ) : Type 0 where
  pub longer : length old ≤ length new
  pub same : (k : ℕ) → k < n → k < length old → (S k → ⊥) → slice_index new k ≡ slice_index old k

-- Below the offset n, bytes may have changed at the offsets of S alone. From n on there may be any bytes, old or new. This holds of
-- what a read gives, and of what a crash may have left at any moment since.
pub record Grown (S : ℕ → Type 0) (n : ℕ) (old new : Facts) : Type 0 where
  pub later : Later old new
  pub each : (k : ℕ) (c : List ℕ) → old.moment ≤ k → k ≤ new.moment → new.image k c → (d : List ℕ) × MayLeave old d × GrownBut S n d c
  pub seen : GrownBut S n old.reads new.reads

-- the bytes of a file's head that tell of its second layout: the switch byte, and the offset at which the layout begins
abbrev pub InSwitch : ℕ → Type 0
InSwitch k = InRange SWITCH_AT 1 k ⊎ InRange SECOND_AT WORD_SIZE k

-- A file's bytes with three things written over them: a second layout at an offset, this offset in the head, and the switch byte.
abbrev pub given_second : ℕ → List ℕ → List ℕ → List ℕ
given_second at second image =
    patched (patched (patched image at second) SECOND_AT (number_bytes WORD_SIZE at)) SWITCH_AT (COMMITTED ∷ [])

-- A file has these bytes from an offset on, and its head tells that its second layout begins there.
pub record IsLaid (at : ℕ) (second image : List ℕ) : Type 0 where
  pub told : second_at image ≡ at
  pub long : at + length second ≤ length image
  pub there : (k : ℕ) → k < length second → slice_index image (at + k) ≡ slice_index second k

-- The migration may begin. The disk is honest and synced, and a read gives a file in its first layout, with these words. The first
-- layout ends at this offset. These bytes are the second layout to write there: of the same words, with all its places closed.
pub record CanMigrate (f : Facts) (at words places : ℕ) (contents second : List ℕ) : Type 0 where
  pub honest : IsTrue f.honest
  pub rest : IsSynced f
  pub has : HasWords First words places contents f.reads
  pub unswitched : is_switched f.reads ≡ false
  pub ends : at ≡ size First words places
  pub bytes : second ≡ second_part (PLACES_GROW * places) contents

-- A file that was read in its first layout may be migrated. The disk is honest and synced, and a read gives a file in its first
-- layout, with these words and the sizes of the bytes that were read.
pub record CanGrow (f : Facts) (image contents : List ℕ) : Type 0 where
  pub honest : IsTrue f.honest
  pub rest : IsSynced f
  pub has : HasWords First (words_of image) (found_places image) contents f.reads
  pub unswitched : is_switched f.reads ≡ false

-- The migration is done. The disk is synced, and a read gives a file with a second layout at this offset, of these words, with all
-- its places closed.
pub record IsMigrated (f : Facts) (at words places : ℕ) (contents : List ℕ) : Type 0 where
  pub rest : IsSynced f
  pub has : HasSecond at words places contents f.reads
  pub closed : (place : ℕ) → place < places → record_at Second (drop at f.reads) words place ≡ None
