-- Defines what a run of device calls may change of a disk, and how many of its calls went well.
-- Used by: proofs of this crate, many crates from mw_file on. A change here changes what each call on a file promises.
use Rattle.std.specs.Prelude.{◌≡◌, ◌<◌, ◌≤◌, ℕ, suc, ◌+◌, ◌^◌, true, false, Some, List, [], ◌∷◌, ◌++◌, length, min, replicate, slice_index, IsTrue}
use Rattle.mw_disk.specs.Facts.{Facts, MayLeave, MayHaveLeft, most_counted}

-- the same number of bytes, and the same byte at each offset outside S
pub record SameBut (S : ℕ → Type 0) (old new : List ℕ) : Type 0 where
  pub size : length new ≡ length old
  pub outside : (k : ℕ) → (S k → ⊥) → slice_index new k ≡ slice_index old k

-- Time has gone on: the disk is honest if it was, and the images of past moments stay.
pub record Later (old new : Facts) : Type 0 where
  pub later : old.moment ≤ new.moment
  pub honest : new.honest ≡ old.honest
  pub past : (k : ℕ) (c : List ℕ) → k ≤ old.moment → new.image k c → old.image k c
  pub kept : (k : ℕ) (c : List ℕ) → k ≤ old.moment → old.image k c → new.image k c

-- Only bytes at the offsets of S may have changed: in what a read gives, and in what a crash may have left at any moment since.
pub record Touched (S : ℕ → Type 0) (old new : Facts) : Type 0 where
  pub later : Later old new
  pub each : (k : ℕ) (c : List ℕ) → old.moment ≤ k → k ≤ new.moment → new.image k c → (d : List ℕ) × MayLeave old d × SameBut S d c
  pub seen : SameBut S old.reads new.reads

-- the disk has at least n bytes, and has them whatever a crash leaves
pub record Fits (f : Facts) (n : ℕ) : Type 0 where
  pub reads : n ≤ length f.reads
  pub left : (c : List ℕ) → MayLeave f c → n ≤ length c

-- A crash at any moment since leaves bytes of which P holds.
pub record LeavesOnly (old new : Facts) (P : List ℕ → Type 0) : Type 0 where
  pub later : Later old new
  pub each : (c : List ℕ) → MayHaveLeft new old.moment c → P c

-- Calls were made, and all went well: so many, as an honest disk counts them. None of them was known to fail, and none was refused memory.
pub record Good (count : ℕ) (old new : Facts) : Type 0 where
  pub honest : new.honest ≡ old.honest
  pub outcomes : IsTrue old.honest → length old.outcomes + count < 2 ^ 64 → new.outcomes ≡ old.outcomes ++ replicate count true
  pub faults : new.faults ≡ old.faults
  pub refused : new.refused ≡ old.refused
  pub none_doomed : (k : ℕ) → k < count → old.plan k ≡ Some false → ⊥
  -- the calls to come are those after these
  pub plan : (k : ℕ) → new.plan k ≡ old.plan (count + k)

-- Fewer than so many calls went well, then one failed, and none was made after it. None of those that went well was known to fail. If
-- the disk is honest and the one that failed was known to go well if it has memory, it was refused memory.
pub record Bad (count : ℕ) (old new : Facts) : Type 0 where
  pub well : ℕ
  pub fewer : well < count
  pub honest : new.honest ≡ old.honest
  pub outcomes : IsTrue old.honest → length old.outcomes + count < 2 ^ 64 → new.outcomes ≡ old.outcomes ++ replicate well true ++ false ∷ []
  pub faults : new.faults ≡ min (old.faults + 1) most_counted
  pub spared : IsTrue old.honest → old.plan well ≡ Some true → new.refused ≡ min (old.refused + 1) most_counted
  pub none_doomed : (k : ℕ) → k < well → old.plan k ≡ Some false → ⊥
  -- the calls to come are those after the one that failed
  pub plan : (k : ℕ) → new.plan k ≡ old.plan (well + suc k)
