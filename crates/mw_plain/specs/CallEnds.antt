-- Defines how the start of a job and the finish of a change end for one tenant: its reply, its file, and its store alone.
-- Used by: loaded_file.rt, tenant.rt. It may change with them, as long as Answers still follows.
use Rattle.std.specs.Prelude.{◌≡◌, ◌≢◌, ◌≤◌, ◌+◌, ℕ, true, false, List, length, Option, Some, None, is_some}
use Rattle.mw_disk.specs.Facts.{Facts}
use Rattle.mw_disk.specs.Runs.{Good, Bad}
use Rattle.mw_words.specs.declared.jobs.Entry.{Entry}
use Rattle.arrayvec.specs.ArrayVec.{ArrayVec}
use Rattle.mw_words.specs.declared.jobs.Job.{Job}
use Rattle.mw_words.specs.declared.jobs.Job.TheVariants.{Cas}
use Rattle.mw_words.specs.declared.replies.Reply.{Reply}
use Rattle.mw_file.specs.File.{disk_of, words_of, states_of}
use Rattle.mw_lone.specs.Store.{Store}
use Rattle.mw_plain.specs.declared.loaded_file.LoadedFile.{LoadedFile}
use Rattle.mw_plain.specs.declared.loaded_file.Begun.{Begun}
use Rattle.mw_plain.specs.declared.loaded_file.Begun.TheVariants.{Done, Prepared as PreparedIn}
use Rattle.mw_plain.specs.Books.{used_in, faulted_in, places_in, IsPrepared}
use Rattle.mw_plain.specs.Cases.{StartCase, FinishCase, Faulted, Looked, Full, Unprepared, Prepared, GaveUp, Missed, Unsealed, Unsettled, Changed, StartFits, FinishFits, start_reply, finish_reply, after_start, after_finish, is_end}
use Rattle.mw_plain.specs.Refinement.{Backs, IsKept, CrashLeaves}

-- the reply to a job that is done at its start
abbrev pub begun_reply : Begun → Option Reply
begun_reply (Done reply) = Some reply
begun_reply (PreparedIn place entries) = None

-- The change that a crash may find while this one is finished: this one while it is sealed or settled, else the one in
-- doubt.
abbrev pub at_stake : FinishCase → List Entry → List Entry → List Entry
at_stake GaveUp entries in_doubt = in_doubt
at_stake (Missed index) entries in_doubt = in_doubt
at_stake Unsealed entries in_doubt = entries
at_stake Unsettled entries in_doubt = entries
at_stake Changed entries in_doubt = entries

-- The file has as many words and places as before, and at most `most` slots are in use.
pub record KeepsShape {D : Type 0} (most : ℕ) (old new : LoadedFile D) : Type 0 where
  pub words : words_of new.file ≡ words_of old.file
  pub places : length (states_of new.file) ≡ length (states_of old.file)
  pub within : new.used ≤ most

module _ {D : Type 0} (facts : D → Facts) where
  -- the disks of a tenant's file, before and after, have this relation
  abbrev pub OnDisks : (D → D → Type 0) → Option (LoadedFile D) → Option (LoadedFile D) → Type 0
  OnDisks Related None new = ⊥
  OnDisks Related (Some old) None = ⊥
  OnDisks Related (Some old) (Some new) = Related (disk_of old.file) (disk_of new.file)

  -- so many device calls went well
  abbrev pub WentWell : ℕ → D → D → Type 0
  WentWell calls old new = Good calls (facts old) (facts new)

  -- fewer than so many device calls went well, then one failed, and no call came after it
  abbrev pub Failed : ℕ → D → D → Type 0
  Failed calls old new = Bad calls (facts old) (facts new)

  -- What a start did to a tenant and its device, by its case. Only a change that finds a slot free reaches the device:
  -- two calls go well, or one fails.
  abbrev pub StartMade : StartCase → ℕ → Option (LoadedFile D) → Option (LoadedFile D) → Type 0
  StartMade Faulted quota old new = (faulted_in old ≡ true) × (new ≡ old)
  StartMade Looked quota old new = (faulted_in old ≡ false) × (new ≡ old)
  StartMade Full quota old new = (faulted_in old ≡ false) × (used_in old ≡ quota) × (new ≡ old)
  StartMade Unprepared quota old new = (faulted_in old ≡ false) × OnDisks (Failed 2) old new
  StartMade Prepared quota old new = (faulted_in old ≡ false) × OnDisks (WentWell 2) old new

  -- A change that is left open is prepared in a place in which no other change was prepared.
  pub record Opened (old new : Option (LoadedFile D)) (job : Job) (place : ℕ) (entries : ArrayVec Entry) : Type 0 where
    pub change : job ≡ Cas entries
    pub up : faulted_in new ≡ false
    pub here : IsPrepared new place entries.items
    pub alone : (others : List Entry) → IsPrepared old place others → ⊥

  -- if a start left a change open, the change is prepared so
  abbrev pub Opens : Option (LoadedFile D) → Option (LoadedFile D) → Job → Begun → Type 0
  Opens old new job (Done reply) = Unit {0}
  Opens old new job (PreparedIn place entries) = Opened old new job place.0 entries

  -- How a start ended. For each store alone that represents the tenant, the case fits, and the reply is the case's. The
  -- store after the case then represents the tenant after the call. On an honest disk a crash during the call leaves
  -- the store's words, or these with the change in doubt. Prepared changes stay prepared.
  pub record StartEnds (case : StartCase) (quota : ℕ) (old new : Option (LoadedFile D)) (job : Job) (result : Begun) : Type 0 where
    pub made : StartMade case quota old new
    pub fits : (s : Store) → s.quota ≡ quota → Backs old s → StartFits s job case
    pub reply : (s : Store) → Backs old s → begun_reply result ≡ start_reply s.words job case
    pub after : (s : Store) → Backs old s → Backs new (after_start s job case)
    pub keeps : (s : Store) → IsKept facts old s → IsKept facts new (after_start s job case)
    pub moments : (s : Store) → IsKept facts old s → CrashLeaves facts old new s.words s.in_doubt
    pub ended : is_end case ≡ is_some (begun_reply result)
    pub places : (so_many : ℕ) → places_in so_many new ≡ places_in so_many old
    pub opened : Opens old new job result
    pub kept : (place : ℕ) (entries : List Entry) → IsPrepared old place entries → IsPrepared new place entries

  -- the device calls for a sealed change of so many entries: two calls of the seal went well, then one failed
  pub record SealedThenFailed (count : ℕ) (old new : D) : Type 0 where
    pub between : D
    pub sealed : Good 2 (facts old) (facts between)
    pub unsettled : Bad (count + 3) (facts between) (facts new)

  -- What a finish of a change of so many entries did to a tenant and its device, by its case.
  abbrev pub FinishMade : FinishCase → ℕ → Option (LoadedFile D) → Option (LoadedFile D) → Type 0
  FinishMade GaveUp count old new = (faulted_in old ≡ true) × (new ≡ old)
  FinishMade (Missed index) count old new = (faulted_in old ≡ false) × OnDisks (λ before after. after ≡ before) old new
  FinishMade Unsealed count old new = (faulted_in old ≡ false) × OnDisks (Failed 2) old new
  FinishMade Unsettled count old new = (faulted_in old ≡ false) × OnDisks (SealedThenFailed count) old new
  FinishMade Changed count old new = (faulted_in old ≡ false) × OnDisks (WentWell (2 + (count + 3))) old new

  -- How a finish ended, as a start above.
  pub record FinishEnds (case : FinishCase) (old new : Option (LoadedFile D)) (place : ℕ) (entries : ArrayVec Entry) (reply : Reply) : Type 0 where
    pub made : FinishMade case (length entries.items) old new
    pub fits : (s : Store) → Backs old s → FinishFits s (Cas entries) case
    pub reply_is : (s : Store) → Backs old s → Some reply ≡ finish_reply s.words (Cas entries) case
    pub after : (s : Store) (n : ℕ) → Backs old s → Backs new (after_finish s n (Cas entries) case)
    pub keeps : (s : Store) (n : ℕ) → IsKept facts old s → IsKept facts new (after_finish s n (Cas entries) case)
    pub moments : (s : Store) → IsKept facts old s → CrashLeaves facts old new s.words (at_stake case entries.items s.in_doubt)
    pub places : (so_many : ℕ) → places_in so_many new ≡ places_in so_many old
    pub kept : (other : ℕ) (others : List Entry) → other ≢ place → IsPrepared old other others → IsPrepared new other others
