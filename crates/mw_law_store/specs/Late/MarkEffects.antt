-- Lists for each mark the conditions under which it is legal in a store alone, and the store that it leaves, by the store's
-- own functions.
-- Used by: specs/Late/Laws, mw_law_threads.
use Rattle.std.specs.Prelude.{ℕ, ◌+◌, ◌-◌, ◌<◌, ◌≡◌, ◌≢◌, Bool, true, false, [], slice_get, length, Option, Some, None, if◌then◌else◌}
use Rattle.mw_words.specs.declared.jobs.Entry.{Entry}
use Rattle.mw_words.specs.declared.jobs.Job.{Job}
use Rattle.mw_words.specs.declared.jobs.Job.TheVariants.{Get}
use Rattle.mw_words.specs.declared.replies.Reply.{Reply}
use Rattle.mw_words.specs.declared.replies.Reply.TheVariants.{Val, Yes, No, Busy as SaysBusy, Fault}
use Rattle.mw_words.specs.Change.{word_at, fits, put, is_well_formed}
use Rattle.mw_lone.specs.declared.marks.Mark.{Mark}
use Rattle.mw_lone.specs.declared.marks.Mark.TheVariants.{Ask, Admit, Busy, Look, Miss, Seal, SealFail, FileFail, GiveUp, Retire, Reply as HandOut, Restart}
use Rattle.mw_lone.specs.Store.{Store, RequestState, request, with_request, with_reply, asked, is_cas, entries_of, entries_in_doubt, is_quota, store_after_start}

-- a request is asked under the next number, and its job is well formed
pub record Asks (s : Store) (n : ℕ) (job : Job) (t : Store) : Type 0 where
  pub is_next : n ≡ s.next
  pub well_formed : is_well_formed (length s.words) job ≡ true
  pub after : t ≡ record (with_request s n (asked job)) { next = s.next + 1 }

-- the request was asked; it is a change that has neither a slot nor a reply, and the file has not failed
pub record Waits (s : Store) (n : ℕ) (r : RequestState) : Type 0 where
  pub is_asked : request s n ≡ Some r
  pub is_change : is_cas r.job ≡ true
  pub has_no_slot : r.admitted ≡ false
  pub has_no_reply : r.placed ≡ None
  pub file_works : s.faulted ≡ false

-- such a change gets a slot, if the quota isn't used up
pub record Admits (s : Store) (n : ℕ) (t : Store) : Type 0 where
  pub found : RequestState
  pub waits : Waits s n found
  pub has_room : s.used < s.quota
  pub after : t ≡ record (with_request s n (record found { admitted = true })) { used = s.used + 1 }

-- such a change is answered BUSY, if the quota is used up
pub record RefusesBusy (s : Store) (n : ℕ) (t : Store) : Type 0 where
  pub found : RequestState
  pub waits : Waits s n found
  pub has_no_room : s.used ≡ s.quota
  pub after : t ≡ with_reply s n found SaysBusy

-- a request that reads a word, and has no reply, is answered with the word's value
pub record Looks (s : Store) (n : ℕ) (t : Store) : Type 0 where
  pub found : RequestState
  pub is_asked : request s n ≡ Some found
  pub address : ℕ
  pub reads : found.job ≡ Get address
  pub has_no_reply : found.placed ≡ None
  pub after : t ≡ with_reply s n found (Val (word_at s.words address))

-- a change that has a slot and no reply is refused at an entry whose word has another value than the expected one
pub record Misses (s : Store) (n : ℕ) (i : ℕ) (t : Store) : Type 0 where
  pub found : RequestState
  pub is_asked : request s n ≡ Some found
  pub has_slot : found.admitted ≡ true
  pub has_no_reply : found.placed ≡ None
  pub entry : Entry
  pub is_entry : slice_get (entries_of found.job) i ≡ Some entry
  pub differs : word_at s.words entry.addr ≢ entry.expected
  pub after : t ≡ with_reply s n found (No entry.addr (word_at s.words entry.addr))

-- a change could be written now: it has a slot and no reply, the file has not failed, and each word has the expected value
pub record Fits (s : Store) (n : ℕ) (r : RequestState) : Type 0 where
  pub is_asked : request s n ≡ Some r
  pub has_slot : r.admitted ≡ true
  pub has_no_reply : r.placed ≡ None
  pub file_works : s.faulted ≡ false
  pub as_expected : fits s.words (entries_of r.job) ≡ true

-- such a change is written, all of it
pub record Writes (s : Store) (n : ℕ) (t : Store) : Type 0 where
  pub found : RequestState
  pub can_be_written : Fits s n found
  pub after : t ≡ record (with_reply s n found Yes) { words = put s.words (entries_of found.job) }

-- the file fails while such a change is written; the change stays in doubt
pub record FailsToWrite (s : Store) (n : ℕ) (t : Store) : Type 0 where
  pub found : RequestState
  pub can_be_written : Fits s n found
  pub after : t ≡ record (with_reply s n found Fault) { faulted = true; in_doubt = entries_of found.job }

-- the file fails in another call
pub record Fails (s : Store) (t : Store) : Type 0 where
  pub file_works : s.faulted ≡ false
  pub after : t ≡ record s { faulted = true }

-- a request without a reply is answered FAULT, if the file has failed or didn't open at the last start
pub record GivesUp (s : Store) (n : ℕ) (t : Store) : Type 0 where
  pub found : RequestState
  pub is_asked : request s n ≡ Some found
  pub has_failed : s.faulted ≡ true
  pub has_no_reply : found.placed ≡ None
  pub after : t ≡ with_reply s n found Fault

-- a change that was admitted and has its reply gives its slot back, once
pub record Retires (s : Store) (n : ℕ) (t : Store) : Type 0 where
  pub found : RequestState
  pub is_asked : request s n ≡ Some found
  pub has_slot : found.admitted ≡ true
  pub reply : Reply
  pub has_reply : found.placed ≡ Some reply
  pub not_retired : found.retired ≡ false
  pub after : t ≡ record (with_request s n (record found { retired = true })) { used = s.used - 1 }

-- a reply that was not handed out is handed out
pub record HandsOut (s : Store) (n : ℕ) (t : Store) : Type 0 where
  pub found : RequestState
  pub is_asked : request s n ≡ Some found
  pub reply : Reply
  pub has_reply : found.placed ≡ Some reply
  pub not_handed : found.handed ≡ false
  pub after : t ≡ with_request s n (record found { handed = true })

-- the change that is named as interrupted, if there is one, could be written
abbrev pub CouldBeInterrupted : Store → Option ℕ → Type 0
CouldBeInterrupted s None = Unit
CouldBeInterrupted s (Some n) = (r : RequestState) × Fits s n r

-- a change is in doubt: the interrupted one, else the one that a failed file left
abbrev pub IsInDoubt : Store → Option ℕ → Type 0
IsInDoubt s None = s.in_doubt ≢ []
IsInDoubt s (Some n) = Unit

-- all stops and starts again, with a quota that a tenant may have; a change may be found only if one is in doubt
pub record Restarts (s : Store) (interrupted : Option ℕ) (take opened : Bool) (quota : ℕ) (t : Store) : Type 0 where
  pub could_be_interrupted : CouldBeInterrupted s interrupted
  pub is_in_doubt : take ≡ true → IsInDoubt s interrupted
  pub may_be_given : is_quota quota ≡ true
  pub after : t ≡ store_after_start s (if take then put s.words (entries_in_doubt s interrupted) else s.words) opened quota

-- the mark is legal in the first store, and leaves the second
abbrev pub Does : Store → Mark → Store → Type 0
Does s (Ask n job) t = Asks s n job t
Does s (Admit n) t = Admits s n t
Does s (Busy n) t = RefusesBusy s n t
Does s (Look n) t = Looks s n t
Does s (Miss n i) t = Misses s n i t
Does s (Seal n) t = Writes s n t
Does s (SealFail n) t = FailsToWrite s n t
Does s FileFail t = Fails s t
Does s (GiveUp n) t = GivesUp s n t
Does s (Retire n) t = Retires s n t
Does s (HandOut n) t = HandsOut s n t
Does s (Restart interrupted take opened quota) t = Restarts s interrupted take opened quota t
