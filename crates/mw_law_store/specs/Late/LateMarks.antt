-- Defines histories with room for late marks (each line is a mark or an empty place), and when a place is reserved for a
-- mark.
-- Used by: specs/Late/Examples, specs/Late/Laws, mw_law_threads.
use Rattle.std.specs.Prelude.{ℕ, ◌<◌, ◌≡◌, ◌≢◌, ◌==◌, ◌++◌, Bool, true, false, List, [], ◌∷◌, slice_get, Option, Some, None}
use Rattle.std.specs.List.{flat_map}
use Rattle.std.specs.Option.{option_and_then, option_to_list}
use Rattle.std.proofs.Math.ListN.{take}
use Rattle.mw_words.specs.declared.jobs.Entry.{Entry}
use Rattle.mw_words.specs.declared.jobs.Job.TheVariants.{Get}
use Rattle.mw_words.specs.declared.replies.Reply.{Reply}
use Rattle.mw_words.specs.declared.replies.Reply.TheVariants.{Val, No}
use Rattle.mw_words.specs.Change.{word_at}
use Rattle.mw_lone.specs.declared.marks.Mark.{Mark}
use Rattle.mw_lone.specs.declared.marks.Mark.TheVariants.{Ask, Admit, Busy, Look, Miss, Seal, SealFail, FileFail, GiveUp, Retire, Reply as HandOut, Restart}
use Rattle.mw_lone.specs.Store.{Store, RequestState, request, entries_of, step, run}

-- the marks among these lines
abbrev pub marks_in : List (Option Mark) → List Mark
marks_in lines = flat_map option_to_list lines

-- these lines and one more at the end
abbrev pub more : List (Option Mark) → Option Mark → List (Option Mark)
more lines line = lines ++ line ∷ []

-- the store after a line; an empty line does nothing
abbrev pub step_line : Store → Option Mark → Option Store
step_line s None = Some s
step_line s (Some mark) = step s mark

-- the store after these lines; None: a mark among them is illegal at its place
abbrev pub run_lines : Store → List (Option Mark) → Option Store
run_lines s [] = Some s
run_lines s (line ∷ lines) = option_and_then (λ t. run_lines t lines) (step_line s line)

-- the mark is about this request; a start is about all requests
abbrev pub names : Mark → ℕ → Bool
names (Ask k job) n = k == n
names (Admit k) n = k == n
names (Busy k) n = k == n
names (Look k) n = k == n
names (Miss k i) n = k == n
names (Seal k) n = k == n
names (SealFail k) n = k == n
names FileFail n = false
names (GiveUp k) n = k == n
names (Retire k) n = k == n
names (HandOut k) n = k == n
names (Restart interrupted take opened quota) n = true

-- each request that was asked has a number below the next one
abbrev pub IsNumbered : Store → Type 0
IsNumbered s = (n : ℕ) (r : RequestState) → request s n ≡ Some r → n < s.next

-- the request was asked and has no reply
pub record IsOpen (s : Store) (n : ℕ) (r : RequestState) : Type 0 where
  pub is_asked : request s n ≡ Some r
  pub has_no_reply : r.placed ≡ None

-- the request reads a word, and this reply has that word's value
pub record Reads (s : Store) (n : ℕ) (reply : Reply) : Type 0 where
  pub found : RequestState
  pub is_asked : request s n ≡ Some found
  pub address : ℕ
  pub reads : found.job ≡ Get address
  pub says : reply ≡ Val (word_at s.words address)

-- the request is a change that has a slot; the word of its entry with this index differs from the expected value; and this reply says so
pub record Differs (s : Store) (n : ℕ) (i : ℕ) (reply : Reply) : Type 0 where
  pub found : RequestState
  pub is_asked : request s n ≡ Some found
  pub has_slot : found.admitted ≡ true
  pub entry : Entry
  pub is_entry : slice_get (entries_of found.job) i ≡ Some entry
  pub differs : word_at s.words entry.addr ≢ entry.expected
  pub says : reply ≡ No entry.addr (word_at s.words entry.addr)

-- in this store, this mark would give the request this reply, if the request had none; only a Look or a Miss may be late
abbrev pub WouldAnswer : Store → Mark → ℕ → Reply → Type 0
WouldAnswer s (Look k) n reply = (k ≡ n) × Reads s n reply
WouldAnswer s (Miss k i) n reply = (k ≡ n) × Differs s n i reply
WouldAnswer s (Ask k job) n reply = ⊥
WouldAnswer s (Admit k) n reply = ⊥
WouldAnswer s (Busy k) n reply = ⊥
WouldAnswer s (Seal k) n reply = ⊥
WouldAnswer s (SealFail k) n reply = ⊥
WouldAnswer s FileFail n reply = ⊥
WouldAnswer s (GiveUp k) n reply = ⊥
WouldAnswer s (Retire k) n reply = ⊥
WouldAnswer s (HandOut k) n reply = ⊥
WouldAnswer s (Restart interrupted take opened quota) n reply = ⊥

-- the place is reserved for this mark: it is empty, and in the store there the mark would give the request this reply, if the request had none
pub record IsReservedFor (start : Store) (lines : List (Option Mark)) (place : ℕ) (mark : Mark) (n : ℕ) (reply : Reply) : Type 0 where
  pub is_empty : slice_get lines place ≡ Some None
  pub store : Store
  pub was : run start (marks_in (take place lines)) ≡ Some store
  pub would_answer : WouldAnswer store mark n reply
