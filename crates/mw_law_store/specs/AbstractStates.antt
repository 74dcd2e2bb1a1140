-- Defines a tenant's abstract state at each place of its history: its words, with each sealed change put over them. It is
-- defined for every run, also when a number was used up.
-- Used by: mw_rule, mw_simulator, mw_law_threads.
use Rattle.std.specs.Prelude.{ℕ, ◌≡◌, ◌≢◌, ◌<◌, ◌==◌, if◌then◌else◌, List, [], ◌∷◌, ◌++◌, slice_get, Option, Some, None}
use Rattle.std.proofs.Math.ListN.{take}
use Rattle.mw_words.specs.declared.jobs.Entry.{Entry}
use Rattle.mw_words.specs.declared.jobs.Job.{Job}
use Rattle.mw_words.specs.declared.jobs.Job.TheVariants.{Get}
use Rattle.mw_words.specs.declared.replies.Reply.{Reply}
use Rattle.mw_words.specs.declared.replies.Reply.TheVariants.{Val, Yes as SaysYes, No as SaysNo}
use Rattle.mw_words.specs.Change.{put, word_at}
use Rattle.mw_lone.specs.declared.marks.Mark.{Mark}
use Rattle.mw_lone.specs.declared.marks.Mark.TheVariants.{Ask, Look, Miss, Seal, SealFail, Restart}
use Rattle.mw_lone.specs.Store.{entries_of}

-- A sealed change: the number of its request, and its entries.
pub record SealedChange : Type 0 where
  pub request : ℕ
  pub entries : List Entry

-- The abstract state of a tenant at one place of its history.
pub record AbstractState : Type 0 where
  -- the words; by request, the entries that it asks for; the change that a failed seal left in doubt; and the changes sealed
  -- since the last start
  pub words : List ℕ
  pub entries : ℕ → List Entry
  pub doubt : List Entry
  pub sealed : List SealedChange

-- the abstract state after a start that found these words
abbrev pub first_abstract_state : List ℕ → AbstractState
first_abstract_state words = record { words = words; entries = λ n. []; doubt = []; sealed = [] }

-- the change that a start may find: the interrupted request's, else the one in doubt
abbrev pub doubt_at : AbstractState → Option ℕ → List Entry
doubt_at now None = now.doubt
doubt_at now (Some n) = now.entries n

-- the abstract state after a mark
abbrev pub after_mark : AbstractState → Mark → AbstractState
after_mark now (Ask n job) = record now { entries = λ other. if other == n then entries_of job else now.entries other }
after_mark now (Seal n) = record now {
  words = put now.words (now.entries n);
  sealed = now.sealed ++ record { request = n; entries = now.entries n } ∷ [];
}
after_mark now (SealFail n) = record now { doubt = now.entries n }
after_mark now (Restart interrupted found opened quota) = first_abstract_state (if found then put now.words (doubt_at now interrupted) else now.words)
after_mark now mark = now

-- the abstract state after a line; an empty place changes nothing
abbrev pub after_line : AbstractState → Option Mark → AbstractState
after_line now None = now
after_line now (Some mark) = after_mark now mark

-- the abstract state after these lines
abbrev pub abstract_state_of : AbstractState → List (Option Mark) → AbstractState
abstract_state_of now [] = now
abstract_state_of now (line ∷ lines) = abstract_state_of (after_line now line) lines

-- the abstract state after these marks
abbrev pub after_marks : AbstractState → List Mark → AbstractState
after_marks now [] = now
after_marks now (mark ∷ marks) = after_marks (after_mark now mark) marks

-- the abstract state before the line at a place
abbrev pub abstract_state_at : AbstractState → List (Option Mark) → ℕ → AbstractState
abstract_state_at start lines place = abstract_state_of start (take place lines)

-- Before this place there is the line with which a request came.
pub record IsAskedBefore (lines : List (Option Mark)) (place n : ℕ) : Type 0 where
  pub ask : ℕ
  pub job : Job
  pub is_asked : slice_get lines ask ≡ Some (Some (Ask n job))
  pub before : ask < place

-- The word at an address had this value before the line at a place.
abbrev pub WasThen : AbstractState → List (Option Mark) → ℕ → ℕ → ℕ → Type 0
WasThen start lines place address value = word_at (abstract_state_at start lines place).words address ≡ value

-- A read could take place at this place: it came before, and the word at its address had this value there.
pub record CouldLook (start : AbstractState) (lines : List (Option Mark)) (place n : ℕ) (job : Job) (value : ℕ) : Type 0 where
  pub asked : IsAskedBefore lines place n
  pub address : ℕ
  pub reads : job ≡ Get address
  pub says : WasThen start lines place address value

-- A change with these entries could be refused at this place: it came before, and the word of the entry with this index had this
-- value there, which is not the expected one.
pub record CouldMiss (start : AbstractState) (lines : List (Option Mark)) (place n : ℕ) (entries : List Entry) (index address value : ℕ) : Type 0 where
  pub asked : IsAskedBefore lines place n
  pub entry : Entry
  pub is_entry : slice_get entries index ≡ Some entry
  pub same_address : address ≡ entry.addr
  pub says : WasThen start lines place address value
  pub differs : value ≢ entry.expected

-- A line at which the read takes place that gives this value.
pub record LooksAt (start : AbstractState) (lines : List (Option Mark)) (n : ℕ) (job : Job) (value : ℕ) : Type 0 where
  pub place : ℕ
  pub is : slice_get lines place ≡ Some (Some (Look n))
  pub could : CouldLook start lines place n job value

-- A line at which the change is refused with this address and value.
pub record MissesAt (start : AbstractState) (lines : List (Option Mark)) (n : ℕ) (entries : List Entry) (address value : ℕ) : Type 0 where
  pub place : ℕ
  pub index : ℕ
  pub is : slice_get lines place ≡ Some (Some (Miss n index))
  pub could : CouldMiss start lines place n entries index address value

-- The only line at which the change is sealed; it came before with these entries.
pub record SealsAt (start : AbstractState) (lines : List (Option Mark)) (n : ℕ) (entries : List Entry) : Type 0 where
  pub place : ℕ
  pub is : slice_get lines place ≡ Some (Some (Seal n))
  pub asked : IsAskedBefore lines place n
  pub its_entries : (abstract_state_at start lines place).entries n ≡ entries
  pub once : (other : ℕ) → slice_get lines other ≡ Some (Some (Seal n)) → other ≡ place

-- The reply to a request has its place among the lines. BUSY, FAULT and WORN need none.
abbrev pub HasPlace : AbstractState → List (Option Mark) → ℕ → Job → Reply → Type 0
HasPlace start lines n job (Val value) = LooksAt start lines n job value
HasPlace start lines n job (SaysNo address value) = MissesAt start lines n (entries_of job) address value
HasPlace start lines n job SaysYes = SealsAt start lines n (entries_of job)
HasPlace start lines n job reply = Unit {0}

-- If this mark is put in at this place, it could give a request for this job this reply. Only a Look and a Miss can come late.
abbrev pub CouldCome : AbstractState → List (Option Mark) → ℕ → Mark → ℕ → Job → Reply → Type 0
CouldCome start lines place (Look k) n job (Val value) = (k ≡ n) × CouldLook start lines place n job value
CouldCome start lines place (Miss k index) n job (SaysNo address value) = (k ≡ n) × CouldMiss start lines place n (entries_of job) index address value
CouldCome start lines place mark n job reply = ⊥
