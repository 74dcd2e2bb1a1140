-- Defines the cases in which a call of the plain store may end: each has marks (events), the reply that they hand out, and
-- the store alone after them.
-- Used by: loaded_file.rt, plain.rt, restarts.rt, tenant.rt. A new mark or reply needs a case here first; Answers and CallEnds
-- follow it.
use Rattle.std.specs.Prelude.{ℕ, ◌≡◌, ◌≢◌, ◌<◌, ◌+◌, ◌-◌, Bool, true, false, List, [], ◌∷◌, ◌++◌, length, Option, Some, None, IsTrue, IsSomeAnd, slice_get, take}
use Rattle.std.specs.Option.{option_map}
use Rattle.std.specs.FinMap as map
use Rattle.mw_words.specs.declared.jobs.Entry.{Entry}
use Rattle.mw_words.specs.declared.jobs.Job.{Job}
use Rattle.mw_words.specs.declared.jobs.Job.TheVariants.{Get, Cas}
use Rattle.mw_words.specs.declared.replies.Reply.{Reply}
use Rattle.mw_words.specs.declared.replies.Reply.TheVariants.{Val, Yes, No, Busy as SaysBusy, Fault}
use Rattle.mw_words.specs.Change.{word_at, fits, put, is_well_formed}
use Rattle.mw_lone.specs.Store.{Store, RequestState, entries_of, is_cas}
use Rattle.mw_lone.specs.declared.marks.Mark.{Mark}
use Rattle.mw_lone.specs.declared.marks.Mark.TheVariants.{Ask, Admit, Busy, Look, Miss, Seal, SealFail, FileFail, GiveUp, Retire, Reply as HandOut}

-- What the start of a job comes to.
pub data StartCase : Type 0 where
  -- the tenant's file had failed, or had not opened
  Faulted : StartCase
  -- a word was read
  Looked : StartCase
  -- a change found the tenant's quota used up
  Full : StartCase
  -- a change was admitted, and the file failed while the change was prepared
  Unprepared : StartCase
  -- a change was admitted and prepared, and is still to be finished
  Prepared : StartCase

-- What the finish of a prepared change comes to.
pub data FinishCase : Type 0 where
  -- the tenant's file has failed since the change was prepared
  GaveUp : FinishCase
  -- the word of the entry with this index is the first that doesn't have the expected value
  Missed : (index : ℕ) → FinishCase
  -- the file failed while the change was sealed; sealing makes a change durable
  Unsealed : FinishCase
  -- the change was sealed, and the file failed while it was settled
  Unsettled : FinishCase
  -- the change was sealed and settled
  Changed : FinishCase

-- What an ask for a job comes to: the start ended it, or the finish after the start.
pub data AskCase : Type 0 where
  AtStart : StartCase → AskCase
  AtFinish : FinishCase → AskCase

-- When a case can be met.

-- A change can be admitted: the file has not failed, and a slot of the quota is free.
pub record HasRoom (s : Store) (job : Job) : Type 0 where
  pub running : s.faulted ≡ false
  pub change : is_cas job ≡ true
  pub below : s.used < s.quota

-- A change can be made: the file has not failed, and every word has the expected value.
pub record CanChange (s : Store) (job : Job) : Type 0 where
  pub running : s.faulted ≡ false
  pub as_expected : IsTrue (fits s.words (entries_of job))

-- the start of a job can come to this case over this store
abbrev pub StartFits : Store → Job → StartCase → Type 0
StartFits s job Faulted = s.faulted ≡ true
StartFits s job Looked = (s.faulted ≡ false) × (is_cas job ≡ false)
StartFits s job Full = (s.faulted ≡ false) × (is_cas job ≡ true) × (s.used ≡ s.quota)
StartFits s job Unprepared = HasRoom s job
StartFits s job Prepared = HasRoom s job

-- the file has not failed, and this is the first entry whose word doesn't have the expected value
pub record MissesFirst (s : Store) (job : Job) (index : ℕ) : Type 0 where
  pub running : s.faulted ≡ false
  pub as_expected : IsTrue (fits s.words (take index (entries_of job)))
  pub differs : IsSomeAnd (slice_get (entries_of job) index) (λ e. word_at s.words e.addr ≢ e.expected)

-- the finish of a change can come to this case over this store
abbrev pub FinishFits : Store → Job → FinishCase → Type 0
FinishFits s job GaveUp = s.faulted ≡ true
FinishFits s job (Missed index) = MissesFirst s job index
FinishFits s job Unsealed = CanChange s job
FinishFits s job Unsettled = CanChange s job
FinishFits s job Changed = CanChange s job

-- The marks of a call whose request has the number n.

-- of a start
abbrev pub start_marks : ℕ → Job → StartCase → List Mark
start_marks n job Faulted = Ask n job ∷ GiveUp n ∷ HandOut n ∷ []
start_marks n job Looked = Ask n job ∷ Look n ∷ HandOut n ∷ []
start_marks n job Full = Ask n job ∷ Busy n ∷ HandOut n ∷ []
start_marks n job Unprepared = Ask n job ∷ Admit n ∷ FileFail ∷ GiveUp n ∷ HandOut n ∷ []
start_marks n job Prepared = Ask n job ∷ Admit n ∷ []

-- of a finish
abbrev pub finish_marks : ℕ → FinishCase → List Mark
finish_marks n GaveUp = GiveUp n ∷ HandOut n ∷ []
finish_marks n (Missed index) = Miss n index ∷ Retire n ∷ HandOut n ∷ []
finish_marks n Unsealed = SealFail n ∷ HandOut n ∷ []
finish_marks n Unsettled = Seal n ∷ FileFail ∷ HandOut n ∷ []
finish_marks n Changed = Seal n ∷ Retire n ∷ HandOut n ∷ []

-- of a start, and of the finish after it
abbrev pub ask_marks : ℕ → Job → AskCase → List Mark
ask_marks n job (AtStart case) = start_marks n job case
ask_marks n job (AtFinish case) = start_marks n job Prepared ++ finish_marks n case

-- The reply, over these words.

-- the value of the word that a job reads
abbrev pub looked_up : List ℕ → Job → Option Reply
looked_up words (Get addr) = Some (Val (word_at words addr))
looked_up words (Cas entries) = None

-- the refusal at an entry: its address and the value of its word
abbrev pub refusal : List ℕ → Option Entry → Option Reply
refusal words entry = option_map (λ e. No e.addr (word_at words e.addr)) entry

-- the reply that a start hands out; none if the change is prepared, because its reply is still to come
abbrev pub start_reply : List ℕ → Job → StartCase → Option Reply
start_reply words job Faulted = Some Fault
start_reply words job Looked = looked_up words job
start_reply words job Full = Some SaysBusy
start_reply words job Unprepared = Some Fault
start_reply words job Prepared = None

-- the reply that a finish hands out
abbrev pub finish_reply : List ℕ → Job → FinishCase → Option Reply
finish_reply words job GaveUp = Some Fault
finish_reply words job (Missed index) = refusal words (slice_get (entries_of job) index)
finish_reply words job Unsealed = Some Fault
finish_reply words job Unsettled = Some Yes
finish_reply words job Changed = Some Yes

-- the reply to the job, from the start or the finish
abbrev pub ask_reply : List ℕ → Job → AskCase → Option Reply
ask_reply words job (AtStart case) = start_reply words job case
ask_reply words job (AtFinish case) = finish_reply words job case

-- The store after a call: each part of it that the call may change.

-- a change that was admitted and has no reply yet
abbrev pub under_way : Job → RequestState
under_way job = record { job = job; admitted = true; placed = None; retired = false; handed = false }

-- a request that was not admitted, and whose reply was handed out
abbrev pub turned_away : Job → Option Reply → RequestState
turned_away job reply = record { job = job; admitted = false; placed = reply; retired = false; handed = true }

-- a change that was admitted, and whose reply was handed out; its slot was given back or not
abbrev pub ended : Job → Option Reply → Bool → RequestState
ended job reply back = record { job = job; admitted = true; placed = reply; retired = back; handed = true }

-- the request that was started
abbrev pub request_after_start : List ℕ → Job → StartCase → RequestState
request_after_start words job Unprepared = ended job (Some Fault) false
request_after_start words job Prepared = under_way job
request_after_start words job case = turned_away job (start_reply words job case)

-- a slot is in use for each change that was admitted
abbrev pub used_after_start : ℕ → StartCase → ℕ
used_after_start used Unprepared = used + 1
used_after_start used Prepared = used + 1
used_after_start used case = used

-- the file has failed if it failed while a change was prepared
abbrev pub faulted_after_start : Bool → StartCase → Bool
faulted_after_start faulted Unprepared = true
faulted_after_start faulted case = faulted

-- the store after a start of this job, which takes the store's next number
abbrev pub after_start : Store → Job → StartCase → Store
after_start s job case = record s {
  used = used_after_start s.used case;
  next = s.next + 1;
  requests = map.insert s.requests s.next (request_after_start s.words job case);
  faulted = faulted_after_start s.faulted case;
}

-- the slot is given back, unless a failed file keeps it
abbrev pub gives_back : FinishCase → Bool
gives_back (Missed index) = true
gives_back Changed = true
gives_back case = false

-- one slot fewer is in use if it was given back
abbrev pub used_after_finish : ℕ → FinishCase → ℕ
used_after_finish used (Missed index) = used - 1
used_after_finish used Changed = used - 1
used_after_finish used case = used

-- a change that was sealed is made
abbrev pub words_after_finish : List ℕ → Job → FinishCase → List ℕ
words_after_finish words job Unsettled = put words (entries_of job)
words_after_finish words job Changed = put words (entries_of job)
words_after_finish words job case = words

-- the file has failed if it failed while a change was sealed or settled
abbrev pub faulted_after_finish : Bool → FinishCase → Bool
faulted_after_finish faulted Unsealed = true
faulted_after_finish faulted Unsettled = true
faulted_after_finish faulted case = faulted

-- a change whose seal failed is in doubt
abbrev pub in_doubt_after_finish : List Entry → Job → FinishCase → List Entry
in_doubt_after_finish in_doubt job Unsealed = entries_of job
in_doubt_after_finish in_doubt job case = in_doubt

-- the store after a finish of this change, whose number is n
abbrev pub after_finish : Store → ℕ → Job → FinishCase → Store
after_finish s n job case = record s {
  words = words_after_finish s.words job case;
  used = used_after_finish s.used case;
  requests = map.insert s.requests n (ended job (finish_reply s.words job case) (gives_back case));
  faulted = faulted_after_finish s.faulted case;
  in_doubt = in_doubt_after_finish s.in_doubt job case;
}

-- the store after a start of this job, and after the finish if there was one
abbrev pub after_ask : Store → Job → AskCase → Store
after_ask s job (AtStart case) = after_start s job case
after_ask s job (AtFinish case) = after_finish (after_start s job Prepared) s.next job case

-- the start ends the job, and no finish follows
abbrev pub is_end : StartCase → Bool
is_end Prepared = false
is_end case = true

-- A finish comes after a start that prepared the change, over the store that this start left.
abbrev pub AskFits : Store → Job → AskCase → Type 0
AskFits s job (AtStart case) = StartFits s job case × IsTrue (is_end case)
AskFits s job (AtFinish case) = StartFits s job Prepared × FinishFits (after_start s job Prepared) job case

-- Jobs that are asked one after another.

-- a job that was asked, its case, and its reply
pub record Served : Type 0 where
  pub job : Job
  pub case : AskCase
  pub reply : Reply

-- the job is well formed, and the case can be met and has this reply
pub record ServedFits (s : Store) (served : Served) : Type 0 where
  pub well_formed : IsTrue (is_well_formed (length s.words) served.job)
  pub met : AskFits s served.job served.case
  pub replied : ask_reply s.words served.job served.case ≡ Some served.reply

-- the store after the job
abbrev pub after_served : Store → Served → Store
after_served s served = after_ask s served.job served.case

-- the store after all of them
abbrev pub after_all : Store → List Served → Store
after_all s [] = s
after_all s (served ∷ more) = after_all (after_served s served) more

-- each fits the store that those before it left
abbrev pub AllFit : Store → List Served → Type 0
AllFit s [] = Unit {0}
AllFit s (served ∷ more) = ServedFits s served × AllFit (after_served s served) more

-- the marks of all, if the first request has the number n and each further one the next number
abbrev pub marks_of_all : ℕ → List Served → List Mark
marks_of_all n [] = []
marks_of_all n (served ∷ more) = ask_marks n served.job served.case ++ marks_of_all (n + 1) more

-- the replies of all, each with its request's number
abbrev pub replies_to_all : ℕ → List Served → List (ℕ × Reply)
replies_to_all n [] = []
replies_to_all n (served ∷ more) = (n, served.reply) ∷ replies_to_all (n + 1) more
