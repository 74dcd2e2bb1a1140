-- Defines the store alone, the sequential specification of one tenant: which mark (event) is legal when, and what it does to
-- words and requests.
-- Used by: many crates from mw_plain on. A change here changes what every reply means
-- (docs/HOW-IT-IS-PROVED, docs/THEOREM). CONTRIBUTING lists what a new mark needs.
use Rattle.std.specs.Prelude.{ℕ, ◌+◌, ◌-◌, ◌==◌, ◌&&◌, ◌||◌, not, Bool, true, false, List, [], ◌∷◌, ◌++◌, length, nat_le, nat_lt, is_some, is_none, Option, Some, None, IsSome, slice_get, if◌then◌else◌}
use Rattle.std.specs.Option.{option_and_then, option_map, option_map_or, option_to_list, unwrap_or}
use Rattle.std.specs.Ordering.{nat_cmp}
use Rattle.std.specs.FinMap as map
use Rattle.mw_words.specs.declared.jobs.Entry.{Entry}
use Rattle.mw_words.specs.declared.jobs.Job.{Job}
use Rattle.mw_words.specs.declared.jobs.Job.TheVariants.{Get, Cas}
use Rattle.mw_words.specs.declared.replies.Reply.{Reply}
use Rattle.mw_words.specs.declared.replies.Reply.TheVariants.{Val, Yes, No, Busy as SaysBusy, Fault}
use Rattle.mw_words.specs.Change.{word_at, fits, put, is_well_formed}
use Rattle.mw_words.specs.declared.limits.TheConstants.{MAX_QUOTA}
use Rattle.mw_lone.specs.declared.marks.Mark.{Mark}
use Rattle.mw_lone.specs.declared.marks.Mark.TheVariants.{Ask, Admit, Busy, Look, Miss, Seal, SealFail, FileFail, GiveUp, Retire, Reply as HandOut, Restart}

-- A request that was asked since the last start, and how far it has come.
pub record RequestState : Type 0 where
  pub job : Job
  -- it was admitted: one of the tenant's slots was counted for it
  pub admitted : Bool
  -- its reply, from when it is decided; it may not be handed out yet
  pub placed : Option Reply
  -- its slot was given back
  pub retired : Bool
  -- its reply was handed out
  pub handed : Bool

-- One tenant's store.
pub record Store : Type 0 where
  -- at each address, the value of the word there
  pub words : List ℕ
  -- how many slots the tenant may use at a time, and how many it uses
  pub quota : ℕ
  pub used : ℕ
  -- the number of the next request
  pub next : ℕ
  -- the requests asked since the last start, each under its number
  pub requests : map.FinMap nat_cmp RequestState
  -- the tenant's file has failed, or didn't open at the last start
  pub faulted : Bool
  -- the change that a failed file left in doubt; empty: nothing is in doubt
  pub in_doubt : List Entry

-- a store with these words, of which nothing was asked
abbrev pub new_store : List ℕ → ℕ → Store
new_store words quota = record { words = words; quota = quota; used = 0; next = 0; requests = map.empty; faulted = false; in_doubt = [] }

-- the same, and its file has failed or hasn't
abbrev pub first_store : List ℕ → ℕ → Bool → Store
first_store words quota faulted = record (new_store words quota) { faulted = faulted }

-- the request of this number, if it was asked
abbrev pub request : Store → ℕ → Option RequestState
request s n = map.get s.requests n

-- the store with this request under that number
abbrev pub with_request : Store → ℕ → RequestState → Store
with_request s n r = record s { requests = map.insert s.requests n r }

-- the store in which this request has this reply
abbrev pub with_reply : Store → ℕ → RequestState → Reply → Store
with_reply s n r reply = with_request s n (record r { placed = Some reply })

-- a job's entries; a read has none
abbrev pub entries_of : Job → List Entry
entries_of (Get addr) = []
entries_of (Cas entries) = entries.items

-- the job is a change
abbrev pub is_cas : Job → Bool
is_cas (Get addr) = false
is_cas (Cas entries) = true

-- the list is empty
abbrev pub is_empty : List Entry → Bool
is_empty [] = true
is_empty (e ∷ es) = false

-- it is a change that has neither a slot nor a reply
abbrev pub is_waiting : RequestState → Bool
is_waiting r = is_cas r.job && not r.admitted && is_none r.placed

-- it has a slot and no reply yet
abbrev pub is_under_way : RequestState → Bool
is_under_way r = r.admitted && is_none r.placed

-- What each mark does to the store and its request, if it was asked. None: the mark is illegal.

-- a slot is counted for a change that has neither a slot nor a reply
abbrev pub admit : Store → ℕ → RequestState → Option Store
admit s n r =
    if is_waiting r && not s.faulted && nat_lt s.used s.quota
    then Some (record (with_request s n (record r { admitted = true })) { used = s.used + 1 })
    else None

-- a change that has neither finds the quota used up
abbrev pub refuse_busy : Store → ℕ → RequestState → Option Store
refuse_busy s n r =
    if is_waiting r && not s.faulted && (s.used == s.quota)
    then Some (with_reply s n r SaysBusy)
    else None

-- a read that has no reply is answered with the word's value
abbrev pub look_at : Store → ℕ → RequestState → Job → Option Store
look_at s n r (Get addr) = if is_none r.placed then Some (with_reply s n r (Val (word_at s.words addr))) else None
look_at s n r (Cas entries) = None

-- a change under way is refused at an entry whose word doesn't have the expected value
abbrev pub miss_at : Store → ℕ → RequestState → Option Entry → Option Store
miss_at s n r None = None
miss_at s n r (Some e) =
    if is_under_way r && not (word_at s.words e.addr == e.expected)
    then Some (with_reply s n r (No e.addr (word_at s.words e.addr)))
    else None

-- a change under way could be written now: each word has the expected value, and the file has not failed
abbrev pub may_be_written : List ℕ → Bool → RequestState → Bool
may_be_written words faulted r = is_under_way r && not faulted && fits words (entries_of r.job)

-- a request of this store could be written now
abbrev pub may_seal : Store → RequestState → Bool
may_seal s r = may_be_written s.words s.faulted r

-- a change is written, all of it
abbrev pub seal : Store → ℕ → RequestState → Option Store
seal s n r =
    if may_seal s r
    then Some (record (with_reply s n r Yes) { words = put s.words (entries_of r.job) })
    else None

-- the file fails while it writes a change, which stays in doubt
abbrev pub fail_seal : Store → ℕ → RequestState → Option Store
fail_seal s n r =
    if may_seal s r
    then Some (record (with_reply s n r Fault) { faulted = true; in_doubt = entries_of r.job })
    else None

-- a request without a reply is answered that the file has failed
abbrev pub give_up : Store → ℕ → RequestState → Option Store
give_up s n r = if s.faulted && is_none r.placed then Some (with_reply s n r Fault) else None

-- a change that has its reply gives its slot back, once
abbrev pub retire : Store → ℕ → RequestState → Option Store
retire s n r =
    if r.admitted && is_some r.placed && not r.retired
    then Some (record (with_request s n (record r { retired = true })) { used = s.used - 1 })
    else None

-- a reply is handed out, once
abbrev pub hand_out : Store → ℕ → RequestState → Option Store
hand_out s n r =
    if is_some r.placed && not r.handed
    then Some (with_request s n (record r { handed = true }))
    else None

-- this change may have been interrupted while it was written; if none was interrupted, nothing is required
abbrev pub may_be_interrupted : Store → Option ℕ → Bool
may_be_interrupted s None = true
may_be_interrupted s (Some n) = option_map_or (may_seal s) (request s n) false

-- there is a change in doubt that a start may find: the interrupted one, else the one that a failed file left
abbrev pub has_in_doubt : Store → Option ℕ → Bool
has_in_doubt s None = not (is_empty s.in_doubt)
has_in_doubt s (Some n) = true

-- the change in doubt
abbrev pub entries_in_doubt : Store → Option ℕ → List Entry
entries_in_doubt s None = s.in_doubt
entries_in_doubt s (Some n) = option_map_or (λ r. entries_of r.job) (request s n) []

-- a quota that a tenant may have, as far as its store alone can tell
abbrev pub is_quota : ℕ → Bool
is_quota quota = nat_le 1 quota && nat_le quota MAX_QUOTA

-- The store after a start, with these words and this quota. No request is left, but the numbers go on.
abbrev pub store_after_start : Store → List ℕ → Bool → ℕ → Store
store_after_start s words opened quota = record s {
  words = words;
  quota = quota;
  used = 0;
  requests = map.empty;
  faulted = not opened;
  in_doubt = [];
}

-- All stops and starts again, with a quota. The start finds all of the change in doubt, or nothing of it.
abbrev pub restart : Store → Option ℕ → Bool → Bool → ℕ → Option Store
restart s interrupted take opened quota =
    if may_be_interrupted s interrupted && (not take || has_in_doubt s interrupted) && is_quota quota
    then Some (store_after_start s (if take then put s.words (entries_in_doubt s interrupted) else s.words) opened quota)
    else None

-- a request that has just come
abbrev pub asked : Job → RequestState
asked job = record { job = job; admitted = false; placed = None; retired = false; handed = false }

-- a request comes under the next number
abbrev pub ask : Store → ℕ → Job → Option Store
ask s n job =
    if (n == s.next) && is_well_formed (length s.words) job
    then Some (record (with_request s n (asked job)) { next = s.next + 1 })
    else None

-- The store after a mark. None: the mark is illegal.
abbrev pub step : Store → Mark → Option Store
step s (Ask n job) = ask s n job
step s (Admit n) = option_and_then (admit s n) (request s n)
step s (Busy n) = option_and_then (refuse_busy s n) (request s n)
step s (Look n) = option_and_then (λ r. look_at s n r r.job) (request s n)
step s (Miss n i) = option_and_then (λ r. miss_at s n r (slice_get (entries_of r.job) i)) (request s n)
step s (Seal n) = option_and_then (seal s n) (request s n)
step s (SealFail n) = option_and_then (fail_seal s n) (request s n)
step s FileFail = if s.faulted then None else Some (record s { faulted = true })
step s (GiveUp n) = option_and_then (give_up s n) (request s n)
step s (Retire n) = option_and_then (retire s n) (request s n)
step s (HandOut n) = option_and_then (hand_out s n) (request s n)
step s (Restart interrupted take opened quota) = restart s interrupted take opened quota

-- the reply that a request still has to give
abbrev pub due_reply : RequestState → Option Reply
due_reply r = if r.handed then None else r.placed

-- the reply that a mark hands out, with its request's number; at an illegal mark nothing is handed out
abbrev pub outgoing : Store → Mark → Option (ℕ × Reply)
outgoing s (HandOut n) = option_map (λ reply. (n, reply)) (option_and_then due_reply (request s n))
outgoing s (Ask n job) = None
outgoing s (Admit n) = None
outgoing s (Busy n) = None
outgoing s (Look n) = None
outgoing s (Miss n i) = None
outgoing s (Seal n) = None
outgoing s (SealFail n) = None
outgoing s FileFail = None
outgoing s (GiveUp n) = None
outgoing s (Retire n) = None
outgoing s (Restart interrupted take opened quota) = None

-- the store after a list of marks; None: one of them is illegal in the store after those before it
abbrev pub run : Store → List Mark → Option Store
run s [] = Some s
run s (mark ∷ marks) = option_and_then (λ t. run t marks) (step s mark)

-- these marks, in this order, can happen to a store with these words and this quota, whose file has failed from the
-- start or hasn't
abbrev pub IsLegalRun : List ℕ → ℕ → Bool → List Mark → Type 0
IsLegalRun words quota faulted marks = IsSome (run (first_store words quota faulted) marks)

-- the replies that a list of marks hands out, each with its request's number, in order
abbrev pub replies_from : Store → List Mark → List (ℕ × Reply)
replies_from s [] = []
replies_from s (mark ∷ marks) =
    option_to_list (outgoing s mark) ++ unwrap_or (option_map (λ t. replies_from t marks) (step s mark)) []

-- the same for a store with these words and this quota, whose file has failed from the start or hasn't
abbrev pub replies : List ℕ → ℕ → Bool → List Mark → List (ℕ × Reply)
replies words quota faulted marks = replies_from (first_store words quota faulted) marks
