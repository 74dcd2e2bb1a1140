-- Defines what a client sends and reads for a request, and what each of its calls makes of the reply.
-- Used by: client.rt, administrator.rt, conversation.rt, report.rt, meanings.rt. A new reply (Say) needs a case in
-- failure_of.
use Rattle.std.specs.Prelude.{◌≡◌, ℕ, zero, suc, ◌++◌, ◌==◌, ◌&&◌, ◌⊎◌, Bool, true, false, not, List, [], if◌then◌else◌, Option, Result, Ok, Err}
use Rattle.std.specs.List.{list_any}
use Rattle.std.specs.Io.KnownBytes.{Appends, Consumes}
use Rattle.arrayvec.specs.ArrayVec.{ArrayVec}
use Rattle.mw_words.specs.declared.limits.TheConstants.{MAX_WORDS}
use Rattle.mw_words.specs.declared.jobs.Entry.{Entry}
use Rattle.mw_words.specs.declared.jobs.Job.{Job}
use Rattle.mw_words.specs.declared.jobs.Job.TheVariants as job
use Rattle.mw_line.specs.declared.requests.Request.TheVariants as request
use Rattle.mw_words.specs.Change.{is_well_formed}
use Rattle.mw_words.specs.declared.replies.Reply.TheVariants as reply
use Rattle.mw_line.specs.declared.requests.Request.{Request}
use Rattle.mw_line.specs.declared.replies.Say.{Say}
use Rattle.mw_line.specs.declared.replies.Say.TheVariants as say
use Rattle.mw_line.specs.Replies.{text_of}
use Rattle.mw_report.specs.declared.figures.Figures.{Figures}
use Rattle.mw_report.specs.Table.{report}
use Rattle.mw_client.specs.RequestLines.{request_line}
use Rattle.mw_client.specs.ReplyGrammar.{IsReply}
use Rattle.mw_client.specs.declared.meanings.Failure.{Failure}
use Rattle.mw_client.specs.declared.meanings.Failure.TheVariants as failure
use Rattle.mw_client.specs.declared.meanings.Outcome.{Outcome}
use Rattle.mw_client.specs.declared.meanings.Outcome.TheVariants as outcome

-- The line of a request was appended to what the writer had taken, and then just the text of this reply was read from
-- what the reader had left.
pub record Exchanged (left new_left taken new_taken : Option (List ℕ)) (asked : Request) (said : Say) : Type 0 where
  pub sent : Appends taken new_taken (request_line asked)
  pub heard : Consumes left new_left (text_of said)
  pub reply : IsReply said

-- a tenant with so many words may ask for this
abbrev pub may_ask : ℕ → Job → Bool
may_ask words wanted = is_well_formed MAX_WORDS wanted && is_well_formed words wanted

-- why a call failed that got this reply; `gone` if the reply is no answer to the call
abbrev pub failure_of : Failure → Say → Failure
failure_of gone (say.Store reply.Busy) = failure.Busy
failure_of gone (say.Store reply.Fault) = failure.Fault
failure_of gone (say.Store reply.Worn) = failure.Worn
failure_of gone (say.Err wrong) = failure.Refused wrong
failure_of gone (say.Store reply.Yes) = gone
failure_of gone (say.Store (reply.Val value)) = gone
failure_of gone (say.Store (reply.No addr value)) = gone
failure_of gone (say.Ok words) = gone
failure_of gone say.OkAdmin = gone
failure_of gone say.Bye = gone

-- what a reply to a read means: the word's value
abbrev pub value_told : Say → Result ℕ Failure
value_told (say.Store (reply.Val value)) = Ok value
value_told other = Err (failure_of failure.Lost other)

-- one of the entries is for this address and expects another value
abbrev pub differs : List Entry → ℕ → ℕ → Bool
differs entries addr value = list_any (λ e. e.addr == addr && not (e.expected == value)) entries

-- What a reply to a change means: the change was made, or a word of it had another value than the expected one.
abbrev pub outcome_told : List Entry → Say → Result Outcome Failure
outcome_told entries (say.Store reply.Yes) = Ok outcome.Made
outcome_told entries (say.Store (reply.No addr value)) =
    if differs entries addr value then Ok (outcome.Differs addr value) else Err failure.MadeOrNot
outcome_told entries other = Err (failure_of failure.MadeOrNot other)

-- The call asked this and gives what the reply means; or the connection is gone, and the call gives this failure.
abbrev pub IsAnswered : {A : Type 0} → (Say → Type 0) → (Say → Result A Failure) → Failure → Result A Failure → Type 0
IsAnswered Heard means gone result = ((said : Say) × Heard said × (result ≡ means said)) ⊎ (result ≡ Err gone)

-- the tenant has too many changes under way
abbrev pub is_busy : Result Outcome Failure → Bool
is_busy (Err failure.Busy) = true
is_busy other = false

-- a text, so many times in a row
abbrev pub repeated : ℕ → List ℕ → List ℕ
repeated zero text = []
repeated (suc n) text = repeated n text ++ text

-- The line of a request was sent so many times, and each time the text of this reply was read.
pub record IsRepeated (times : ℕ) (left new_left taken new_taken : Option (List ℕ)) (asked : Request) (said : Say) : Type 0 where
  pub sent : Appends taken new_taken (repeated times (request_line asked))
  pub heard : Consumes left new_left (repeated times (text_of said))

-- The call sent the request so many times and was answered BUSY each time. Then it sent it once more, and gives what
-- the last reply means; or the connection is gone then.
pub record IsAnsweredAtLast {A : Type 0} (left new_left taken new_taken : Option (List ℕ)) (asked : Request) (means : Say → Result A Failure) (gone : Failure) (result : Result A Failure) : Type 0 where
  pub times : ℕ
  pub left_then : Option (List ℕ)
  pub taken_then : Option (List ℕ)
  pub in_vain : IsRepeated times left left_then taken taken_then asked (say.Store reply.Busy)
  pub answered : IsAnswered (Exchanged left_then new_left taken_then new_taken asked) means gone result

-- the entry writes the value that it expects
abbrev pub keeps : Entry → Bool
keeps e = e.expected == e.new

-- The change of these entries was the last request that was sent, and it was answered YES.
pub record IsConfirmed (new_left new_taken : Option (List ℕ)) (entries : ArrayVec Entry) : Type 0 where
  pub left_then : Option (List ℕ)
  pub taken_then : Option (List ℕ)
  pub yes : Exchanged left_then new_left taken_then new_taken (request.Job (job.Cas entries)) (say.Store reply.Yes)

-- The report was asked for, and then just the text of these figures was read.
pub record Reported (left new_left taken new_taken : Option (List ℕ)) (figures : Figures) : Type 0 where
  pub sent : Appends taken new_taken (request_line request.Report)
  pub heard : Consumes left new_left (report figures.tenants.items figures.pool_free)

-- If what was read before is the old text, and all went well, then what was read by now is the new text.
abbrev pub GoesOn : Bool → Option (List ℕ) → Option (List ℕ) → List ℕ → List ℕ → Type 0
GoesOn went left new_left text new_text = (first : Option (List ℕ)) → Consumes first left text → went ≡ true → Consumes first new_left new_text
