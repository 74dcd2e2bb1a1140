-- A request that is sent again after each `BUSY` gives what the last reply means. A change that was made was answered `YES`.
-- Used by: Client::change_patiently, Client::confirm.
use Rattle.std.proofs.Common.{◌≡◌, ℕ, suc, Bool, true, false, cond, List, [], ◌++◌, Option, Some, None, Result, Ok, Err, inl, inr, refl, sym, ap, subst, ◌∙◌, append-nil, append_assoc}
use Rattle.std.specs.Io.KnownBytes.{Appends, Consumes}
use Rattle.mw_words.specs.declared.jobs.Entry.{Entry}
use Rattle.mw_words.specs.declared.replies.Reply.TheVariants as reply
use Rattle.mw_line.specs.declared.requests.Request.{Request}
use Rattle.mw_line.specs.declared.replies.Say.{Say}
use Rattle.mw_line.specs.declared.replies.Say.TheVariants as say
use Rattle.mw_client.specs.declared.meanings.Failure.{Failure}
use Rattle.mw_client.specs.declared.meanings.Failure.TheVariants as failure
use Rattle.mw_client.specs.declared.meanings.Outcome.{Outcome}
use Rattle.mw_client.specs.declared.meanings.Outcome.TheVariants as outcome
use Rattle.mw_client.specs.Exchanges.{Exchanged, IsAnswered, IsAnsweredAtLast, IsRepeated, outcome_told, differs, is_busy}

-- ---- the bytes

nothing_sent : (a : Option (List ℕ)) → Appends a a []
nothing_sent (Some xs) = sym (append-nil xs)
nothing_sent None = tt

nothing_read : (a : Option (List ℕ)) → Consumes a a []
nothing_read (Some xs) = refl
nothing_read None = tt

sent_then : (a b c : Option (List ℕ)) (s t : List ℕ) → Appends a b s → Appends b c t → Appends a c (s ++ t)
sent_then None b c s t h g = tt
sent_then (Some xs) None c s t h g = absurd h
sent_then (Some xs) (Some ys) None s t h g = absurd g
sent_then (Some xs) (Some ys) (Some zs) s t h g = g ∙ ap (λ (v : List ℕ). v ++ t) h ∙ simp append_assoc

read_then : (a b c : Option (List ℕ)) (s t : List ℕ) → Consumes a b s → Consumes b c t → Consumes a c (s ++ t)
read_then None b c s t h g = tt
read_then (Some xs) None c s t h g = absurd h
read_then (Some xs) (Some ys) None s t h g = absurd g
read_then (Some xs) (Some ys) (Some zs) s t h g = h ∙ ap (λ (v : List ℕ). s ++ v) g ∙ simp append_assoc

abbrev is_made : Result Outcome Failure → Bool
is_made (Ok outcome.Made) = true
is_made other = false

-- ---- a busy server

busy_at : (b : Bool) (a v : ℕ) → is_busy (cond b (Ok (outcome.Differs a v)) (Err failure.MadeOrNot)) ≡ true → ⊥
busy_at true a v h = absurd cc
busy_at false a v h = absurd cc

busy_said : (es : List Entry) (s : Say) → is_busy (outcome_told es s) ≡ true → s ≡ say.Store reply.Busy
busy_said es (say.Store reply.Busy) h = refl
busy_said es (say.Store reply.Yes) h = absurd cc
busy_said es (say.Store (reply.No a v)) h = absurd (busy_at (differs es a v) a v h)
busy_said es (say.Store (reply.Val v)) h = absurd cc
busy_said es (say.Store reply.Fault) h = absurd cc
busy_said es (say.Store reply.Worn) h = absurd cc
busy_said es (say.Err wrong) h = absurd cc
busy_said es (say.Ok words) h = absurd cc
busy_said es say.OkAdmin h = absurd cc
busy_said es say.Bye h = absurd cc

-- the request was sent so many times, and was answered BUSY each time
abbrev pub InVain : Option (List ℕ) → Option (List ℕ) → Option (List ℕ) → Option (List ℕ) → Request → Type 0
InVain left new_left taken new_taken asked = (times : ℕ) × IsRepeated times left new_left taken new_taken asked (say.Store reply.Busy)

pub none_yet : (left taken : Option (List ℕ)) (asked : Request) → InVain left left taken taken asked
none_yet left taken asked = (0, record { sent = nothing_sent taken; heard = nothing_read left })

pub once_more : (left mid new_left taken mid_taken new_taken : Option (List ℕ)) (asked : Request) (es : List Entry) (result : Result Outcome Failure) → InVain left mid taken mid_taken asked → IsAnswered (Exchanged mid new_left mid_taken new_taken asked) (outcome_told es) failure.MadeOrNot result → is_busy result ≡ true → InVain left new_left taken new_taken asked
once_more left mid new_left taken mid_taken new_taken asked es result before (inl told) busy =
    let said : told.0 ≡ say.Store reply.Busy = busy_said es told.0 (ap is_busy (sym told.2) ∙ busy) in
    let heard : Exchanged mid new_left mid_taken new_taken asked (say.Store reply.Busy) = subst (Exchanged mid new_left mid_taken new_taken asked) said told.1 in (
      suc before.0,
      record {
        sent = sent_then taken mid_taken new_taken _ _ before.1.sent heard.sent;
        heard = read_then left mid new_left _ _ before.1.heard heard.heard;
      },
    )
once_more left mid new_left taken mid_taken new_taken asked es result before (inr gone) busy = absurd cc

pub at_last : {A : Type 0} (left mid new_left taken mid_taken new_taken : Option (List ℕ)) (asked : Request) (means : Say → Result A Failure) (gone : Failure) (result : Result A Failure) → InVain left mid taken mid_taken asked → IsAnswered (Exchanged mid new_left mid_taken new_taken asked) means gone result → IsAnsweredAtLast left new_left taken new_taken asked means gone result
at_last left mid new_left taken mid_taken new_taken asked means gone result before told = record {
  times = before.0;
  left_then = mid;
  taken_then = mid_taken;
  in_vain = before.1;
  answered = told;
}

-- ---- a change that was made

made_at : (b : Bool) (a v : ℕ) → is_made (cond b (Ok (outcome.Differs a v)) (Err failure.MadeOrNot)) ≡ true → ⊥
made_at true a v h = absurd cc
made_at false a v h = absurd cc

made_said : (es : List Entry) (s : Say) → is_made (outcome_told es s) ≡ true → s ≡ say.Store reply.Yes
made_said es (say.Store reply.Yes) h = refl
made_said es (say.Store reply.Busy) h = absurd cc
made_said es (say.Store (reply.No a v)) h = absurd (made_at (differs es a v) a v h)
made_said es (say.Store (reply.Val v)) h = absurd cc
made_said es (say.Store reply.Fault) h = absurd cc
made_said es (say.Store reply.Worn) h = absurd cc
made_said es (say.Err wrong) h = absurd cc
made_said es (say.Ok words) h = absurd cc
made_said es say.OkAdmin h = absurd cc
made_said es say.Bye h = absurd cc

pub answered_yes : (Heard : Say → Type 0) (es : List Entry) (result : Result Outcome Failure) → IsAnswered Heard (outcome_told es) failure.MadeOrNot result → result ≡ Ok outcome.Made → Heard (say.Store reply.Yes)
answered_yes Heard es result (inl told) made =
    subst Heard (made_said es told.0 (ap is_made (sym told.2) ∙ ap is_made made)) told.1
answered_yes Heard es result (inr gone) made =
    let both : false ≡ true = ap is_made (sym gone) ∙ ap is_made made in
    absurd cc
