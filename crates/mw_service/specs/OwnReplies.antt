-- Defines that each reply to a session that borrows its passes (handles to the engine) comes with the token of its own
-- request. No two borrowers have one token (specs/RequestTokens), so no two are told the reply to one request.
-- Used by: src/idle_pass.rt, src/locked_passes.rt, src/pass_pool.rt, src/read_pool.rt, src/borrower.rt,
-- src/request_tokens.rt, src/laws.rt, mw_law_threads. A change here changes what a client is promised that shares the
-- workers with others.
use Rattle.std.specs.Prelude.{ℕ, ◌+◌, ◌≡◌, List, [], ◌∷◌, ◌++◌, Option}
use Rattle.mw_words.specs.declared.jobs.Job.{Job}
use Rattle.mw_words.specs.declared.replies.Reply.{Reply}
use Rattle.mw_session.specs.Talk.{Call, Finds, Asks, Counts}
use Rattle.mw_rule.specs.declared.views.WorkerEvent.{WorkerEvent}
use Rattle.mw_rule.specs.declared.views.WorkerEvent.TheVariants.{Came, Stepped, Called, Handed}
use Rattle.mw_rule.specs.declared.views.WorkerToken.{WorkerToken}
use Rattle.mw_rule.specs.Rule.{events_of_worker}
use Rattle.mw_engine.specs.Brand.{Identity}
use Rattle.mw_engine.specs.FromBelow.{Note, Pass, View}
use Rattle.mw_engine.specs.History.{IsAnswered}
use Rattle.mw_service.specs.declared.token_views.RequestToken.{RequestToken}
use Rattle.mw_service.specs.Borrowed.{AnswersWith, IsAnsweredBy, IsAnsweredWith}
use Rattle.mw_service.specs.RequestTokens.{token_of}

-- 1 if a request came to the worker, else 0
abbrev pub comes_with : WorkerEvent → ℕ
comes_with Came = 1
comes_with Stepped = 0
comes_with Called = 0
comes_with Handed = 0

-- how many requests came to a worker that did this
abbrev pub came_in : List WorkerEvent → ℕ
came_in [] = 0
came_in (event ∷ rest) = comes_with event + came_in rest

-- how many requests came to the workers of these, since the shared words were made
abbrev pub came_to : List WorkerToken → ℕ
came_to [] = 0
came_to (one ∷ rest) = came_in one.made + came_to rest

-- The token of a request that was answered: it names the worker that served it, and tells how many requests had come to this worker before,
-- in the run that the pass knows.
abbrev pub token_for : {first now : View} {tenant : ℕ} {job : Job} {reply : Reply} → IsAnswered first now tenant job reply → RequestToken
token_for one = token_of one.token.worker (came_in (events_of_worker one.token.worker one.run.arrival.until))

-- A session's job was answered with this pass, and just the token of this request is given out.
abbrev pub IsAnsweredOwnBy : Identity → Pass → Pass → Option Note → ℕ → Job → Reply → Option Note → List RequestToken → Type 0
IsAnsweredOwnBy identity before after old tenant job reply new tokens = (its : IsAnsweredBy identity before after old tenant job reply new) × (tokens ≡ token_for its.answered ∷ [])

-- The same with some pass of this engine.
abbrev pub IsAnsweredOwnWith : Identity → Option Note → ℕ → Job → Reply → Option Note → List RequestToken → Type 0
IsAnsweredOwnWith identity old tenant job reply new tokens = (its : IsAnsweredWith identity old tenant job reply new) × (tokens ≡ token_for its.2.answered ∷ [])

-- What a session keeps: a note of what it has seen, and the tokens of the requests that it was answered.
pub record Kept : Type 0 where
  pub note : Option Note
  pub tokens : List RequestToken

-- With the reply to a job the session gets the token of the very request that was answered so, beside those that it had. Else it gets none.
abbrev pub GetsToken : (identity : Identity) (old : Option Note) (call : Call) (new : Option Note) → AnswersWith identity old call new → List RequestToken → List RequestToken → Type 0
GetsToken identity old (Finds name found) new its had has = has ≡ had
GetsToken identity old (Asks tenant job reply) new its had has = has ≡ had ++ token_for its.2.answered ∷ []
GetsToken identity old (Counts figures) new its had has = has ≡ had

-- The answer to a call of a session, by what it kept before and after it: as its notes tell (`AnswersWith`), and with the request's token.
abbrev pub AnswersOwn : Identity → Kept → Call → Kept → Type 0
AnswersOwn identity old call new = (its : AnswersWith identity old.note call new.note) × GetsToken identity old.note call new.note its old.tokens new.tokens
