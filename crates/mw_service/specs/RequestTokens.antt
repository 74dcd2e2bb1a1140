-- Defines the rule of request tokens: no two threads have the token of one request. A token names a request by the worker
-- that served it, and by how many requests had come to this worker before.
-- Used by: src/token_rule.rt, src/request_tokens.rt, src/idle_pass.rt, mw_law_threads. A change here changes what a client is
-- promised that shares the workers with others.
use Rattle.std.specs.Prelude.{ℕ, ◌+◌, ◌≡◌, ◌≤◌, ◌==◌, ◌&&◌, Bool, not, nat_lt, List, [], ◌∷◌, ◌++◌, length, slice_index, Option, Some, None}
use Rattle.atomic_table.specs.Table.{Me, State, Step}
use Rattle.atomic_table.specs.Seated.{TableId}
use Rattle.mw_rule.specs.Rule.{weight}
use Rattle.mw_service.specs.declared.request_tokens.TheConstants.{WORKERS}
use Rattle.mw_service.specs.declared.token_views.RequestToken.{RequestToken}
use Rattle.mw_service.specs.declared.token_views.WorkerSource.{WorkerSource}
use Rattle.mw_service.specs.declared.token_views.TokenView.{TokenView}

-- the token of the request that came to this worker after so many others
abbrev pub token_of : ℕ → ℕ → RequestToken
token_of worker number = record { worker = worker; number = number }

-- a thread that has nothing
abbrev pub no_tokens : TokenView
no_tokens = record { source = None; tokens = [] }

-- one that has the source of this worker's tokens from this number on
abbrev pub source_of : ℕ → ℕ → TokenView
source_of worker next = record { source = Some (record { worker = worker; next = next }); tokens = [] }

-- it is the token of this request
abbrev pub is_token_of : ℕ → ℕ → RequestToken → Bool
is_token_of worker number token = (token.worker == worker) && (token.number == number)

-- how often that token is in a list
abbrev pub times_in : ℕ → ℕ → List RequestToken → ℕ
times_in worker number [] = 0
times_in worker number (token ∷ rest) = weight (is_token_of worker number token) + times_in worker number rest

-- 1 if the source has yet to give that token out, else 0
abbrev pub to_come : ℕ → ℕ → Option WorkerSource → ℕ
to_come worker number None = 0
to_come worker number (Some source) = weight ((source.worker == worker) && not (nat_lt number source.next))

-- how often a thread has that token, given out or not
abbrev pub times_had : ℕ → ℕ → TokenView → ℕ
times_had worker number view = to_come worker number view.source + times_in worker number view.tokens

-- the sum of a count over all threads
abbrev pub total_of : (TokenView → ℕ) → List TokenView → ℕ
total_of count [] = 0
total_of count (view ∷ views) = count view + total_of count views

-- The rule. The table has a word for each worker. While it is 0, nobody has a token of this worker. No two threads have one token, and
-- none has it twice.
pub record AreOwn (s : State ℕ TokenView) : Type 0 where
  pub long : length s.words ≡ WORKERS
  pub none : (worker number : ℕ) → slice_index s.words worker ≡ 0 → total_of (times_had worker number) s.views ≡ 0
  pub once : (worker number : ℕ) → total_of (times_had worker number) s.views ≤ 1

-- A thread that comes has nothing.
abbrev pub came : Step ℕ → Me ℕ TokenView → ℕ → Me ℕ TokenView → Type 0
came step before found after = after ≡ (no_tokens, [])

-- A thread that found 0 has taken the source of this worker's tokens, from this number on.
abbrev pub took_source : ℕ → Step ℕ → Me ℕ TokenView → ℕ → Me ℕ TokenView → Type 0
took_source first step before found after = found ≡ 0 → after ≡ (source_of step.word first, [])

-- the source after it gave the next token out
abbrev pub later : Option WorkerSource → Option WorkerSource
later None = None
later (Some source) = Some (record { worker = source.worker; next = source.next + 1 })

-- the next token of the source
abbrev pub next_of : Option WorkerSource → List RequestToken
next_of None = []
next_of (Some source) = token_of source.worker source.next ∷ []

-- what is left of a thread whose source gave a token out
abbrev pub after_next : TokenView → TokenView
after_next view = record { source = later view.source; tokens = view.tokens }

-- what it gave out
abbrev pub with_next : TokenView → TokenView
with_next view = record { source = None; tokens = next_of view.source }

-- a thread with another's tokens added to its own
abbrev pub with_more : TokenView → TokenView → TokenView
with_more view other = record { source = view.source; tokens = view.tokens ++ other.tokens }

-- the table of nobody
abbrev pub no_table : TableId
no_table = record { words = 0; slots = 0; views_name = 0; atom = 0; block = 0; offset = 0; slot_names = [] }
