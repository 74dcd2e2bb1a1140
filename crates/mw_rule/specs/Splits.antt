-- Defines what the first thread of a table knows, and how threads split and merge what they know.
-- Used by: src/rule.rt, mw_table, mw_law_threads. A change here changes the contracts of mw_table.
use Rattle.std.specs.Prelude.{ℕ, zero, suc, ◌+◌, ◌==◌, cond, true, false, List, [], ◌∷◌, ◌++◌, Option, None}
use Rattle.mw_world.specs.declared.config.Config.{Config}
use Rattle.mw_world.specs.Definition.State.{TenantStart, WorkerState}
use Rattle.mw_rule.specs.KnownRuns.{KnownRun}
use Rattle.mw_rule.specs.declared.views.Finished.{Finished}
use Rattle.mw_rule.specs.declared.views.HeldFile.{HeldFile}
use Rattle.mw_rule.specs.declared.views.WorkerToken.{WorkerToken}
use Rattle.mw_rule.specs.declared.views.View.{View}

-- A worker's token when the table is made. It doesn't know what was sealed when the request came, nor what the
-- request's steps found.
abbrev pub token_of : ℕ → WorkerState → WorkerToken
token_of worker worker_state = record { worker = worker; actor = worker_state.actor; attempt = worker_state.attempt; made = []; request = worker_state.request; begun = 0; found = []; is_whole = false }

-- the tokens of so many workers, from a first one on
abbrev pub tokens_from : (ℕ → WorkerState) → ℕ → ℕ → List WorkerToken
tokens_from worker_states first zero = []
tokens_from worker_states first (suc left) = token_of first (worker_states first) ∷ tokens_from worker_states (first + 1) left

-- What a thread knows that has seen nothing sealed: what the latest start gave, this run, these tokens and these files.
abbrev pub knows : Config → List TenantStart → Option KnownRun → List WorkerToken → List HeldFile → View
knows config openings known_run token files = record {
  config = config;
  openings = openings;
  tokens = token;
  seen = [];
  told = [];
  known_run = known_run;
  learned_run = None;
  mine = [];
  files = files;
  plain_loads = [];
  is_spent = false;
}

-- What the first thread knows: it has the tokens of all workers, and these files.
abbrev pub maker : Config → List TenantStart → Option KnownRun → (ℕ → WorkerState) → List HeldFile → View
maker config openings known_run worker_states files = knows config openings known_run (tokens_from worker_states 0 config.workers) files

-- the first token
abbrev pub head_of : List WorkerToken → List WorkerToken
head_of [] = []
head_of (one ∷ rest) = one ∷ []

-- the other tokens
abbrev pub rest_of : List WorkerToken → List WorkerToken
rest_of [] = []
rest_of (one ∷ rest) = rest

-- the requests that this worker finished
abbrev pub of_worker : ℕ → List Finished → List Finished
of_worker worker [] = []
of_worker worker (one ∷ mine) = cond (one.worker == worker) (one ∷ of_worker worker mine) (of_worker worker mine)

-- the requests that other workers finished
abbrev pub of_others : ℕ → List Finished → List Finished
of_others worker [] = []
of_others worker (one ∷ mine) = cond (one.worker == worker) (of_others worker mine) (one ∷ of_others worker mine)

-- the requests that the first token's worker finished
abbrev pub of_head : List WorkerToken → List Finished → List Finished
of_head [] mine = []
of_head (one ∷ rest) mine = of_worker one.worker mine

-- the requests that other workers finished
abbrev pub of_rest : List WorkerToken → List Finished → List Finished
of_rest [] mine = mine
of_rest (one ∷ rest) mine = of_others one.worker mine

-- The part that a thread gives away: its first token, with the requests that its worker finished, and no file.
abbrev pub dealt : View → View
dealt view = record view { tokens = head_of view.tokens; mine = of_head view.tokens view.mine; files = [] }

-- The part that the thread keeps.
abbrev pub left_over : View → View
left_over view = record view { tokens = rest_of view.tokens; mine = of_rest view.tokens view.mine }

-- A note: what the thread has seen, without tokens, finished requests and files.
abbrev pub note : View → View
note view = record view { tokens = []; mine = []; files = []; is_spent = false }

-- The thread is told what another's note says: the changes that the other saw, and the run that it knew.
abbrev pub learns : View → View → View
learns view other = record view { told = other.seen; learned_run = other.known_run }

-- The thread takes what another's note says as seen by itself: the changes, and the run, which may be longer than its own.
abbrev pub meets : View → View → View
meets view other = record view { seen = other.seen; told = other.seen; known_run = other.known_run; learned_run = other.known_run }

-- The thread merges all that another knew, which had seen no less: its tokens, finished requests and files, the
-- changes that it saw, and its run, which may be longer. Its own are first.
abbrev pub merges : View → View → View
merges view other = record view {
  tokens = view.tokens ++ other.tokens;
  seen = other.seen;
  told = other.seen;
  known_run = other.known_run;
  learned_run = other.known_run;
  mine = view.mine ++ other.mine;
  files = view.files ++ other.files;
}

-- the first file
abbrev pub first_held : List HeldFile → List HeldFile
first_held [] = []
first_held (one ∷ rest) = one ∷ []

-- the other files
abbrev pub other_held : List HeldFile → List HeldFile
other_held [] = []
other_held (one ∷ rest) = rest

-- The part that a thread gives away: its first file, with a note of what was seen.
abbrev pub with_file_given : View → View
with_file_given view = record view { tokens = []; mine = []; files = first_held view.files; is_spent = false }

-- The part that the thread keeps.
abbrev pub without_file : View → View
without_file view = record view { files = other_held view.files }

-- The thread takes another's files and learns the run that the other knew; nothing else of the other is kept.
abbrev pub takes_files : View → View → View
takes_files view other = record view { files = view.files ++ other.files; learned_run = other.known_run }

-- what is left of a thread that gave away all that it knew
abbrev pub spent : View
spent = record {
  config = record { pool = 0; workers = 0; seq = 0; tenants = record { items = [] } };
  openings = [];
  tokens = [];
  seen = [];
  told = [];
  known_run = None;
  learned_run = None;
  mine = [];
  files = [];
  plain_loads = [];
  is_spent = true;
}
