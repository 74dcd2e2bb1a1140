-- Defines what mwserve promises each of its clients: who answers them, and what holds after each reply.
-- Used by: src/promise.rt. A change here changes what the program promises: change docs/PROMISES with it.
use Rattle.std.specs.Prelude.{ℕ, ◌⊎◌, Bool, List}
use Rattle.mw_programs.specs.FromBelow.{Call, DeviceCall, Facts, FileFault, Identity}
use Rattle.mw_programs.specs.Promised.{IsOfStart}
use Rattle.mw_law_threads.specs.AfterReplies.{IsServedByLoan, IsServedByPass}

-- The engine of this identity answered the calls of a session, in order. It begins with the words and places of the files which a start
-- for some words of a command line opened. It answered with the pass of a worker, after each reply of which all of `AfterReply` holds, or with passes that the session
-- borrowed, and then `AfterLoan`. `serve` uses a server's network up for one identity, so it is that of all sessions of the server.
pub record IsServed {D : Type 0} (facts : D → Facts) (makes : DeviceCall → Bool → D → D → Type 0) (is_over : List ℕ → D → Type 0) (is_refused : List ℕ → FileFault → Type 0)
    (is_text : List ℕ → List ℕ → Type 0) (identity : Identity) (calls : List Call) : Type 0 where
  pub words : List (List ℕ)
  pub start : IsOfStart facts makes is_over is_refused is_text words identity
  pub served : IsServedByPass facts identity calls ⊎ IsServedByLoan facts identity calls
