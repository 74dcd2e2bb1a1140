-- Defines how an engine brings a request to its reply: by the request's own steps on the shared words, and by calls on its tenant's file.
-- Used by: src/serving.rt. A change here changes which calls on a file may be made for a request.
use Rattle.std.specs.Prelude.{◌≡◌, ◌⊎◌, ℕ, zero, suc, Some, None}
use Rattle.mw_words.specs.declared.jobs.Job.{Job}
use Rattle.mw_words.specs.declared.replies.Reply.{Reply}
use Rattle.mw_actor.specs.ActorState.{ActorState}
use Rattle.mw_actor.specs.Program.{replied}
use Rattle.mw_disk.specs.Facts.{Facts}
use Rattle.mw_world.specs.Definition.Calls.{called_at}
use Rattle.mw_core.specs.FromTable.{IsIdleAfter, Pass}
use Rattle.mw_core.specs.Steps.{Begins, StepsOnce}
use Rattle.mw_engine.specs.Brand.{Identity}
use Rattle.mw_engine.specs.FileCalls.{IsMadeByCalls}
use Rattle.mw_engine.specs.Requests.{request_of}

module _ {D : Type 0} (facts : D → Facts) (identity : Identity) where
  -- One turn of a request. Its next step was made, which was no call on a file. Or calls on its tenant's file were made for it, or none,
  -- and nothing else: each on a book and with a file pass that a lock of the engine may keep for this tenant (`FilesOne`).
  abbrev pub MakesTurn : Pass → ActorState → Pass → ActorState → Type 0
  MakesTurn old actor new next = ((called_at actor.point ≡ None) × StepsOnce old new actor next) ⊎ IsMadeByCalls facts identity old actor new next

  -- so many turns, one after another
  abbrev pub MakesTurns : ℕ → Pass → ActorState → Pass → ActorState → Type 0
  MakesTurns zero old actor new next = (new ≡ old) × (next ≡ actor)
  MakesTurns (suc more) old actor new next = (pass : Pass) × (between : ActorState) × MakesTurns more old actor pass between × MakesTurn pass between new next

  -- A tenant's request for a job came to the pass, and made its first step. Since then it made turns, and nothing else changed it or its pass.
  pub record IsBroughtTo (old : Pass) (tenant : ℕ) (job : Job) (new : Pass) (actor : ActorState) : Type 0 where
    pub begun : Pass
    pub first : ActorState
    pub came : Begins old begun (request_of identity old.worker tenant job) first
    pub count : ℕ
    pub turns : MakesTurns count begun first new actor

  -- It was brought to this reply so. Then the pass was made idle.
  pub record IsBroughtToReply (old : Pass) (tenant : ℕ) (job : Job) (new : Pass) (reply : Reply) : Type 0 where
    pub last : Pass
    pub actor : ActorState
    pub brought : IsBroughtTo old tenant job last actor
    pub has_reply : replied actor ≡ Some reply
    pub rests : IsIdleAfter last new
