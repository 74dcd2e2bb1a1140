-- A request that came makes one turn after another: each step of `go_on` is one. Used by: Engine::go_on, Engine::serve.
use Rattle.std.specs.Prelude.{◌≡◌, ℕ, suc, Option, Some, None}
use Rattle.std.proofs.Common.{refl, ap, subst, ◌∙◌, inl, inr}
use Rattle.mw_words.specs.declared.jobs.Job.{Job}
use Rattle.mw_look.specs.declared.steps.Call.{Call}
use Rattle.mw_actor.specs.ActorState.{ActorState}
use Rattle.mw_disk.specs.Facts.{Facts}
use Rattle.mw_world.specs.Definition.Calls.{Called, called_at}
use Rattle.mw_core.specs.FromTable.{Pass}
use Rattle.mw_core.specs.Steps.{Begins, Steps, StepsAs}
use Rattle.mw_engine.specs.Brand.{Identity}
use Rattle.mw_engine.specs.Requests.{request_of}
use Rattle.mw_engine.specs.RequestTurns.{IsBroughtTo, MakesTurn}

module _ {D : Type 0} (facts : D → Facts) (identity : Identity) where
  -- a step of the core is a turn; if a call is due, it did nothing
  pub stepped_turn : (old new : Pass) (actor next : ActorState) (call : Option Call) → Steps old new actor next call → MakesTurn facts identity old actor new next
  stepped_turn old new actor next call steps = by (called_at actor.point) refl steps
    where
      by : (due : Option Called) → called_at actor.point ≡ due → StepsAs old new actor next call due → MakesTurn facts identity old actor new next
      by None none stepped = inl (none, stepped.1)
      by (Some called) is still = inr (record { count = 0; calls = (still.1.same_pass, still.1.same_request) })

  -- a request that just came
  pub just_came : (old begun : Pass) (tenant : ℕ) (asked job : Job) (actor first : ActorState) → job ≡ asked → actor ≡ request_of identity old.worker tenant job → Begins old begun actor first
      → IsBroughtTo facts identity old tenant asked begun first
  just_came old begun tenant asked job actor first same is begins = record {
    begun = begun;
    first = first;
    came = subst (λ (one : ActorState). Begins old begun one first) (is ∙ ap (request_of identity old.worker tenant) same) begins;
    count = 0;
    turns = (refl, refl);
  }

  -- one more turn
  pub one_more_turn : (old : Pass) (tenant : ℕ) (job : Job) (pass : Pass) (actor : ActorState) (new : Pass) (next : ActorState) → IsBroughtTo facts identity old tenant job pass actor
      → MakesTurn facts identity pass actor new next → IsBroughtTo facts identity old tenant job new next
  one_more_turn old tenant job pass actor new next brought turn = record {
    begun = brought.begun;
    first = brought.first;
    came = brought.came;
    count = suc brought.count;
    turns = (pass, actor, brought.turns, turn);
  }
