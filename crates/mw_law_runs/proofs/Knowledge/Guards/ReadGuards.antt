-- If a request is informed (it knows its point's facts), each move of a step that changes no shared word has its precondition
-- (`Guard`).
-- Used by: moves_have_guards, mw_law_store.
use Rattle.std.specs.Prelude.{ℕ, ◌≡◌, ◌++◌, [], ◌∷◌}
use Rattle.std.proofs.Common.{refl, sym, subst, arith}
use Rattle.mw_words.specs.declared.replies.Reply.{Reply}
use Rattle.mw_words.specs.declared.replies.Reply.TheVariants.{Yes as SaysYes, No as SaysNo, Val as ValueIs, Busy as SaysBusy, Fault as SaysFault, Worn as SaysWorn}
use Rattle.mw_look.specs.declared.observations.Observation.{Observation}
use Rattle.mw_look.specs.declared.observations.Observation.TheVariants.{SawStatus, SawWord, Won, Lost}
use Rattle.mw_look.specs.declared.points.Point.{Point as ReadPoint}
use Rattle.mw_look.specs.declared.points.Point.TheVariants.{Pin as PinOfRead, Unpin as UnpinOfRead, FreeSlot as FreeOfRead, LowerDoor as LowerOfRead}
use Rattle.mw_look.specs.Program.{asks_at as read_asks_at}
use Rattle.mw_actor.specs.declared.points.Point.{Point}
use Rattle.mw_actor.specs.declared.points.Point.TheVariants.{Read, Admit, Claim, FillStatus, FillCount, FillAddr, FillExpected, FillNew, AnnounceRow, Plant, ConfirmAttempt, DecideYes, DecideNo, CheckThenResolve, Resolve, PinOther, Release, Clean, SweepResolve, Unpin, FreeSlot, LowerDoor, GiveUp, Replied}
use Rattle.mw_actor.specs.declared.points.Slot.{Slot}
use Rattle.mw_actor.specs.ActorState.{ActorState, entry_of}
use Rattle.mw_actor.specs.Asks.{asks_at}
use Rattle.mw_world.specs.declared.config.Config.{Config}
use Rattle.mw_look.specs.declared.steps.Shape.TheVariants.{Exchange, Store, Fetch}
use Rattle.mw_world.specs.Definition.History.{NoAttempt, Idle}
use Rattle.mw_world.specs.Definition.State.{State}
use Rattle.mw_world.specs.Definition.Turns.{next_attempt}
use Rattle.mw_law_runs.specs.Moves.Guards.{Guards, MaySetIntent}
use Rattle.mw_law_runs.specs.Moves.Moves.{SkipNumber, SetIntent, made}
use Rattle.mw_law_runs.specs.Moves.StepMoves.{read_moves, give_up_moves, moves_told, next_of}
use Rattle.mw_law_runs.specs.Knowledge.Informed.{IsInformed, ChangesNoWord}
use Rattle.mw_law_runs.specs.Knowledge.MoveGuards.{ReadsHaveGuards}
use Rattle.mw_law_runs.proofs.Knowledge.Guards.Attempts.{gone_here, may_resolve, confirmed_rests}
use Rattle.mw_law_runs.proofs.Knowledge.Guards.IntentGuards.{may_forget, may_rest, goes_rest}

-- a store and a fetch are no exchange, and an exchange that changes nothing hasn't won
no_store : Store ≡ Exchange → ⊥
no_store e = cc

no_fetch : Fetch ≡ Exchange → ⊥
no_fetch e = cc

not_won : Won ≡ Lost → ⊥
not_won e = cc

-- a read
read_looks : (config : Config) (state : State) (by tenant address : ℕ) (point : ReadPoint) (observation : Observation) → MaySetIntent state by NoAttempt Idle
    → ChangesNoWord state.cells (read_asks_at tenant address point) observation → Guards config state by (read_moves state tenant point observation ++ SetIntent NoAttempt Idle ∷ [])
read_looks config state by tenant address (PinOfRead trail from to) Won rest quiet = absurd (not_won quiet.1)
read_looks config state by tenant address (UnpinOfRead slot seq after) observation rest quiet = absurd (no_fetch quiet.0)
read_looks config state by tenant address (FreeOfRead slot seq after) observation rest quiet = absurd (no_store quiet.0)
read_looks config state by tenant address (LowerOfRead after) observation rest quiet = absurd (no_fetch quiet.0)
read_looks config state by tenant address point observation rest quiet = (rest, tt)

-- a request that gives up leaves the pin of its own change behind
gives_up : (config : Config) (state : State) (by : ℕ) (own : Slot) (reply : Reply) → MaySetIntent state by NoAttempt Idle → state.history.standing by ≡ NoAttempt
    → state.history.owner own.slot own.seq ≡ by → Guards config state by (give_up_moves own (Replied reply) ++ SetIntent NoAttempt Idle ∷ [])
gives_up config state by own SaysFault rest rests owner = (owner, (tt, (may_rest _ by rests, tt)))
gives_up config state by own SaysYes rest rests owner = (owner, (may_rest _ by rests, tt))
gives_up config state by own (SaysNo address value) rest rests owner = (owner, (may_rest _ by rests, tt))
gives_up config state by own (ValueIs value) rest rests owner = (owner, (may_rest _ by rests, tt))
gives_up config state by own SaysBusy rest rests owner = (owner, (may_rest _ by rests, tt))
gives_up config state by own SaysWorn rest rests owner = (owner, (may_rest _ by rests, tt))

module _ (config : Config) (state : State) (actor : ActorState) where
  -- what must be proved of a step, by what the request learns of it
  abbrev Has : Point → Observation → Type 0
  Has point observation = Guards config state actor.worker (moves_told state actor.worker (record actor { point = point }) observation)

  -- the request after the step
  abbrev onward : Point → Observation → ActorState
  onward point observation = next_of state actor.worker (record actor { point = point }) observation

  at_point : (point : Point) (observation : Observation) → let me = record actor { point = point } in IsInformed config state me → ChangesNoWord state.cells (asks_at me point) observation → Has point observation
  at_point (Read look) observation informed quiet = read_looks config state actor.worker look.tenant look.address look.point observation (may_rest state actor.worker informed.standing) quiet
  at_point (Admit from to) Won informed quiet = absurd (not_won quiet.1)
  at_point (Claim slot saw_worn from to) Won informed quiet = absurd (not_won quiet.1)
  at_point (FillStatus own) observation informed quiet = absurd (no_store quiet.0)
  at_point (FillCount own) observation informed quiet = absurd (no_store quiet.0)
  at_point (FillAddr own entry) observation informed quiet = absurd (no_store quiet.0)
  at_point (FillExpected own entry) observation informed quiet = absurd (no_store quiet.0)
  at_point (FillNew own entry) observation informed quiet = absurd (no_store quiet.0)
  at_point (AnnounceRow task entry number) observation informed quiet = absurd (no_store quiet.0)
  at_point (Plant task entry number) observation informed quiet =
      subst (Has (Plant task entry number)) (sym quiet.1)
      (omega (arith, informed.knows.1), (may_rest (made state actor.worker (SkipNumber number)) actor.worker informed.standing, tt))
  at_point (ConfirmAttempt task entry attempt other) observation informed quiet =
      let me : ActorState = record actor { point = ConfirmAttempt task entry attempt other } in
      let word = state.cells.words actor.tenant (entry_of me task entry).addr in
      subst (Has (ConfirmAttempt task entry attempt other)) (sym quiet) (
        confirmed_rests state actor.worker (onward (ConfirmAttempt task entry attempt other) (SawWord word)) me task entry attempt other word
            (may_rest state actor.worker informed.standing) informed.knows.1.apart,
        tt,
      )
  at_point (DecideYes task) Won informed quiet = absurd (not_won quiet.1)
  at_point (DecideNo task entry value) Won informed quiet = absurd (not_won quiet.1)
  at_point (CheckThenResolve task entry attempt) observation informed quiet =
      let status = state.cells.statuses task.target.slot in
      subst (Has (CheckThenResolve task entry attempt)) (sym quiet) (
        may_resolve config state informed.memory (onward (CheckThenResolve task entry attempt) (SawStatus status)) task entry informed.knows.0 attempt status informed.live.1 refl
            informed.knows.1 informed.standing,
        tt,
      )
  at_point (Resolve task entry attempt was_open) observation informed quiet =
      let me : ActorState = record actor { point = Resolve task entry attempt was_open } in
      subst (Has (Resolve task entry attempt was_open)) (sym quiet.1) (
        may_forget state actor.worker
            (gone_here state.cells.words actor.worker actor.tenant (entry_of me task entry).addr attempt.worker attempt.number (state.history.standing actor.worker) informed.standing quiet.2),
        tt,
      )
  at_point (PinOther task other from to) Won informed quiet = absurd (not_won quiet.1)
  at_point (Release task sweep entry) Won informed quiet = absurd (not_won quiet.1)
  at_point (Clean task entry value) Won informed quiet = absurd (not_won quiet.1)
  at_point (SweepResolve task sweep entry attempt) Won informed quiet = absurd (not_won quiet.1)
  at_point (Unpin slot after) observation informed quiet = absurd (no_fetch quiet.0)
  at_point (FreeSlot slot after) observation informed quiet = absurd (no_store quiet.0)
  at_point (LowerDoor after) observation informed quiet = absurd (no_fetch quiet.0)
  at_point (GiveUp own undecided) observation informed quiet =
      subst (Has (GiveUp own undecided)) (sym quiet)
      (gives_up config state actor.worker own _ (may_rest state actor.worker informed.standing) informed.standing informed.knows.0.same_worker)
  at_point point observation informed quiet =
      let me : ActorState = record actor { point = point } in
      (goes_rest state actor.worker (may_rest state actor.worker informed.standing) (onward point observation) me (next_attempt point (state.worker_states actor.worker).attempt) point observation tt, tt)

pub reads_have_guards : ReadsHaveGuards
reads_have_guards config state actor observation informed quiet = at_point config state actor actor.point observation informed quiet
