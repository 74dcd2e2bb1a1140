-- A step that changes no word keeps what its request knows, and slots that it doesn't free stay taken. Used by: StepsKeepInvariant.
use Rattle.std.specs.Prelude.{ℕ, ◌≡◌, ◌≢◌, ◌++◌, true, false, [], ◌∷◌}
use Rattle.std.proofs.Common.{refl, sym, ap, subst, ◌∙◌, arith}
use Rattle.std.proofs.lemmas.Bool.Decides.{nat_tests}
use Rattle.mw_words.specs.declared.gates.Gate.{Gate}
use Rattle.mw_words.specs.declared.replies.Reply.{Reply}
use Rattle.mw_words.specs.declared.replies.Reply.TheVariants.{Fault as SaysFault}
use Rattle.mw_pool.specs.Moves.{after_unpin}
use Rattle.mw_look.specs.declared.observations.Observation.{Observation}
use Rattle.mw_look.specs.declared.observations.Observation.TheVariants.{SawGate, SawDoor, SawStatus, Won, Lost}
use Rattle.mw_look.specs.declared.points.Point.{Point as ReadPoint}
use Rattle.mw_look.specs.declared.points.Point.TheVariants.{Pin as PinOfRead, Unpin as UnpinOfRead, FreeSlot as FreeOfRead, LowerDoor as LowerOfRead}
use Rattle.mw_look.specs.Program.{Reading, freed, slot_of, asks_at as read_asks_at}
use Rattle.mw_look.specs.Runs.{if_same}
use Rattle.mw_actor.specs.declared.points.Point.{Point}
use Rattle.mw_actor.specs.declared.points.Point.TheVariants.{Read, Admit, Claim, FillStatus, FillCount, FillAddr, FillExpected, FillNew, Prepare, AnnounceRow, Plant, DecideYes, DecideNo, Resolve, PinOther, Seal, Release, Clean, SweepResolve, Settle, Cancel, Unpin, FreeSlot, LowerDoor, GiveUp, Replied}
use Rattle.mw_actor.specs.declared.points.Slot.{Slot}
use Rattle.mw_actor.specs.declared.points.Sweep.TheVariants.{Yes as SweepYes, DoneYes as SweepDoneYes, No as SweepNo, DoneNo as SweepDoneNo}
use Rattle.mw_actor.specs.ActorState.{ActorState}
use Rattle.mw_actor.specs.Asks.{asks, asks_at}
use Rattle.mw_world.specs.declared.config.Config.{Config}
use Rattle.mw_world.specs.Definition.Cells.{Cells}
use Rattle.mw_look.specs.declared.steps.Shape.TheVariants.{Exchange, Store, Fetch}
use Rattle.mw_world.specs.Definition.Counts.{frees_at}
use Rattle.mw_world.specs.Definition.State.{State}
use Rattle.mw_law_runs.specs.Moves.Moves.{made_all}
use Rattle.mw_law_runs.specs.Moves.Rely.{Rely}
use Rattle.mw_law_runs.specs.Moves.StepMoves.{give_up_moves, set_intent}
use Rattle.mw_law_runs.specs.Knowledge.Informed.{IsInformed, ChangesNoWord, ChangesAWord}
use Rattle.mw_law_runs.specs.Knowledge.Laws.{StaysTaken}
use Rattle.mw_law_runs.specs.Knowledge.Points.{without_point}
use Rattle.mw_law_runs.specs.Knowledge.NextState.{KnowsItsPoint, told, world_told}
use Rattle.mw_law_runs.proofs.Knowledge.StayingFacts.{works_stays}
use Rattle.mw_law_runs.proofs.Knowledge.Updates.Acquisition.{task_live}
use Rattle.mw_law_runs.proofs.Knowledge.Updates.Preservation.{carries_on, keeps_all, gates_same, gate_set, gate_set_else}

no_store : Store ≡ Exchange → ⊥
no_store e = cc

no_fetch : Fetch ≡ Exchange → ⊥
no_fetch e = cc

module _ (config : Config) (state : State) (actor : ActorState) where
  -- the statement, at a point and for what the request learns
  abbrev Carried : Point → Observation → Type 0
  Carried point observation = let me = record actor { point = point } in IsInformed config state me → Rely actor.worker state (world_told state me observation)
      → KnowsItsPoint state (told state me observation) → KnowsItsPoint (world_told state me observation) (told state me observation)

  -- the request learns what it must learn of this step
  told_so : (point : Point) (observation is : Observation) → observation ≡ is → Carried point is → Carried point observation
  told_so point observation is same carried = subst (Carried point) (sym same) carried

  -- nothing changes but what the worker may do
  posed : (me : ActorState) (after : State) → after.cells ≡ state.cells → after.history.stays ≡ state.history.stays → after.history.fate ≡ state.history.fate
      → (after.worker_states me.worker).attempt ≡ (state.worker_states me.worker).attempt → Rely me.worker state after → KnowsItsPoint state me → KnowsItsPoint after me
  posed me after cells stays fate attempt later stands =
      carries_on me.worker state after later me
      (keeps_all state after (without_point me) stays fate (ap (λ (c : Cells). c.statuses) cells) (ap (λ (c : Cells). c.counts) cells) (ap (λ (c : Cells). c.addrs) cells)
      (ap (λ (c : Cells). c.expecteds) cells) (ap (λ (c : Cells). c.new_values) cells) attempt (ap (λ (c : Cells). c.rows) cells))
      (λ slot some. gates_same state after (ap (λ (c : Cells). c.gates) cells) slot) stands

  of_read : (look : Reading) (point : ReadPoint) (observation : Observation) → ChangesNoWord state.cells (read_asks_at look.tenant look.address point) observation → Carried (Read (record look { point = point })) observation
  of_read look (PinOfRead trail from to) observation quiet =
      told_so (Read (record look { point = PinOfRead trail from to })) observation Lost quiet.1 (λ informed later stands. posed _ _ refl refl refl refl later stands)
  of_read look (UnpinOfRead slot seq onward) observation quiet = absurd (no_fetch quiet.0)
  of_read look (FreeOfRead slot seq onward) observation quiet = absurd (no_store quiet.0)
  of_read look (LowerOfRead onward) observation quiet = absurd (no_fetch quiet.0)
  of_read look point observation quiet = λ informed later stands. posed _ _ refl refl refl refl later stands

  carried : (point : Point) (observation : Observation) → ChangesNoWord state.cells (asks_at (record actor { point = point }) point) observation → Carried point observation
  carried (Read look) observation quiet = of_read look look.point observation quiet
  carried (Admit from to) observation quiet = told_so (Admit from to) observation Lost quiet.1 (λ informed later stands. posed _ _ refl refl refl refl later stands)
  carried (Claim slot saw_worn from to) observation quiet = told_so (Claim slot saw_worn from to) observation Lost quiet.1 (λ informed later stands. posed _ _ refl refl refl refl later stands)
  carried (FillStatus own) observation quiet = absurd (no_store quiet.0)
  carried (FillCount own) observation quiet = absurd (no_store quiet.0)
  carried (FillAddr own entry) observation quiet = absurd (no_store quiet.0)
  carried (FillExpected own entry) observation quiet = absurd (no_store quiet.0)
  carried (FillNew own entry) observation quiet = absurd (no_store quiet.0)
  carried (Prepare own) observation quiet = absurd quiet
  carried (AnnounceRow task entry number) observation quiet = absurd (no_store quiet.0)
  carried (Plant task entry number) observation quiet =
      told_so (Plant task entry number) observation Lost quiet.1 (λ informed later stands. record {
        live = task_live state _ task refl stands.live;
        knows = works_stays actor.worker state _ later (without_point actor) (λ own is. refl) task stands.knows;
      })
  carried (DecideYes task) observation quiet = told_so (DecideYes task) observation Lost quiet.1 (λ informed later stands. posed _ _ refl refl refl refl later stands)
  carried (DecideNo task entry value) observation quiet = told_so (DecideNo task entry value) observation Lost quiet.1 (λ informed later stands. posed _ _ refl refl refl refl later stands)
  carried (Resolve task entry attempt was_open) observation quiet =
      told_so (Resolve task entry attempt was_open) observation Lost quiet.1 (λ informed later stands. posed _ _ refl refl refl refl later stands)
  carried (PinOther task other from to) observation quiet = told_so (PinOther task other from to) observation Lost quiet.1 (λ informed later stands. posed _ _ refl refl refl refl later stands)
  carried (Seal task) observation quiet = absurd quiet
  carried (Release task sweep entry) observation quiet = told_so (Release task sweep entry) observation Lost quiet.1 (λ informed later stands. posed _ _ refl refl refl refl later stands)
  carried (Clean task entry value) observation quiet = told_so (Clean task entry value) observation Lost quiet.1 (λ informed later stands. posed _ _ refl refl refl refl later stands)
  carried (SweepResolve task sweep entry attempt) observation quiet =
      told_so (SweepResolve task sweep entry attempt) observation Lost quiet.1 (λ informed later stands. posed _ _ refl refl refl refl later stands)
  carried (Settle task) observation quiet = absurd quiet
  carried (Cancel task) observation quiet = absurd quiet
  carried (Unpin slot onward) observation quiet = absurd (no_fetch quiet.0)
  carried (FreeSlot slot onward) observation quiet = absurd (no_store quiet.0)
  carried (LowerDoor onward) observation quiet = absurd (no_fetch quiet.0)
  carried (GiveUp own undecided) observation quiet = told_so (GiveUp own undecided) observation (SawStatus (state.cells.statuses own.slot)) quiet (λ informed later stands. record { live = tt; knows = tt })
  carried point observation quiet = λ informed later stands. posed _ _ refl refl refl refl later stands

  -- A slot stays taken under its number over a step of a request that doesn't free it.
  abbrev Stays : Point → Observation → ℕ → Type 0
  Stays point observation slot = StaysTaken state (world_told state (record actor { point = point }) observation) slot

  stays_so : (point : Point) (observation is : Observation) (slot : ℕ) → observation ≡ is → Stays point is slot → Stays point observation slot
  stays_so point observation is slot same stays = subst (λ (one : Observation). Stays point one slot) (sym same) stays

  not_freed : (given slot : ℕ) → if_same given slot ≡ 0 → slot ≢ given
  not_freed given slot none is = grind (arith, nat_tests, none, is)

  read_looks_stay : (look : Reading) (point : ReadPoint) (observation : Observation) (slot : ℕ) → ChangesNoWord state.cells (read_asks_at look.tenant look.address point) observation → Stays (Read (record look { point = point })) observation slot
  read_looks_stay look (PinOfRead trail from to) observation slot quiet = stays_so (Read (record look { point = PinOfRead trail from to })) observation Lost slot quiet.1 (gates_same state _ refl slot)
  read_looks_stay look (UnpinOfRead given seq onward) observation slot quiet = absurd (no_fetch quiet.0)
  read_looks_stay look (FreeOfRead given seq onward) observation slot quiet = absurd (no_store quiet.0)
  read_looks_stay look (LowerOfRead onward) observation slot quiet = absurd (no_fetch quiet.0)
  read_looks_stay look point observation slot quiet = gates_same state _ refl slot

  read_updates_stay : (look : Reading) (point : ReadPoint) (observation : Observation) (slot : ℕ) → let at = Read (record look { point = point }) in IsInformed config state (record actor { point = at })
      → ChangesAWord state.cells (read_asks_at look.tenant look.address point) observation → frees_at slot at ≡ 0 → Stays at observation slot
  read_updates_stay look (PinOfRead trail from to) observation slot informed changes none =
      stays_so (Read (record look { point = PinOfRead trail from to })) observation Won slot changes.0
      (gate_set state _ (slot_of trail) to refl (informed.ready.1.same_number ∙ ap (λ (gate : Gate). gate.seq) (sym changes.1)) (λ was. informed.ready.1.is_taken) slot)
  read_updates_stay look (UnpinOfRead given seq onward) observation slot informed changes none =
      stays_so (Read (record look { point = UnpinOfRead given seq onward })) observation (SawGate (state.cells.gates given)) slot changes
      (gate_set state _ given (after_unpin (state.cells.gates given)) refl refl (λ is. is) slot)
  read_updates_stay look (FreeOfRead given seq onward) observation slot informed changes none =
      stays_so (Read (record look { point = FreeOfRead given seq onward })) observation Won slot changes (gate_set_else state _ given (freed seq) refl slot (not_freed given slot none))
  read_updates_stay look (LowerOfRead onward) observation slot informed changes none =
      stays_so (Read (record look { point = LowerOfRead onward })) observation (SawDoor (state.cells.doors look.tenant)) slot changes (gates_same state _ refl slot)
  read_updates_stay look point observation slot informed changes none = absurd changes

  pub looks_stay : (point : Point) (observation : Observation) (slot : ℕ) → ChangesNoWord state.cells (asks_at (record actor { point = point }) point) observation → Stays point observation slot
  looks_stay (Read look) observation slot quiet = read_looks_stay look look.point observation slot quiet
  looks_stay (Admit from to) observation slot quiet = stays_so (Admit from to) observation Lost slot quiet.1 (gates_same state _ refl slot)
  looks_stay (Claim given saw_worn from to) observation slot quiet = stays_so (Claim given saw_worn from to) observation Lost slot quiet.1 (gates_same state _ refl slot)
  looks_stay (FillStatus own) observation slot quiet = absurd (no_store quiet.0)
  looks_stay (FillCount own) observation slot quiet = absurd (no_store quiet.0)
  looks_stay (FillAddr own entry) observation slot quiet = absurd (no_store quiet.0)
  looks_stay (FillExpected own entry) observation slot quiet = absurd (no_store quiet.0)
  looks_stay (FillNew own entry) observation slot quiet = absurd (no_store quiet.0)
  looks_stay (Prepare own) observation slot quiet = absurd quiet
  looks_stay (AnnounceRow task entry number) observation slot quiet = absurd (no_store quiet.0)
  looks_stay (Plant task entry number) observation slot quiet = stays_so (Plant task entry number) observation Lost slot quiet.1 (gates_same state _ refl slot)
  looks_stay (DecideYes task) observation slot quiet = stays_so (DecideYes task) observation Lost slot quiet.1 (gates_same state _ refl slot)
  looks_stay (DecideNo task entry value) observation slot quiet = stays_so (DecideNo task entry value) observation Lost slot quiet.1 (gates_same state _ refl slot)
  looks_stay (Resolve task entry attempt was_open) observation slot quiet = stays_so (Resolve task entry attempt was_open) observation Lost slot quiet.1 (gates_same state _ refl slot)
  looks_stay (PinOther task other from to) observation slot quiet = stays_so (PinOther task other from to) observation Lost slot quiet.1 (gates_same state _ refl slot)
  looks_stay (Seal task) observation slot quiet = absurd quiet
  looks_stay (Release task sweep entry) observation slot quiet = stays_so (Release task sweep entry) observation Lost slot quiet.1 (gates_same state _ refl slot)
  looks_stay (Clean task entry value) observation slot quiet = stays_so (Clean task entry value) observation Lost slot quiet.1 (gates_same state _ refl slot)
  looks_stay (SweepResolve task sweep entry attempt) observation slot quiet = stays_so (SweepResolve task sweep entry attempt) observation Lost slot quiet.1 (gates_same state _ refl slot)
  looks_stay (Settle task) observation slot quiet = absurd quiet
  looks_stay (Cancel task) observation slot quiet = absurd quiet
  looks_stay (Unpin given onward) observation slot quiet = absurd (no_fetch quiet.0)
  looks_stay (FreeSlot given onward) observation slot quiet = absurd (no_store quiet.0)
  looks_stay (LowerDoor onward) observation slot quiet = absurd (no_fetch quiet.0)
  looks_stay (GiveUp own undecided) observation slot quiet = gives_up_stays own undecided observation slot
    where
      gives_up_stays : (own : Slot) (undecided : Reply) (observation : Observation) (slot : ℕ) → Stays (GiveUp own undecided) observation slot
      gives_up_stays own undecided observation slot = by_reply (told state (record actor { point = GiveUp own undecided }) observation).point
        where
          by_reply : (after : Point) → StaysTaken state (made_all state actor.worker (give_up_moves own after ++ set_intent (told state (record actor { point = GiveUp own undecided }) observation) ∷ [])) slot
          by_reply (Replied SaysFault) = gates_same state _ refl slot
          by_reply (Replied reply) = gates_same state _ refl slot
          by_reply after = gates_same state _ refl slot
  looks_stay point observation slot quiet = gates_same state _ refl slot

  pub updates_stay : (point : Point) (observation : Observation) (slot : ℕ) → let me = record actor { point = point } in IsInformed config state me → ChangesAWord state.cells (asks_at me point) observation
      → frees_at slot point ≡ 0 → Stays point observation slot
  updates_stay (Read look) observation slot informed changes none = read_updates_stay look look.point observation slot informed changes none
  updates_stay (Admit from to) observation slot informed changes none = stays_so (Admit from to) observation Won slot changes.0 (gates_same state _ refl slot)
  updates_stay (Claim given saw_worn from to) observation slot informed changes none =
      stays_so (Claim given saw_worn from to) observation Won slot changes.0
      (gate_set state _ given to refl (informed.ready.same_number ∙ ap (λ (gate : Gate). gate.seq) (sym changes.1)) (λ was. informed.ready.is_taken) slot)
  updates_stay (FillStatus own) observation slot informed changes none = stays_so (FillStatus own) observation Won slot changes (gates_same state _ refl slot)
  updates_stay (FillCount own) observation slot informed changes none = stays_so (FillCount own) observation Won slot changes (gates_same state _ refl slot)
  updates_stay (FillAddr own entry) observation slot informed changes none = stays_so (FillAddr own entry) observation Won slot changes (gates_same state _ refl slot)
  updates_stay (FillExpected own entry) observation slot informed changes none = stays_so (FillExpected own entry) observation Won slot changes (gates_same state _ refl slot)
  updates_stay (FillNew own entry) observation slot informed changes none = stays_so (FillNew own entry) observation Won slot changes (gates_same state _ refl slot)
  updates_stay (AnnounceRow task entry number) observation slot informed changes none = stays_so (AnnounceRow task entry number) observation Won slot changes (gates_same state _ refl slot)
  updates_stay (Plant task entry number) observation slot informed changes none = stays_so (Plant task entry number) observation Won slot changes.0 (gates_same state _ refl slot)
  updates_stay (DecideYes task) observation slot informed changes none = stays_so (DecideYes task) observation Won slot changes.0 (gates_same state _ refl slot)
  updates_stay (DecideNo task entry value) observation slot informed changes none = stays_so (DecideNo task entry value) observation Won slot changes.0 (gates_same state _ refl slot)
  updates_stay (Resolve task entry attempt true) observation slot informed changes none = stays_so (Resolve task entry attempt true) observation Won slot changes.0 (gates_same state _ refl slot)
  updates_stay (Resolve task entry attempt false) observation slot informed changes none = stays_so (Resolve task entry attempt false) observation Won slot changes.0 (gates_same state _ refl slot)
  updates_stay (PinOther task other from to) observation slot informed changes none =
      stays_so (PinOther task other from to) observation Won slot changes.0
      (gate_set state _ other.slot to refl (informed.ready.1.same_number ∙ ap (λ (gate : Gate). gate.seq) (sym changes.1)) (λ was. informed.ready.1.is_taken) slot)
  updates_stay (Release task SweepYes entry) observation slot informed changes none = stays_so (Release task SweepYes entry) observation Won slot changes.0 (gates_same state _ refl slot)
  updates_stay (Release task SweepDoneYes entry) observation slot informed changes none = stays_so (Release task SweepDoneYes entry) observation Won slot changes.0 (gates_same state _ refl slot)
  updates_stay (Release task SweepNo entry) observation slot informed changes none = stays_so (Release task SweepNo entry) observation Won slot changes.0 (gates_same state _ refl slot)
  updates_stay (Release task (SweepDoneNo index value) entry) observation slot informed changes none = stays_so (Release task (SweepDoneNo index value) entry) observation Won slot changes.0 (gates_same state _ refl slot)
  updates_stay (Clean task entry value) observation slot informed changes none = stays_so (Clean task entry value) observation Won slot changes.0 (gates_same state _ refl slot)
  updates_stay (SweepResolve task sweep entry attempt) observation slot informed changes none = stays_so (SweepResolve task sweep entry attempt) observation Won slot changes.0 (gates_same state _ refl slot)
  updates_stay (Unpin given onward) observation slot informed changes none =
      stays_so (Unpin given onward) observation (SawGate (state.cells.gates given.slot)) slot changes (gate_set state _ given.slot (after_unpin (state.cells.gates given.slot)) refl refl (λ is. is) slot)
  updates_stay (FreeSlot given onward) observation slot informed changes none =
      stays_so (FreeSlot given onward) observation Won slot changes (gate_set_else state _ given.slot (freed given.seq) refl slot (not_freed given.slot slot none))
  updates_stay (LowerDoor onward) observation slot informed changes none = stays_so (LowerDoor onward) observation (SawDoor (state.cells.doors actor.tenant)) slot changes (gates_same state _ refl slot)
  updates_stay point observation slot informed changes none = absurd changes

pub looks_carry : (config : Config) (state : State) (actor : ActorState) (observation : Observation) → IsInformed config state actor → ChangesNoWord state.cells (asks actor) observation
    → Rely actor.worker state (world_told state actor observation) → KnowsItsPoint state (told state actor observation) → KnowsItsPoint (world_told state actor observation) (told state actor observation)
looks_carry config state actor observation informed quiet later stands = carried config state actor actor.point observation quiet informed later stands
