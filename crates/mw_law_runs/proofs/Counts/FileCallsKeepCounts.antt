-- Each call on a tenant's file keeps the invariant of counts (pins of slots, slots that doors count). It changes no gate,
-- leaves no pin behind, and changes a door only in its fault. Used by: RunsKeepCounts.
use Rattle.std.specs.Prelude.{ℕ, ◌≡◌, Bool, true, false, if◌then◌else◌, IfSome, Option, Some, None}
use Rattle.std.proofs.Common.{refl, subst, arith}
use Rattle.std.proofs.lemmas.Bool.Decides.{nat_tests}
use Rattle.mw_words.specs.declared.doors.Door.{Door}
use Rattle.mw_words.specs.declared.statuses.Status.{Status}
use Rattle.mw_look.specs.declared.steps.Call.{Call}
use Rattle.mw_look.specs.declared.steps.Call.TheVariants.{Seal as SealCall}
use Rattle.mw_actor.specs.declared.points.Slot.{Slot}
use Rattle.mw_actor.specs.declared.points.Point.{Point}
use Rattle.mw_actor.specs.declared.points.Point.TheVariants.{Read, Admit, Claim, PinOther, Unpin, FreeSlot, LowerDoor, GiveUp}
use Rattle.mw_actor.specs.ActorState.{ActorState, own_entries}
use Rattle.mw_world.specs.declared.config.Config.{Config}
use Rattle.mw_world.specs.declared.outcomes.Outcome.{Outcome}
use Rattle.mw_world.specs.declared.outcomes.Outcome.TheVariants.{Good, Fail}
use Rattle.mw_world.specs.Definition.Calls.{Called, called_at, starts_from, fails_on, place_for, can_be_made, calls_made, is_made, good_label, fault_label, skips, breaks, works, makes_none, ends, calling, moved_if, call_if, call}
use Rattle.mw_world.specs.Definition.Extent.{has_slot}
use Rattle.mw_world.specs.Files.State.{File}
use Rattle.mw_world.specs.Maps.{upd}
use Rattle.mw_world.specs.Definition.LabelEffects.{with_label}
use Rattle.mw_world.specs.Definition.State.{State}
use Rattle.mw_world.specs.Definition.Turns.{Made, moved}
use Rattle.mw_law_runs.specs.Counts.CountInvariant.{CountsStand}
use Rattle.mw_law_runs.proofs.Counts.Points.{IsQuiet}
use Rattle.mw_law_runs.proofs.Counts.QuietSteps.{IsSilent, quiet_move}

-- A step changes no gate, changes a door only in its fault, and changes nothing of claims and of pins that were left behind.
record IsAside (state : State) (worker : ℕ) (by : ActorState) (request : ℕ) (made : Made) : Type 0 where
  pub gates : (slot : ℕ) → made.cells.gates slot ≡ state.cells.gates slot
  pub used : (tenant : ℕ) → (made.cells.doors tenant).used ≡ (state.cells.doors tenant).used
  pub silent : IsSilent (with_label made.label worker by request)

good_silent : (call : Call) (change : Slot) (status : Status) (worker : ℕ) (by : ActorState) (request : ℕ) → IsSilent (with_label (good_label call change status) worker by request)
good_silent SealCall change status worker by request = λ past. (refl, refl)
good_silent call change status worker by request = λ past. (refl, refl)

fault_silent : (call : Call) (change : Slot) (worker : ℕ) (by : ActorState) (request : ℕ) → IsSilent (with_label (fault_label call change) worker by request)
fault_silent SealCall change worker by request = λ past. (refl, refl)
fault_silent call change worker by request = λ past. (refl, refl)

-- a door with the fault counts what it counted before
fault_counts : (doors : ℕ → Door) (own tenant : ℕ) → (upd doors own (record (doors own) { fault = true }) tenant).used ≡ (doors tenant).used
fault_counts doors own tenant = grind (arith, nat_tests)

if_made : (P : Made → Type 0) (test : Bool) (made : Made) → P made → IfSome (if test then Some made else None) P
if_made P true made is = is
if_made P false made is = tt

module _ (state : State) (worker : ℕ) (actor : ActorState) (request : ℕ) (change : Slot) (file : File) where
  skips_aside : IsAside state worker actor request (skips state actor change file)
  skips_aside = record { gates = λ slot. refl; used = λ tenant. refl; silent = λ past. (refl, refl) }

  none_aside : (made : Made) (outcome : Outcome) → IsAside state worker actor request made → IfSome (makes_none state actor change file made outcome) (IsAside state worker actor request)
  none_aside made Good is = is
  none_aside made (Fail number) is = tt

  works_aside : (call : Call) (status : Status) (place calls : ℕ) (outcome : Outcome) → IfSome (works state actor change file call status place calls outcome) (IsAside state worker actor request)
  works_aside call status place calls Good = record {
    gates = λ slot. refl;
    used = λ tenant. refl;
    silent = good_silent call change _ worker actor request;
  }
  works_aside call status place calls (Fail number) = if_made (IsAside state worker actor request) (is_made calls number) (breaks state actor change file call place) (record {
    gates = λ slot. refl;
    used = λ tenant. fault_counts state.cells.doors actor.tenant tenant;
    silent = fault_silent call change worker actor request;
  })

  ends_aside : (starts had_failed can_be : Bool) (call : Call) (status : Status) (place calls : ℕ) (outcome : Outcome)
      → IfSome (ends state actor change file starts had_failed can_be call status place calls outcome) (IsAside state worker actor request)
  ends_aside false had_failed can_be call status place calls outcome = none_aside (skips state actor change file) outcome skips_aside
  ends_aside true true can_be call status place calls outcome = none_aside _ outcome (record {
    gates = λ slot. refl;
    used = λ tenant. fault_counts state.cells.doors actor.tenant tenant;
    silent = λ past. (refl, refl);
  })
  ends_aside true false true call status place calls outcome = works_aside call status place calls outcome
  ends_aside true false false call status place calls outcome = tt

none_some : {A : Type 0} (x : A) → None ≡ Some x → ⊥
none_some x e = cc

-- a request that comes to a call is at a quiet point
quiet_of_call : (point : Point) (called : Called) → called_at point ≡ Some called → IsQuiet point
quiet_of_call (Read look) called is = absurd (none_some called is)
quiet_of_call (Admit from to) called is = absurd (none_some called is)
quiet_of_call (Claim slot saw_worn from to) called is = absurd (none_some called is)
quiet_of_call (PinOther task other from to) called is = absurd (none_some called is)
quiet_of_call (Unpin slot onward) called is = absurd (none_some called is)
quiet_of_call (FreeSlot slot onward) called is = absurd (none_some called is)
quiet_of_call (LowerDoor onward) called is = absurd (none_some called is)
quiet_of_call (GiveUp own undecided) called is = absurd (none_some called is)
quiet_of_call point called is = tt

same_some : (one other : State) → Some one ≡ Some other → one ≡ other
same_some one other is = cc

module _ (config : Config) (state : State) (worker : ℕ) (stand : CountsStand config state) where
  after_call : (actor : ActorState) (made : Option Made) (next : State) → (state.worker_states worker).actor ≡ Some actor → IsQuiet actor.point
      → IfSome made (IsAside state worker actor (state.worker_states worker).request) → moved_if state worker actor made ≡ Some next → CountsStand config next
  after_call actor None next is is_quiet aside e = absurd (none_some next e)
  after_call actor (Some made) next is is_quiet aside e =
      subst (CountsStand config) (same_some (moved state worker actor made) next e)
      (quiet_move config state worker actor made stand (stand.worker_states worker actor is).there is is_quiet aside.silent aside.gates aside.used)

  where_there : (actor : ActorState) (called : Called) (outcome : Outcome) (there : Bool) (next : State) → (state.worker_states worker).actor ≡ Some actor → IsQuiet actor.point
      → (if there then moved_if state worker actor (calling config state actor called outcome) else None) ≡ Some next → CountsStand config next
  where_there actor called outcome false next is is_quiet e = absurd (none_some next e)
  where_there actor called outcome true next is is_quiet e =
      let file : File = (state.tenant_states actor.tenant).file in
      let places : ℕ = (state.tenant_states actor.tenant).quota in
      let status : Status = state.cells.statuses called.change.slot in
      let place : ℕ = place_for called.call file places called.change.slot in
      after_call actor (calling config state actor called outcome) next is is_quiet
      (ends_aside state worker actor (state.worker_states worker).request called.change file (starts_from called.call status) (fails_on called.call file) (can_be_made called.call file places place (own_entries actor))
      called.call status place (calls_made called.call status file place) outcome) e

  at_call : (actor : ActorState) (called : Option Called) (outcome : Outcome) (next : State) → (state.worker_states worker).actor ≡ Some actor → called_at actor.point ≡ called
      → call_if config state worker actor called outcome ≡ Some next → CountsStand config next
  at_call actor None outcome next is at e = absurd (none_some next e)
  at_call actor (Some called) outcome next is at e = where_there actor called outcome (has_slot config called.change.slot) next is (quiet_of_call actor.point called at) e

  -- A call on a file keeps the counts.
  pub call_keeps : (request : Option ActorState) (outcome : Outcome) (next : State) → (state.worker_states worker).actor ≡ request → call config state worker request outcome ≡ Some next → CountsStand config next
  call_keeps None outcome next is e = absurd (none_some next e)
  call_keeps (Some actor) outcome next is e = at_call actor (called_at actor.point) outcome next is refl e
