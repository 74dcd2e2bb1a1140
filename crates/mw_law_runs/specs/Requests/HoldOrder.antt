-- Defines the order in which a change's request holds the words: one after another, from the first entry on.
-- Used by: src/request_laws.rt.
use Rattle.std.specs.Prelude.{ℕ, zero, suc, ◌≡◌, ◌≤◌, ◌<◌, Bool, true, false, cond, List, [], ◌∷◌, length}
use Rattle.arrayvec.specs.ArrayVec.{ArrayVec}
use Rattle.mw_words.specs.declared.jobs.Entry.{Entry}
use Rattle.mw_words.specs.declared.jobs.Job.TheVariants.{Cas}
use Rattle.mw_words.specs.declared.places.At.TheVariants.{Data, Status as AtStatus}
use Rattle.mw_words.specs.declared.statuses.Status.TheVariants.{Open, YesDirty}
use Rattle.mw_words.specs.declared.words.Word.TheVariants.{Plain, Planted}
use Rattle.mw_look.specs.declared.steps.Kind.TheVariants.{Plant as PlantKind, DecideYes as DecideYesKind}
use Rattle.mw_look.specs.declared.observations.Observation.TheVariants.{SawWord, SawStatus}
use Rattle.mw_look.specs.Steps.{Step, Load, Change}
use Rattle.mw_look.specs.Runs.{Event, Happened, loaded}
use Rattle.mw_actor.specs.declared.points.Slot.{Slot}
use Rattle.mw_actor.specs.declared.points.Task.{Task}
use Rattle.mw_actor.specs.declared.points.Point.TheVariants.{Plant, DecideYes}
use Rattle.mw_actor.specs.ActorState.{ActorState, first, entries_of, entry_at, held}
use Rattle.mw_actor.specs.Asks.{asks}
use Rattle.mw_law_runs.specs.Requests.Runs.{Heard, after, past}

-- the step loads a status
abbrev pub loads_status : Step → Bool
loads_status (Load (AtStatus slot)) = true
loads_status step = false

-- the steps since a status was last loaded, including that load
abbrev pub this_look : List Event → List Event
this_look [] = []
this_look (latest ∷ earlier) = cond (loads_status latest.asked) (latest ∷ []) (latest ∷ this_look earlier)

-- The target's status was loaded as open. Then the words of its first `entry` entries were loaded in their order, each held for the target. The
-- latest step comes first.
abbrev pub seen_held : ℕ → Slot → List Entry → ℕ → List Event
seen_held tenant target entries zero = loaded (AtStatus target.slot) (SawStatus Open) ∷ []
seen_held tenant target entries (suc entry) = loaded (Data tenant (entry_at entries entry).addr) (SawWord (held target)) ∷ seen_held tenant target entries entry

-- This entry of a change is the next to hold. It is one of the change's entries. The word of each entry before it was seen held since a status was
-- last loaded; that status was the change's own, and open.
pub record IsNextToHold (tenant : ℕ) (target : Slot) (entries : List Entry) (entry : ℕ) (events : List Event) : Type 0 where
  pub is_one : entry < length entries
  pub seen : Happened (seen_held tenant target entries entry) (this_look events)

-- The step plants the worker's own attempt at the word of the target's entry that is next to hold, for the entry's expected value.
pub record PlantsNext (tenant : ℕ) (actor : ActorState) (step : Step) (events : List Event) : Type 0 where
  pub task : Task
  pub entry : ℕ
  pub number : ℕ
  pub stands : actor.point ≡ Plant task entry number
  pub asked : step ≡ Change PlantKind (Data tenant (entry_at (entries_of actor task) entry).addr) (Plain (entry_at (entries_of actor task) entry).expected) (Planted actor.worker number)
  pub next : IsNextToHold tenant task.target (entries_of actor task) entry events

-- The step decides that the target is made, after each of its words was seen held since its status was loaded as open.
pub record DecidesHeld (tenant : ℕ) (actor : ActorState) (step : Step) (events : List Event) : Type 0 where
  pub task : Task
  pub stands : actor.point ≡ DecideYes task
  pub asked : step ≡ Change DecideYesKind (AtStatus task.target.slot) Open YesDirty
  pub seen : Happened (seen_held tenant task.target (entries_of actor task) (length (entries_of actor task))) (this_look events)

-- If the step plants, it is at the next entry to hold; if it decides that a change is made, all words were seen held.
abbrev pub IsInRising : ℕ → ActorState → List Event → Step → Type 0
IsInRising tenant actor events (Change PlantKind at from to) = PlantsNext tenant actor (Change PlantKind at from to) events
IsInRising tenant actor events (Change DecideYesKind at from to) = DecidesHeld tenant actor (Change DecideYesKind at from to) events
IsInRising tenant actor events step = Unit {0}

-- a change with at least one entry plants in the order of the entries, of its own or of its target, and decides last
abbrev pub PlantsRise : Type 0
PlantsRise = (worker tenant quota pool : ℕ) (entries : ArrayVec Entry) (heard : List Heard) → 1 ≤ length entries.items →
    let begun = first worker tenant quota pool (Cas entries) in
    IsInRising tenant (after begun heard) (past begun heard) (asks (after begun heard))
