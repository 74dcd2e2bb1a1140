-- Defines what a player's world and output are after one more step. Used by: src/lines.rt, src/player.rt, src/program.rt.
use Rattle.std.specs.Prelude.{ℕ, ◌≡◌, ◌++◌, Bool, true, List, [], ◌∷◌, Option, Result, Ok, Err, OnOk}
use Rattle.std.specs.Io.KnownBytes.{Appends}
use Rattle.mw_world.specs.declared.config.Config.{Config}
use Rattle.mw_world.specs.declared.events.Event.{Event}
use Rattle.mw_world.specs.declared.events.Event.TheVariants.{Come, Step, File, Hand, Restart}
use Rattle.mw_world.specs.Definition.Events.{WorldEvent}
use Rattle.mw_simulator.specs.declared.world.World.{World}
use Rattle.mw_simulator.specs.CallEnds.{is_good}
use Rattle.mw_simulator.specs.Events.{AllTell, IsAfterRun, Tells}
use Rattle.mw_simulator.specs.Representation.{Represents}
use Rattle.mw_schedule.specs.declared.schedule.Command.{Command}
use Rattle.mw_schedule.specs.declared.schedule.Command.TheVariants as command
use Rattle.mw_schedule.specs.declared.schedule.ScheduleLine.{ScheduleLine}
use Rattle.mw_world.specs.Definition.State.{State}
use Rattle.mwreplay.specs.declared.player.PlayFault.{PlayFault}
use Rattle.mwreplay.specs.declared.player.PlayFault.TheVariants.{NotEnabled, LastNumber, DidNotArrive, Memory, Output}
use Rattle.mwreplay.specs.declared.player.Player.{Player}
use Rattle.mwreplay.specs.Printed.{PrintedLine, text_of, told_in, told_of}

-- The event is a step of the worker, or a call on its file in which no device call fails.
abbrev pub IsTurn : ℕ → Event → Type 0
IsTurn worker (Come other tenant job) = ⊥
IsTurn worker (Step other) = other ≡ worker
IsTurn worker (File other outcome) = (other ≡ worker) × (is_good outcome ≡ true)
IsTurn worker (Hand other) = ⊥
IsTurn worker (Restart stops) = ⊥

-- each of these events is such a step or call
abbrev pub AreTurns : ℕ → List Event → Type 0
AreTurns worker [] = Unit {0}
AreTurns worker (event ∷ events) = IsTurn worker event × AreTurns worker events

-- These events are what a command asks for, if it was played to its end.
abbrev pub Obeys : Command → List Event → Type 0
Obeys (command.Come worker tenant job) events = events ≡ Come worker tenant job ∷ []
Obeys (command.Step worker) events = events ≡ Step worker ∷ []
Obeys (command.File worker outcome) events = events ≡ File worker outcome ∷ []
Obeys (command.Before worker kind) events = AreTurns worker events
Obeys (command.To worker kind) events = AreTurns worker events
Obeys (command.End worker) events = (turns : List Event) × AreTurns worker turns × (events ≡ turns ++ Hand worker ∷ [])
Obeys (command.Restart stops) events = events ≡ Restart stops ∷ []

-- The rest is empty, except if the output takes no more.
abbrev pub IsRest : Result (Unit {0}) PlayFault → List ℕ → Type 0
IsRest (Ok x) rest = rest ≡ []
IsRest (Err NotEnabled) rest = rest ≡ []
IsRest (Err LastNumber) rest = rest ≡ []
IsRest (Err DidNotArrive) rest = rest ≡ []
IsRest (Err Memory) rest = rest ≡ []
IsRest (Err Output) rest = Unit {0}

-- A text was written to its end, or to where the output takes no more.
pub record Writes (before now : Option (List ℕ)) (text : List ℕ) (result : Result (Unit {0}) PlayFault) : Type 0 where
  pub sent : List ℕ
  pub rest : List ℕ
  pub whole : text ≡ sent ++ rest
  pub is_rest : IsRest result rest
  pub wrote : Appends before now sent

-- After these events of the world further ones happened, and the world in memory is the one after all of them. If the
-- result is Ok, the further ones are as `Are` asks. Their text was written, as `Writes` says.
pub record GoesOn (claims : Bool) (config : Config) (before now : Option (List ℕ)) (world : World) (happened : List WorldEvent) (Are : List Event → Type 0) (result : Result (Unit {0}) PlayFault) : Type 0 where
  pub events : List Event
  pub are : OnOk result (Are events)
  pub more : List WorldEvent
  pub tell : AllTell events more
  pub stands : IsAfterRun world (happened ++ more)
  pub told : List PrintedLine
  pub are_told : told_in claims config (happened ++ more) ≡ told_in claims config happened ++ told
  pub writes : Writes before now (text_of config told) result

-- The two players have the same configuration, and both print claims or neither does.
pub record IsSame (old new : Player) : Type 0 where
  pub config : new.world.config ≡ old.world.config
  pub claims : new.tells_claims ≡ old.tells_claims

-- For each run that led to the old player's world, the new player extends it so.
abbrev pub Plays : Player → Player → Option (List ℕ) → Option (List ℕ) → (List Event → Type 0) → Result (Unit {0}) PlayFault → Type 0
Plays old new before now Are result = (happened : List WorldEvent) → IsAfterRun old.world happened
    → GoesOn old.tells_claims old.world.config before now new.world happened Are result

-- This is the text of the event, if it happens to this world.
abbrev pub IsTextOf : Bool → World → Event → List ℕ → Type 0
IsTextOf claims world event text = (state : State) (world_event : WorldEvent) → Represents world state → Tells event world_event
    → text ≡ text_of world.config (told_of claims world.config state world_event)

-- these events are what the commands of these lines ask for, one after the other
abbrev pub ObeysAll : List ScheduleLine → List Event → Type 0
ObeysAll [] events = events ≡ []
ObeysAll (line ∷ lines) events = (first : List Event) × (rest : List Event) × (events ≡ first ++ rest) × Obeys line.command first × ObeysAll lines rest
