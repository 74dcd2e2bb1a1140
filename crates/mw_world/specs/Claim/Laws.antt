-- States laws of the definitions: what a shared word holds after a write, and what one event more does to a run.
-- Used by: src/laws.rt.
use Rattle.std.specs.Prelude.{◌≡◌, ◌≢◌, List, [], ◌∷◌, ◌++◌}
use Rattle.std.specs.Option.{option_and_then}
use Rattle.mw_words.specs.declared.places.At.{At}
use Rattle.mw_look.specs.Places.{Val}
use Rattle.mw_world.specs.declared.config.Config.{Config}
use Rattle.mw_world.specs.Definition.Cells.{Cells, read, write}
use Rattle.mw_world.specs.Definition.Events.{WorldEvent}
use Rattle.mw_world.specs.Definition.State.{State}
use Rattle.mw_world.specs.Definition.World.{step, run}

-- a read of a place gives what was last written there
abbrev pub ReadSame : Type 0
ReadSame = (cells : Cells) (at : At) (x : Val at) → read (write cells at x) at ≡ x

-- a write to one place changes no other
abbrev pub ReadOther : Type 0
ReadOther = (cells : Cells) (at other : At) (x : Val at) → other ≢ at → read (write cells at x) other ≡ read cells other

-- The world after a list of events and one more is the world after the list, with the step of that event.
abbrev pub RunExtends : Type 0
RunExtends = (config : Config) (state : State) (events : List WorldEvent) (event : WorldEvent) →
    run config state (events ++ event ∷ []) ≡ option_and_then (λ next. step config next event) (run config state events)
