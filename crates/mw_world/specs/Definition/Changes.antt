-- Defines what a step of a request does to its shared word, and what it observes there.
-- Used by: many crates from mw_law_runs on.
use Rattle.std.specs.Prelude.{◌-◌, ◌==◌, true, cond}
use Rattle.mw_words.specs.declared.places.At.{At}
use Rattle.mw_words.specs.declared.places.At.TheVariants.{Door as AtDoor, Gate as AtGate}
use Rattle.mw_pool.specs.Moves.{after_unpin}
use Rattle.mw_look.specs.declared.steps.Kind.{Kind}
use Rattle.mw_look.specs.declared.steps.Kind.TheVariants.{Unpin as UnpinKind, Drop as DropKind, Fault as FaultKind}
use Rattle.mw_look.specs.declared.steps.Shape.{Shape}
use Rattle.mw_look.specs.declared.steps.Shape.TheVariants.{Exchange, Store, Fetch}
use Rattle.mw_look.specs.declared.observations.Observation.{Observation}
use Rattle.mw_look.specs.declared.observations.Observation.TheVariants.{Won, Lost}
use Rattle.mw_look.specs.Places.{Val, pack}
use Rattle.mw_look.specs.Observations.{seen}
use Rattle.mw_look.specs.Shapes.{shape_of}
use Rattle.mw_look.specs.Steps.{Step, Load, Change, File}
use Rattle.mw_world.specs.Definition.Cells.{Cells, read, write}

-- The value after a fetch: a gate with one pin less, a door that counts one slot less, or a door with the fault.
abbrev pub fetched : Kind → (at : At) → Val at → Val at
fetched UnpinKind (AtGate slot) gate = after_unpin gate
fetched DropKind (AtDoor tenant) door = record door { used = door.used - 1 }
fetched FaultKind (AtDoor tenant) door = record door { fault = true }
fetched kind at x = x

-- What follows a change of a word, given the shared words after it and the observation. An exchange compares bits,
-- and changes nothing if it loses.
abbrev pub changed : {A : Type 0} → Shape → Kind → (at : At) → Val at → Val at → Cells → (Cells → Observation → A) → A
changed Exchange kind at from to cells then = cond (pack at (read cells at) == pack at from) (then (write cells at to) Won) (then cells Lost)
changed Store kind at from to cells then = then (write cells at to) Won
changed Fetch kind at from to cells then = then (write cells at (fetched kind at (read cells at))) (seen at (read cells at))

-- What follows a step, given the shared words after it and the observation. A call on a file does nothing here:
-- Calls.antt defines it.
abbrev pub done : {A : Type 0} → Step → Cells → (Cells → Observation → A) → A
done (Load at) cells then = then cells (seen at (read cells at))
done (Change kind at from to) cells then = changed (shape_of kind) kind at from to cells then
done (File call slot) cells then = then cells Won
