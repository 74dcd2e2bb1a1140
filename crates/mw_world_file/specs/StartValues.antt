-- Defines what a simulated file gives at a start: its words, or nothing if it has failed.
-- Used by: src/start_values.rt, mw_simulator.
use Rattle.std.specs.Prelude.{ℕ, ◌≡◌, true, false, Vec, MatchOption}
use Rattle.std.specs.declared.option.Option.{Option}
use Rattle.std.specs.declared.alloc.Global.{Global}
use Rattle.mw_world_file.specs.declared.simulated_file.SimulatedFile.{SimulatedFile}

-- a file gives its words at a start, or nothing if it has failed
abbrev pub IsGiven : SimulatedFile → Option (Vec ℕ Global) → Type 0
IsGiven book opening = MatchOption opening (book.has_failed ≡ true) (λ given. (book.has_failed ≡ false) × (given.items ≡ book.contents.items))
