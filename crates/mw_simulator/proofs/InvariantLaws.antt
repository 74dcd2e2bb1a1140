-- What holds after every run of the definition's world holds of each simulated world after a run.
-- Used by: World::new, World::step, World::run.
use Rattle.mw_world.specs.Definition.State.{first_openings}
use Rattle.mw_world.proofs.FirstInvariant.{new_worlds_start}
use Rattle.mw_law_store.proofs.Files.EnabledEvents.{every_run_holds}
use Rattle.mw_simulator.specs.declared.world.World.{World}
use Rattle.mw_simulator.specs.Invariant.{Holds}

pub holds : (world : World) → Holds world
holds world happened stands =
    every_run_holds world.config (first_openings world.config) happened stands.state
    (record { made = world.configured; starts = new_worlds_start world.config world.configured; runs = stands.runs })
