-- Defines at which stage of mw_file the change of a place is. Used by: mw_book, mw_world_file.
use Rattle.mw_file.specs.declared.place_states.Stage.{Stage}
use Rattle.mw_file.specs.declared.place_states.Stage.TheVariants.{Free as FreeStage, Prepared as PreparedStage, Sealed as SealedStage}
use Rattle.mw_world.specs.Files.State.{Place, Empty, Prepared, Sealed}

-- the stage of a place's change in `mw_file`: free, prepared or sealed
abbrev pub stage_told : Place → Stage
stage_told Empty = FreeStage
stage_told (Prepared entries) = PreparedStage
stage_told (Sealed entries) = SealedStage
