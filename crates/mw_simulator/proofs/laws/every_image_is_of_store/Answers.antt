-- Proves the law `every_image_is_of_store`.
use Rattle.mw_law_store.proofs.RunSimulation.{every_run_is_durably_linearizable}
use Rattle.mw_simulator.proofs.OpenedImages.{images_of_store}
use Rattle.mw_simulator.proofs.laws.every_image_is_of_store.Goals as goal

pub returns : goal.returns
returns c = record { images = images_of_store every_run_is_durably_linearizable }
