-- Proves the law `one_sealed_place_settles_alone`.
use Rattle.mw_file.proofs.NewPlaces.{freed_alone}
use Rattle.mw_file.proofs.SharedSettles.{freed_one, one_calls, one_count}
use Rattle.mw_file.proofs.laws.one_sealed_place_settles_alone.Goals as goal

pub returns-clause-calls : goal.returns-clause-calls
returns-clause-calls c at words states place only = one_calls at words states place only

pub returns-clause-count : goal.returns-clause-count
returns-clause-count c states place only = one_count states place only

pub returns-clause-freed : goal.returns-clause-freed
returns-clause-freed c old new place only settled = freed_one old new place only (freed_alone old new settled)
