-- Proves the law `outside_leaves_room`.
use Rattle.mw_law_store.proofs.Files.Room.{outside_leaves_room}
use Rattle.mw_law_store.proofs.file_laws.outside_leaves_room.Goals as goal

pub returns : goal.returns
returns c = outside_leaves_room
