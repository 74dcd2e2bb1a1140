-- Goals of `Cells::put` (src/cells.rt).
use Rattle.mw_world_memory.proofs.BitsMatchLaws.{put_is}
use Rattle.mw_world_memory.proofs.cells.Cells.put.Goals as goal

pub returns : goal.returns
returns c =
    let done = c.set in
    let facts = put_is c.args.self.now done.new.self c.args.at c.args.bits done.result done.ensures.there done.ensures.put in
    record { there = done.ensures.there; put = done.ensures.put; ties = facts.ties; places = facts.places; nowhere = facts.nowhere }
