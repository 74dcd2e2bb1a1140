-- Loop invariants of `mended` (src/client.rt).
use Rattle.std.specs.Prelude.{IsTrue}
use Rattle.std.specs.List.{list_all}
use Rattle.mw_client.specs.Exchanges.{keeps}
use Rattle.mw_client.proofs.client.mended.Given as goal

abbrev pub invariant-loop-entry : goal.invariant-loop-entry
invariant-loop-entry l = IsTrue (list_all keeps l.entries.items)
