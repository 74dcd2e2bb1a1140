-- Loop invariants of `Client::read` (src/client.rt).
use Rattle.std.specs.Prelude.{IsTrue}
use Rattle.std.specs.List.{list_all}
use Rattle.mw_client.specs.Exchanges.{keeps}
use Rattle.mw_client.proofs.client.Client.read.Given as goal

abbrev pub invariant-loop : goal.invariant-loop
invariant-loop g l = IsTrue (list_all keeps l.seen.items)
