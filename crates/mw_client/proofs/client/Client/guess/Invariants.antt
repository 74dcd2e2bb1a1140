-- Loop invariants of `Client::guess` (src/client.rt).
use Rattle.std.specs.Prelude.{IsTrue}
use Rattle.std.specs.List.{list_all}
use Rattle.mw_client.specs.Exchanges.{keeps}
use Rattle.mw_client.proofs.client.Client.guess.Given as goal

abbrev pub invariant-loop-address : goal.invariant-loop-address
invariant-loop-address g l = IsTrue (list_all keeps l.seen.items)
