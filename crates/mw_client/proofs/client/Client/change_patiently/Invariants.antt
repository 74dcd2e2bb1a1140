-- Loop invariants of `Client::change_patiently` (src/client.rt).
use Rattle.std.proofs.Common.{◌≡◌}
use Rattle.mw_client.proofs.Retries.{InVain}
use Rattle.mw_client.proofs.client.Client.change_patiently.Given as goal

-- the request was sent in vain so far
abbrev pub invariant-loop : goal.invariant-loop
invariant-loop g l = record {
  asked : InVain (g.R.Read.remaining l.initial.self.reader) (g.R.Read.remaining l.self.reader) (g.W.Write.contents l.initial.self.writer) (g.W.Write.contents l.self.writer) l.fn.request;
  words : l.self.words ≡ l.initial.self.words;
}
