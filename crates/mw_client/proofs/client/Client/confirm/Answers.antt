-- Goals of `Client::confirm` (src/client.rt).
use Rattle.std.proofs.Common.{Ok, ap, ◌∙◌, arith}
use Rattle.mw_client.specs.Exchanges.{Exchanged}
use Rattle.mw_client.proofs.Retries.{answered_yes}
use Rattle.std.proofs.lemmas.Grind.{common_steps}
use Rattle.mw_client.proofs.client.Client.confirm.Goals as goal

pub returns-in-Ok-Made-clause-confirmed : goal.returns-in-Ok-Made-clause-confirmed
returns-in-Ok-Made-clause-confirmed g c = λ made. record {
  left_then = g.R.Read.remaining c.args.self.now.reader;
  taken_then = g.W.Write.contents c.args.self.now.writer;
  yes = rw (← c.copy_of.ensures) (answered_yes (Exchanged (g.R.Read.remaining c.args.self.now.reader) (g.R.Read.remaining c.change.new.self.reader) (g.W.Write.contents c.args.self.now.writer) (g.W.Write.contents c.change.new.self.writer) _) c.args.seen.now.items c.change.result c.change.ensures.answered (c.in-Ok-Made.is ∙ ap Ok c.in-Ok-Made.field-0-is));
}

pub returns-in-Err : goal.returns-in-Err
returns-in-Err c = grind (arith, common_steps)
