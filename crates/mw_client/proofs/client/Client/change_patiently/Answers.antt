-- Goals of `Client::change_patiently` (src/client.rt).
use Rattle.std.proofs.Common.{◌∙◌, sym}
use Rattle.mw_client.proofs.Retries.{once_more}
use Rattle.mw_client.proofs.client.Client.change_patiently.Goals as goal

pub loop-preserved : goal.loop-preserved
loop-preserved g c =
    let left = g.R.Read.remaining in
    let taken = g.W.Write.contents in
    record {
      asked = once_more (left c.args.self.now.reader) (left c.loop.self.reader) (left c.change-told.new.self.reader) (taken c.args.self.now.writer) (taken c.loop.self.writer) (taken c.change-told.new.self.writer) c.args.request.now c.args.entries.now.items c.change-told.result c.loop.invariant.asked c.change-told.ensures.answered (sym c.is_busy.ensures ∙ c.if-not-is_busy.false);
      words = c.change-told.ensures.words ∙ c.loop.invariant.words;
    }
