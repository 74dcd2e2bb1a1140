-- Goals of `Client::cas` (src/client.rt).
use Rattle.std.proofs.Common.{subst}
use Rattle.mw_words.specs.declared.jobs.Job.TheVariants.{Cas}
use Rattle.mw_line.specs.declared.requests.Request.TheVariants.{Job}
use Rattle.mw_client.specs.declared.meanings.Failure.TheVariants.{MadeOrNot}
use Rattle.mw_client.specs.Exchanges.{IsAnsweredAtLast, outcome_told}
use Rattle.mw_client.proofs.client.Client.cas.Goals as goal

pub returns-clause-answered : goal.returns-clause-answered
returns-clause-answered g c = λ _ _. subst (λ asked. IsAnsweredAtLast (g.R.Read.remaining c.args.self.now.reader) (g.R.Read.remaining c.change_patiently.new.self.reader) (g.W.Write.contents c.args.self.now.writer) (g.W.Write.contents c.change_patiently.new.self.writer) (Job (Cas asked)) (outcome_told c.args.entries.now.items) MadeOrNot c.change_patiently.result) c.copy_of.ensures c.change_patiently.ensures.answered

pub returns-clause-lost : goal.returns-clause-lost
returns-clause-lost g c = c.change_patiently.ensures.lost

pub returns-clause-words : goal.returns-clause-words
returns-clause-words g c = c.change_patiently.ensures.words
