-- Goals of `Plain::ask` (src/plain.rt).
use Rattle.std.proofs.Common.{arith}
use Rattle.mw_plain.specs.Cases.{AtStart, AtFinish}
use Rattle.mw_plain.proofs.Asks.{asks_done, asks_on}
use Rattle.std.proofs.lemmas.Grind.{common_steps}
use Rattle.mw_plain.proofs.plain.Plain.ask.Goals as goal

pub returns-in-Done-clause-answers : goal.returns-in-Done-clause-answers
returns-in-Done-clause-answers g c =
    let answers = c.in-Done.ensures.answers in
    (AtStart answers.0, asks_done g.D.Disk.facts answers.0 c.args.self.now c.start.new.self c.args.tenant c.args.job.now c.in-Done.reply c.requires.formed answers.1)

pub returns-in-Open-clause-answers : goal.returns-in-Open-clause-answers
returns-in-Open-clause-answers g c =
    let first = c.in-Open.ensures.answers in
    let last = c.finish.ensures.answers in
    (AtFinish last.0, asks_on g.D.Disk.facts first.0 c.args.self.now c.start.new.self c.finish.new.self c.args.tenant c.args.job.now c.in-Open.ticket last.0 c.finish.result c.requires.formed first.1 last.1)

pub returns-in-Open-clause-one : goal.returns-in-Open-clause-one
returns-in-Open-clause-one c = grind (arith, common_steps)
