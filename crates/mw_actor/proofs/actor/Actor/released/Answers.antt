-- Goals of `Actor::released` (src/actor/asks.rt).
use Rattle.std.proofs.Common.{ap, ◌∙◌}
use Rattle.mw_words.specs.declared.jobs.Entry.{Entry}
use Rattle.mw_words.specs.declared.words.Word.TheVariants.{Dirty}
use Rattle.mw_actor.proofs.actor.Actor.released.Goals as goal

-- a word of a change that is made gets the entry's new value
pub returns-in-Yes-clause-is : goal.returns-in-Yes-clause-is
returns-in-Yes-clause-is c = rw c.in-Yes.is (c.dirty.ensures ∙ ap (λ (e : Entry). Dirty c.args.task.target.slot e.new) c.entry.ensures.is)
