-- Goals of `Actor::inspected` (src/actor/moves.rt).
use Rattle.std.specs.Prelude.{ℕ, ◌≡◌}
use Rattle.std.proofs.Common.{ap, ◌∙◌, eq-eqb}
use Rattle.mw_words.specs.declared.jobs.Entry.{Entry}
use Rattle.mw_words.specs.declared.words.Word.{Word}
use Rattle.mw_words.specs.declared.words.Word.TheVariants.{Plain, Dirty}
use Rattle.mw_actor.specs.declared.points.Task.{Task}
use Rattle.mw_actor.specs.ActorState.{ActorState, entry_of}
use Rattle.mw_actor.specs.Inspection.{attempts, dirty_seen, inspected}
use Rattle.mw_actor.proofs.actor.Actor.inspected.Goals as goal

-- a plain word with the expected value leads to an attempt
plain_as_expected : (actor : ActorState) (next : ℕ) (task : Task) (entry : ℕ) {word : Word} {value : ℕ} {found : Entry}
    → word ≡ Plain value → value ≡ found.expected → found ≡ entry_of actor task entry → inspected actor next task entry word ≡ attempts task entry next
plain_as_expected actor next task entry is same found_is = rw (is, eq-eqb _ _ (same ∙ ap (λ (e : Entry). e.expected) found_is))

-- a dirty word with the expected value leads to the change that its slot names
dirty_as_expected : (actor : ActorState) (next : ℕ) (task : Task) (entry : ℕ) {word : Word} {slot value : ℕ} {found : Entry}
    → word ≡ Dirty slot value → value ≡ found.expected → found ≡ entry_of actor task entry → inspected actor next task entry word ≡ dirty_seen task entry slot value
dirty_as_expected actor next task entry is same found_is = rw (is, eq-eqb _ _ (same ∙ ap (λ (e : Entry). e.expected) found_is))

-- the request makes an attempt
pub returns-in-Plain : goal.returns-in-Plain
returns-in-Plain c = cc (plain_as_expected c.args.self.now c.args.next c.args.task c.args.entry c.in-Plain.is c.if-value-expected.true c.entry-expected.ensures.is)

-- it looks at the slot that the word names
pub returns-in-Dirty : goal.returns-in-Dirty
returns-in-Dirty c = cc (dirty_as_expected c.args.self.now c.args.next c.args.task c.args.entry c.in-Dirty.is c.if-value-expected-2.true c.entry-expected.ensures.is)
