-- Goals of `Lone::ask` (src/lone.rt).
use Rattle.std.proofs.Common.{◌≡◌, IsTrue, length, subst, sym, arith}
use Rattle.mw_words.specs.Change.{is_well_formed}
use Rattle.mw_lone.proofs.SoundStores.{sound-insert}
use Rattle.mw_plain.proofs.lone.Lone.ask.Goals.{in-Ok, in-Err}
use Rattle.std.proofs.lemmas.Grind.{common_steps}
use Rattle.mw_plain.proofs.lone.Lone.ask.Goals as goal

pub invariant_of-self : goal.invariant_of-self
invariant_of-self c =
    let len : c.len.result ≡ length c.self.inside.words.items = omega arith in
    let fine = subst (λ k. IsTrue (is_well_formed k c.args.job)) len (sym c.if-not-is_well_formed.ensures) in
    elim c.match-ask.branch [
      | in-Ok w ↦ rw w.in-Ok.ensures.ok (sound-insert _ _ _ _ _ fine c.self.invariant)
      | in-Err w ↦ rw w.in-Err.ensures.err c.self.invariant
    ]

pub returns-clause-taken : goal.returns-clause-taken
returns-clause-taken c = grind (arith, common_steps)
