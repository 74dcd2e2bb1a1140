-- Goals of `reaches` (src/steps.rt).
use Rattle.std.proofs.Common.{◌≡◌, ◌-◌, length, Some, slice_get, subst}
use Rattle.mw_session.proofs.Jobs.{last_tells}
use Rattle.mw_session.proofs.steps.reaches.Goals as goal

pub returns-in-Some : goal.returns-in-Some
returns-in-Some c =
    let last = c.in-Some.last.now in
    last_tells c.args.words c.args.job.now c.in-Cas.entries last c.requires c.in-Cas.is
    (subst (λ xs. Some last ≡ slice_get xs (length xs - 1)) c.deref.ensures.0 c.in-Some.ensures.value)
