-- After every run with numbers left, the words of each tenant's file hold every change that was answered YES.
-- Used by: every_run_is_durably_linearizable, mw_rule, mw_simulator.
use Rattle.std.specs.Prelude.{slice_get}
use Rattle.std.proofs.Common.{sym, ap, ◌∙◌}
use Rattle.mw_world.specs.Claim.Headline.{EveryRunIsDurablyLinearizable}
use Rattle.mw_world.specs.Definition.State.{marks_of}
use Rattle.mw_law_store.specs.DurabilityInRuns.{RunsKeepAcknowledged}
use Rattle.mw_law_store.proofs.DurabilityLaws.{seals_are_held}

-- the theorem implies it
pub runs_hold_changes : EveryRunIsDurablyLinearizable → RunsKeepAcknowledged
runs_hold_changes serves config openings events state tenant of_run there =
    let alone = serves config openings events state tenant of_run there in
    let all = seals_are_held (openings tenant).words (openings tenant).quota (openings tenant).is_up (marks_of state tenant) alone.store alone.legal in
    (alone.left.words ∙ all.0, λ place n at. all.1 place n (ap (λ replies. slice_get replies place) (sym alone.replies) ∙ at))
