-- Proves the law `calls_end`.
use Rattle.mw_rule.proofs.Calls.CallEndLaws.{calls_end_well, calls_find_faults, calls_meet_faults, calls_skip}
use Rattle.mw_rule.proofs.call_laws.calls_end.Goals as goal

pub returns : goal.returns
returns c = record { skip = calls_skip; well = calls_end_well; meet_faults = calls_meet_faults; find_faults = calls_find_faults }
