-- Proves the law `others_leave_files`.
use Rattle.mw_law_store.proofs.Quotas.{events_tell_quotas}
use Rattle.mw_rule.proofs.Calls.OtherEventLaws.{others_leave_files, others_leave_files_long}
use Rattle.mw_rule.proofs.call_laws.others_leave_files.Goals as goal

pub returns : goal.returns
returns c = record { event = others_leave_files; long = others_leave_files_long; quotas = events_tell_quotas }
