-- Proves the law `late_marks_leave_replies`.
use Rattle.mw_law_store.proofs.Replies.{late_marks_leave_replies}
use Rattle.mw_law_store.proofs.laws.late_marks_leave_replies.Goals as goal

pub returns : goal.returns
returns c = late_marks_leave_replies
