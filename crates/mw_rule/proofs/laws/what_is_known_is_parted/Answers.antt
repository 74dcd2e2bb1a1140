-- Proves the law `what_is_known_is_parted`.
use Rattle.mw_rule.proofs.SplitLaws.{taking_files_keeps, deals_keep, giving_files_keeps, merging_keeps, learning_keeps, meeting_keeps, notes_keep}
use Rattle.mw_rule.proofs.laws.what_is_known_is_parted.Goals as goal

pub returns-clause-deals : goal.returns-clause-deals
returns-clause-deals g c = λ key. deals_keep (g.B.Begins.config key) (g.B.Begins.begun key)

pub returns-clause-notes : goal.returns-clause-notes
returns-clause-notes g c = λ key. notes_keep (g.B.Begins.config key) (g.B.Begins.begun key)

pub returns-clause-learns : goal.returns-clause-learns
returns-clause-learns g c = λ key. learning_keeps (g.B.Begins.config key) (g.B.Begins.begun key)

pub returns-clause-meets : goal.returns-clause-meets
returns-clause-meets g c = λ key. meeting_keeps (g.B.Begins.config key) (g.B.Begins.begun key)

pub returns-clause-merges : goal.returns-clause-merges
returns-clause-merges g c = λ key. merging_keeps (g.B.Begins.config key) (g.B.Begins.begun key)

pub returns-clause-gives_file : goal.returns-clause-gives_file
returns-clause-gives_file g c = λ key. giving_files_keeps (g.B.Begins.config key) (g.B.Begins.begun key)

pub returns-clause-takes_files : goal.returns-clause-takes_files
returns-clause-takes_files g c = λ key. taking_files_keeps (g.B.Begins.config key) (g.B.Begins.begun key)
