-- Proves the law `knowledge_stays_right`.
use Rattle.mw_rule.proofs.Apart.{changes_are_own}
use Rattle.mw_rule.proofs.FilesOfSeen.{files_are_of_seen}
use Rattle.mw_rule.proofs.FinishedRequests.{merged_parts_again, notes_lose_nothing}
use Rattle.mw_rule.proofs.KnowledgeIsRight.{meetings_are_right, parts_are_right}
use Rattle.mw_rule.proofs.laws.knowledge_stays_right.Goals as goal

pub returns-clause-parts : goal.returns-clause-parts
returns-clause-parts c = parts_are_right

pub returns-clause-meetings : goal.returns-clause-meetings
returns-clause-meetings c = meetings_are_right

pub returns-clause-nothing_lost : goal.returns-clause-nothing_lost
returns-clause-nothing_lost c = notes_lose_nothing

pub returns-clause-part_again : goal.returns-clause-part_again
returns-clause-part_again c = merged_parts_again

pub returns-clause-own : goal.returns-clause-own
returns-clause-own c = changes_are_own

pub returns-clause-files : goal.returns-clause-files
returns-clause-files c = files_are_of_seen
