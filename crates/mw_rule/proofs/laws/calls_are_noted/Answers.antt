-- Proves the law `calls_are_noted`.
use Rattle.mw_rule.proofs.WholeCallLaws.{calls_begin, calls_take_files, calls_dealt, calls_end, calls_file, calls_give_back, calls_go_on, calls_meet, calls_stand, calls_start}
use Rattle.mw_rule.proofs.laws.calls_are_noted.Goals as goal

pub returns-clause-begin : goal.returns-clause-begin
returns-clause-begin c = calls_begin

pub returns-clause-go_on : goal.returns-clause-go_on
returns-clause-go_on c = calls_go_on

pub returns-clause-take_files : goal.returns-clause-take_files
returns-clause-take_files c = calls_take_files

pub returns-clause-start : goal.returns-clause-start
returns-clause-start c = calls_start

pub returns-clause-give_back : goal.returns-clause-give_back
returns-clause-give_back c = calls_give_back

pub returns-clause-file : goal.returns-clause-file
returns-clause-file c = calls_file

pub returns-clause-stand : goal.returns-clause-stand
returns-clause-stand c = calls_stand

pub returns-clause-meet : goal.returns-clause-meet
returns-clause-meet c = calls_meet

pub returns-clause-dealt : goal.returns-clause-dealt
returns-clause-dealt c = calls_dealt

pub returns-clause-end : goal.returns-clause-end
returns-clause-end c = calls_end
