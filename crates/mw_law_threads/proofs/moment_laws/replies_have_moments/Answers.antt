-- Proves the law `replies_have_moments`.
use Rattle.mw_law_threads.proofs.Moments.MomentLaws.{replies_have_moments, shared_words_are_the_files}
use Rattle.mw_law_threads.proofs.moment_laws.replies_have_moments.Goals as goal

pub returns-clause-moments : goal.returns-clause-moments
returns-clause-moments c = replies_have_moments

pub returns-clause-shared : goal.returns-clause-shared
returns-clause-shared c = shared_words_are_the_files
