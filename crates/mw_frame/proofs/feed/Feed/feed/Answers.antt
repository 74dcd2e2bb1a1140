-- Goals of `Feed::feed` (src/feed.rt).
use Rattle.std.proofs.Common.{arith}
use Rattle.std.proofs.lemmas.Grind.{common_steps}
use Rattle.mw_frame.proofs.Ends.{searched_more}
use Rattle.mw_frame.proofs.feed.Feed.feed.Goals as goal

pub invariant_of-self : goal.invariant_of-self
invariant_of-self c = grind (arith, common_steps, searched_more)
