-- Goals of `ClaimLog::latest` (src/claims.rt).
use Rattle.std.proofs.Common.{◌∙◌, rules}
use Rattle.std.proofs.lemmas.Iterator.Adapters.{YieldsList-from_rev_slice}
use Rattle.std.proofs.lemmas.Iterator.Search.{find_from_yields_List}
use borrow.Author.Tests.{tests}
use Rattle.mw_world_memory.specs.Claims.{is_under}
use Rattle.mw_world_memory.proofs.claims.ClaimLog.latest.Goals as goal

pub returns : goal.returns
returns c =
    c.copied.ensures
    ∙ find_from_yields_List (λ claim. is_under claim.own c.args.change.slot c.args.change.seq) _ _ c.find.result c.find.ensures.ran
    (YieldsList-from_rev_slice c.args.self.now.claims.items (search rules)) (λ x b q k. search (rules, tests))
