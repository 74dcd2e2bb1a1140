-- If every run is durably linearizable, then runs that leave a tenant the same marks give it the same replies.
-- Used by: equal_marks_have_equal_replies, mw_law_store.
use Rattle.std.proofs.Common.{◌∙◌, sym, ap}
use Rattle.mw_lone.specs.Store.{replies_from}
use Rattle.mw_world.specs.Claim.Headline.{EveryRunIsDurablyLinearizable, EqualMarksHaveEqualReplies}
use Rattle.mw_world.specs.Definition.State.{marks_of, store_at}

-- the replies are a function of the tenant's first state and its marks
pub equal_marks : EveryRunIsDurablyLinearizable → EqualMarksHaveEqualReplies
equal_marks serves config other openings starts events others state there tenant its is is_other low low_other same marks =
    (serves config openings events state tenant is low).replies
    ∙ ap (λ first. replies_from first (marks_of state tenant)) same
    ∙ ap (λ one. replies_from (store_at (starts its)) one) marks
    ∙ sym (serves other starts others there its is_other low_other).replies
