-- Defines when the replies of a session that borrows its passes are right in one history, one after the other.
-- Used by: src/laws.rt. A change here changes what such a client is promised.
use Rattle.std.specs.Prelude.{ℕ, ◌≡◌, ◌≤◌, ◌<◌, List, [], ◌∷◌, length, Option, Some, None}
use Rattle.mw_words.specs.declared.jobs.Job.{Job}
use Rattle.mw_words.specs.declared.replies.Reply.{Reply}
use Rattle.mw_words.specs.declared.replies.Reply.TheVariants.{Yes as SaysYes}
use Rattle.mw_session.specs.Talk.{Call, Finds, Asks, Counts}
use Rattle.mw_rule.specs.FromLaws.{IsRightAt, SealedChange}
use Rattle.mw_rule.specs.Prefixes.{opening_at, seen_at}
use Rattle.mw_rule.specs.Steps.{IsPrefix}
use Rattle.mw_world.specs.Definition.State.{tenants_of}
use Rattle.mw_engine.specs.Brand.{Identity}
use Rattle.mw_engine.specs.FromBelow.{Note, said_in}

-- what a session has seen: for each tenant the sealed changes that its note says; nothing while it has no note
abbrev pub seen_in : Option Note → List (List SealedChange)
seen_in None = []
seen_in (Some kept) = (said_in kept).seen

-- A reply is right in this history of its tenant, `all`: at a place that is no earlier than what the session had seen before
-- it, and no later than what it has seen with it. The change of a YES is one that it has seen with the reply, and had not seen
-- before. So two YES of one session have two changes.
pub record IsPlaced (identity : Identity) (all before with_it : List (List SealedChange)) (tenant : ℕ) (job : Job) (reply : Reply) : Type 0 where
  pub there : tenant < tenants_of identity.config
  pub request : ℕ
  pub place : ℕ
  pub no_earlier : length (seen_at before tenant) ≤ place
  pub no_later : place ≤ length (seen_at with_it tenant)
  pub own : reply ≡ SaysYes → place < length (seen_at with_it tenant)
  pub right : IsRightAt (opening_at identity.openings tenant).words (seen_at all tenant) place request job reply

-- From what a session had seen on, the replies to its calls are right in one history, `all`, each after those before it. What
-- the session has seen only grows, and is the beginning of that history.
abbrev pub AreInOrder : Identity → List (List SealedChange) → List (List SealedChange) → List Call → Type 0
AreInOrder identity all before [] = IsPrefix (tenants_of identity.config) before all
AreInOrder identity all before (Finds name found ∷ later) = AreInOrder identity all before later
AreInOrder identity all before (Asks tenant job reply ∷ later) =
    (with_it : List (List SealedChange)) × IsPrefix (tenants_of identity.config) before with_it × IsPlaced identity all before with_it tenant job reply × AreInOrder identity all with_it later
AreInOrder identity all before (Counts figures ∷ later) = (with_it : List (List SealedChange)) × IsPrefix (tenants_of identity.config) before with_it × AreInOrder identity all with_it later
