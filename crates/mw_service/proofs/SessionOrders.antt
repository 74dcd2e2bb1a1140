-- The replies of a session that borrows its passes are right in one history, in order. Used by: src/laws.rt, mw_law_threads.
use Rattle.std.specs.Prelude.{ℕ, ◌≡◌, ◌≤◌, ◌<◌, ◌⊎◌, List, [], ◌∷◌, ◌++◌, length, slice_get, slice_index_or, Option, Some, None}
use Rattle.std.proofs.Common.{refl, sym, ap, subst, ◌∙◌, inl, inr, arith, length-append}
use Rattle.std.proofs.lemmas.Option.{none-some, slice_get_cases}
use Rattle.mw_words.specs.declared.jobs.Job.{Job}
use Rattle.mw_words.specs.declared.replies.Reply.{Reply}
use Rattle.mw_words.specs.declared.replies.Reply.TheVariants.{Yes as SaysYes}
use Rattle.mw_session.specs.Talk.{Call, Finds, Asks, Counts}
use Rattle.mw_session.specs.Transitions.{GoesThrough}
use Rattle.mw_rule.specs.FromLaws.{IsRightAt, SealedChange}
use Rattle.mw_rule.proofs.FromLaws.{places_stay_right}
use Rattle.mw_world.specs.declared.config.Config.{Config}
use Rattle.mw_world.specs.Definition.State.{TenantStart, tenants_of}
use Rattle.mw_rule.specs.Prefixes.{opening_at, seen_at}
use Rattle.mw_rule.specs.Rule.{Each, IsFinished}
use Rattle.mw_rule.specs.Steps.{IsPrefix}
use Rattle.mw_rule.specs.declared.views.Finished.{Finished}
use Rattle.mw_rule.proofs.WorkerStretches.{begins_itself, begins_on}
use Rattle.mw_engine.specs.Brand.{Identity}
use Rattle.mw_engine.specs.FromBelow.{Note, Pass, View}
use Rattle.mw_engine.specs.History.{IsAnswered}
use Rattle.mw_service.specs.Borrowed.{AnswersWith, Borrows, LearnsNote, Says}
use Rattle.mw_service.specs.SessionOrder.{AreInOrder, IsPlaced, seen_in}

-- a prefix of a prefix is one
prefix_on : (tenants : ℕ) (first between all : List (List SealedChange)) → IsPrefix tenants first between → IsPrefix tenants between all → IsPrefix tenants first all
prefix_on tenants first between all one two = λ tenant low. begins_on (seen_at first tenant) (seen_at between tenant) (seen_at all tenant) (one tenant low) (two tenant low)

prefix_itself : (tenants : ℕ) (all : List (List SealedChange)) → IsPrefix tenants all all
prefix_itself tenants all = λ tenant low. begins_itself (seen_at all tenant)

-- what a session has seen by its note is what the pass had seen that made it
says_seen : (last : View) (kept : Option Note) → Says last kept → seen_in kept ≡ last.seen
says_seen last None says = absurd says
says_seen last (Some made) says = ap (λ (view : View). view.seen) says

-- once it learned from a note, a pass has seen what the session had seen
module _ (before first : View) where
  pub learned_seen : (kept : Option Note) → LearnsNote kept before first → IsPrefix (tenants_of before.config) (seen_in kept) first.seen
  learned_seen None learns = λ tenant low. record { rest = seen_at first.seen tenant; parted = refl }
  learned_seen (Some said) learns = learns.seen

  pub learned_config : (kept : Option Note) → LearnsNote kept before first → first.config ≡ before.config
  learned_config None learns = ap (λ (view : View). view.config) learns
  learned_config (Some said) learns = learns.keeps.keeps.same_config

  pub learned_openings : (kept : Option Note) → LearnsNote kept before first → first.openings ≡ before.openings
  learned_openings None learns = ap (λ (view : View). view.openings) learns
  learned_openings (Some said) learns = learns.keeps.keeps.same_openings

-- what holds of each holds of the last one
pub last_of : (P : Finished → Type 0) (all : List Finished) (one : Finished) → Each P (all ++ one ∷ []) → P one
last_of P [] one each = each.0
last_of P (first ∷ rest) one each = last_of P rest one each.1

-- the place of a YES is the index of a change
own_change : (words : List ℕ) (sealed : List SealedChange) (place n : ℕ) (job : Job) (reply : Reply) → IsRightAt words sealed place n job reply → reply ≡ SaysYes → place < length sealed
own_change words sealed place n job reply right said = by (slice_get_cases sealed place).1
  where
    by : ((one : SealedChange) × (place < length sealed) × (slice_get sealed place ≡ Some one) × (slice_index_or sealed place one ≡ one)) ⊎ ((length sealed ≤ place) × (slice_get sealed place ≡ None)) → place < length sealed
    by (inl there) = there.1
    by (inr past) = absurd (none-some _ (sym past.1 ∙ subst (λ (one : Reply). IsRightAt words sealed place n job one) said right))

-- what was seen is the beginning of the history
grows : (identity : Identity) (all before : List (List SealedChange)) (calls : List Call) → AreInOrder identity all before calls → IsPrefix (tenants_of identity.config) before all
grows identity all before [] order = order
grows identity all before (Finds name found ∷ later) order = grows identity all before later order
grows identity all before (Asks tenant job reply ∷ later) order = prefix_on (tenants_of identity.config) before order.0 all order.1 (grows identity all order.0 later order.3)
grows identity all before (Counts figures ∷ later) order = prefix_on (tenants_of identity.config) before order.0 all order.1 (grows identity all order.0 later order.2)

-- what a session has seen grows with each answer
module _ (identity : Identity) (before after : Pass) (old new : Option Note) (borrows : Borrows identity before after old new) where
  abbrev first : View
  first = borrows.learned.seat.me.0

  abbrev last : View
  last = after.seat.me.0

  first_config : first.config ≡ identity.config
  first_config = learned_config before.seat.me.0 first old borrows.learns ∙ borrows.own.config

  seen_first : IsPrefix (tenants_of identity.config) (seen_in old) first.seen
  seen_first = subst (λ (config : Config). IsPrefix (tenants_of config) (seen_in old) first.seen) borrows.own.config (learned_seen before.seat.me.0 first old borrows.learns)

  pub seen_with : IsPrefix (tenants_of first.config) first.seen last.seen → IsPrefix (tenants_of identity.config) (seen_in old) (seen_in new)
  seen_with grew = prefix_on (tenants_of identity.config) (seen_in old) first.seen (seen_in new) seen_first
      (subst (λ (seen : List (List SealedChange)). IsPrefix (tenants_of identity.config) first.seen seen) (sym (says_seen last new borrows.says))
      (subst (λ (config : Config). IsPrefix (tenants_of config) first.seen last.seen) first_config grew))

  -- and its reply is right in a history that goes on from what it has seen with the reply
  pub placed : (all : List (List SealedChange)) (tenant : ℕ) (job : Job) (reply : Reply) → IsAnswered first last tenant job reply → IsPrefix (tenants_of identity.config) (seen_in new) all
      → IsPlaced identity all (seen_in old) (seen_in new) tenant job reply
  placed all tenant job reply answered goes_on =
      let one = answered.answered in
      let noted = last_of (IsFinished last) first.mine _ (subst (Each (IsFinished last)) one.noted answered.right.mine) in
      let there = subst (λ (config : Config). tenant < tenants_of config) (answered.keeps.same_config ∙ first_config) noted.there in
      let since = seen_first tenant there in
      let seen = says_seen last new borrows.says in
      let openings : last.openings ≡ identity.openings = answered.keeps.same_openings ∙ learned_openings before.seat.me.0 first old borrows.learns ∙ borrows.own.openings in
      let more = goes_on tenant there in
      let within = subst (λ (all_seen : List (List SealedChange)). one.place ≤ length (seen_at all_seen tenant)) (sym seen) one.within in
      let right = subst (λ (all_seen : List (List SealedChange)). IsRightAt (opening_at last.openings tenant).words (seen_at all_seen tenant) one.place answered.token.request job reply) (sym seen) one.right in
      let stays = places_stay_right (opening_at last.openings tenant).words (seen_at (seen_in new) tenant) more.rest one.place answered.token.request job reply within right in
      record {
        there = there;
        request = answered.token.request;
        place = one.place;
        no_earlier = shorter (seen_at (seen_in old) tenant) (seen_at first.seen tenant) since.rest one.place since.parted one.no_smaller;
        no_later = within;
        own = own_change (opening_at last.openings tenant).words (seen_at (seen_in new) tenant) one.place answered.token.request job reply right;
        right = subst (λ (given : List TenantStart). IsRightAt (opening_at given tenant).words (seen_at all tenant) one.place answered.token.request job reply) openings
            (subst (λ (sealed : List SealedChange). IsRightAt (opening_at last.openings tenant).words sealed one.place answered.token.request job reply) (sym more.parted) stays);
      }
    where
      shorter : (first all rest : List SealedChange) (place : ℕ) → all ≡ first ++ rest → length all ≤ place → length first ≤ place
      shorter first all rest place parted small =
          let long : length all ≡ length (first ++ rest) = ap length parted in
          let sum = length-append first rest in omega (arith, long, sum, small)

-- the replies are in order, whatever passes were borrowed
pub in_order : (identity : Identity) (calls : List Call) (old new : Option Note) → GoesThrough (AnswersWith identity) old calls new → AreInOrder identity (seen_in new) (seen_in old) calls
in_order identity [] old new same = subst (λ (kept : Option Note). IsPrefix (tenants_of identity.config) (seen_in old) (seen_in kept)) (sym same) (prefix_itself (tenants_of identity.config) (seen_in old))
in_order identity (Finds name found ∷ later) old new goes =
    subst (λ (kept : Option Note). AreInOrder identity (seen_in new) (seen_in kept) later) goes.1.0 (in_order identity later goes.0 new goes.2)
in_order identity (Asks tenant job reply ∷ later) old new goes =
    let rest = in_order identity later goes.0 new goes.2 in
    let answer = goes.1.2 in (
      seen_in goes.0,
      seen_with identity goes.1.0 goes.1.1 old goes.0 answer.borrows answer.answered.keeps.seen,
      placed identity goes.1.0 goes.1.1 old goes.0 answer.borrows (seen_in new) tenant job reply answer.answered (grows identity (seen_in new) (seen_in goes.0) later rest),
      rest,
    )
in_order identity (Counts figures ∷ later) old new goes =
    let rest = in_order identity later goes.0 new goes.2 in
    let counted = goes.1.2 in
    (seen_in goes.0, seen_with identity goes.1.0 goes.1.1 old goes.0 counted.borrows counted.keeps.seen, rest)
