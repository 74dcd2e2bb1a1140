-- The rule of the shared words has one run behind all views. What each view has finished is right among all sealed changes of
-- that run, and each request counts once over all views.
-- Used by: every_moment_has_one_history.
use Rattle.std.specs.Prelude.{ℕ, zero, suc, ◌≡◌, ◌≢◌, ◌≤◌, ◌⊎◌, ◌++◌, List, [], ◌∷◌, slice_get, Some}
use Rattle.std.proofs.Common.{refl, sym, ap, subst, ◌∙◌, inl, inr, arith}
use Rattle.std.proofs.lemmas.Bool.{cases_eq}
use Rattle.std.proofs.lemmas.Bool.Decides.{nat_tests}
use Rattle.std.proofs.lemmas.Option.{same_Some, none-some}
use mathlib.Core.Option.{some}
use mathlib.Core.Option.{some-injective}
use lib.ListN.{get_elem?}
use Rattle.atomic_table.specs.Table.{State as Table}
use Rattle.mw_words.specs.declared.replies.Reply.TheVariants.{Yes as SaysYes}
use Rattle.mw_lone.specs.Store.{entries_of}
use Rattle.mw_actor.specs.ActorState.{ActorState}
use Rattle.mw_world.specs.declared.config.Config.{Config}
use Rattle.mw_world.specs.Definition.Events.{WorldEvent}
use Rattle.mw_world.specs.Definition.State.{TenantStart, tenants_of, world_at}
use Rattle.mw_rule.specs.FromLaws.{IsRightAt, SealedChange, sealed_of}
use Rattle.mw_law_store.specs.ReplyPlaces.{words_at_start}
use Rattle.mw_law_threads.proofs.Whole.RefusedChangeLaws.{refused_requests_make_no_change}
use Rattle.mw_rule.specs.Prefixes.{seen_at}
use Rattle.mw_rule.specs.Rule.{Each, Fits, IsFinished, IsHandedOut, IsLive, IsRightAmong, IsSpent, TableInvariant, is_of, notes_of, quota_given, times_finished, weight, words_given}
use Rattle.mw_rule.specs.declared.views.Finished.{Finished}
use Rattle.mw_rule.specs.declared.views.View.{View}
use Rattle.mw_rule.proofs.KnowledgeIsRight.{right_on}
use Rattle.mw_rule.proofs.Totals.{total_one, total_two}
use Rattle.mw_law_threads.specs.History.OneHistory.{AreTwo, IsOneHistory, IsRightInRun, MomentsHaveOneHistory}

each_at : {A : Type 0} (P : A → Type 0) (all : List A) (index : ℕ) (one : A) → Each P all → slice_get all index ≡ Some one → P one
each_at P [] index one holds at = absurd (none-some one at)
each_at P (first ∷ rest) zero one holds at = subst P (same_Some first one at) holds.0
each_at P (first ∷ rest) (suc index) one holds at = each_at P rest index one holds.1 at

-- How often a finished request is counted.

weighs : (tenant request : ℕ) (one : Finished) → one.tenant ≡ tenant → one.request ≡ request → weight (is_of tenant request one) ≡ 1
weighs tenant request one its number = grind (arith, nat_tests, its, number)

counted : (tenant request : ℕ) (mine : List Finished) (index : ℕ) (one : Finished) → slice_get mine index ≡ Some one → one.tenant ≡ tenant → one.request ≡ request → 1 ≤ times_finished tenant request mine
counted tenant request [] index one at its number = absurd (none-some one at)
counted tenant request (first ∷ rest) zero one at its number =
    let here = weighs tenant request first (ap (λ (that : Finished). that.tenant) (same_Some first one at) ∙ its) (ap (λ (that : Finished). that.request) (same_Some first one at) ∙ number) in omega (arith, here)
counted tenant request (first ∷ rest) (suc index) one at its number = let later = counted tenant request rest index one at its number in omega (arith, later)

counted_twice : (tenant request : ℕ) (mine : List Finished) (index another : ℕ) (one that : Finished) → index ≢ another → slice_get mine index ≡ Some one → slice_get mine another ≡ Some that
    → one.tenant ≡ tenant → one.request ≡ request → that.tenant ≡ tenant → that.request ≡ request → 2 ≤ times_finished tenant request mine
counted_twice tenant request [] index another one that apart at there its number also same = absurd (none-some one at)
counted_twice tenant request (first ∷ rest) zero zero one that apart at there its number also same = absurd (apart refl)
counted_twice tenant request (first ∷ rest) zero (suc another) one that apart at there its number also same =
    let here = weighs tenant request first (ap (λ (it : Finished). it.tenant) (same_Some first one at) ∙ its) (ap (λ (it : Finished). it.request) (same_Some first one at) ∙ number) in
    let later = counted tenant request rest another that there also same in omega (arith, here, later)
counted_twice tenant request (first ∷ rest) (suc index) zero one that apart at there its number also same =
    let here = weighs tenant request first (ap (λ (it : Finished). it.tenant) (same_Some first that there) ∙ also) (ap (λ (it : Finished). it.request) (same_Some first that there) ∙ same) in
    let later = counted tenant request rest index one at its number in omega (arith, here, later)
counted_twice tenant request (first ∷ rest) (suc index) (suc another) one that apart at there its number also same =
    let later = counted_twice tenant request rest index another one that (λ is. apart (ap suc is)) at there its number also same in omega (arith, later)

module _ (config : Config) (begun : (ℕ → TenantStart) → List WorldEvent → Type 0) (s : Table ActorState View) (rule : TableInvariant config begun s) where
  right_in_run : (view : View) (index : ℕ) (one : Finished) → Fits config rule.past.openings rule.state rule.events view → Each (IsHandedOut config (world_at config rule.past.openings) (rule.past.before ++ rule.events)) view.mine
      → slice_get view.mine index ≡ Some one → IsRightInRun config rule.past.openings rule.past.before rule.events rule.state one
  right_in_run view index one fits handed at =
      let known = each_at (IsFinished view) view.mine index one fits.right.mine at in
      let openings = rule.past.openings in
      let state = rule.state in
      let so = subst (λ (c : Config). IsRightAmong (tenants_of c) (quota_given view) (words_given view) (seen_at view.seen) one) fits.same_config known in
      let right = right_on (tenants_of config) (quota_given view) (λ tenant. (state.tenant_states tenant).quota) (words_given view) (words_at_start openings state) (seen_at view.seen) (sealed_of openings state)
      (λ tenant low. sym (fits.gave tenant low).quota) (λ tenant low. sym (fits.gave tenant low).words) fits.seen one so in
      record { there = right.there; within = right.within; right = right.right; handed = each_at (IsHandedOut config (world_at config openings) (rule.past.before ++ rule.events)) view.mine index one handed at }

  none_mine : (view : View) (index : ℕ) (one : Finished) → IsSpent view → slice_get view.mine index ≡ Some one → ⊥
  none_mine view index one spent at = none-some one (ap (λ (mine : List Finished). slice_get mine index) (sym spent.no_mine) ∙ at)

  right : (id index : ℕ) (view : View) (one : Finished) → get_elem? s.views id ≡ some view → slice_get view.mine index ≡ Some one → IsRightInRun config rule.past.openings rule.past.before rule.events rule.state one
  right id index view one at mine = elim (rule.fits id view at) [
    | inl spent ↦ absurd (none_mine view index one spent mine)
    | inr fits ↦ right_in_run view index one fits (rule.known id view at).handed mine
  ]

  -- no request is finished twice
  numbers : (id other index another : ℕ) (view its : View) (one that : Finished) → get_elem? s.views id ≡ some view → get_elem? s.views other ≡ some its → slice_get view.mine index ≡ Some one → slice_get its.mine another ≡ Some that
      → one.tenant ≡ that.tenant → ((id ≡ other) × (index ≡ another) → ⊥) → one.request ≢ that.request
  numbers id other index another view its one that at there mine also tenant apart same = elim (cases_eq other id) [
    | inl one_view ↦
        let is : view ≡ its = some-injective view its (sym at ∙ ap (get_elem? s.views) (sym one_view) ∙ there) in
        let twice = counted_twice one.tenant one.request view.mine index another one that (λ same_index. apart (sym one_view, same_index)) mine
        (ap (λ (it : View). slice_get it.mine another) is ∙ also) refl refl (sym tenant) (sym same) in
        let most = total_one (notes_of one.tenant one.request) s.views id view at in
        let once = rule.once one.tenant one.request in omega (arith, twice, most, once)
    | inr two_views ↦
        let here = counted one.tenant one.request view.mine index one mine refl refl in
        let more = counted one.tenant one.request its.mine another that also (sym tenant) (sym same) in
        let most = total_two (notes_of one.tenant one.request) s.views id other view its two_views at there in
        let once = rule.once one.tenant one.request in omega (arith, here, more, most, once)
  ]

  -- a YES at a position is to the request whose change is there
  yes_at : (one : Finished) → IsRightInRun config rule.past.openings rule.past.before rule.events rule.state one → one.reply ≡ SaysYes
      → slice_get (sealed_of rule.past.openings rule.state one.tenant) one.place ≡ Some (record { request = one.request; entries = entries_of one.job })
  yes_at one is said = subst (IsRightAt (words_at_start rule.past.openings rule.state one.tenant) (sealed_of rule.past.openings rule.state one.tenant) one.place one.request one.job) said is.right

  own_changes : (one that : Finished) → IsRightInRun config rule.past.openings rule.past.before rule.events rule.state one → IsRightInRun config rule.past.openings rule.past.before rule.events rule.state that
      → one.tenant ≡ that.tenant → one.request ≢ that.request → one.reply ≡ SaysYes → that.reply ≡ SaysYes → one.place ≢ that.place
  own_changes one that is its tenant apart said also same =
      let here = yes_at one is said in
      let there = yes_at that its also in
      let one_place : slice_get (sealed_of rule.past.openings rule.state one.tenant) one.place ≡ slice_get (sealed_of rule.past.openings rule.state that.tenant) that.place =
      λ i. slice_get (sealed_of rule.past.openings rule.state (tenant i)) (same i) in
      apart (ap (λ (change : SealedChange). change.request) (same_Some _ _ (sym here ∙ (one_place ∙ there))))

  two : (id other index another : ℕ) (view its : View) (one that : Finished) → get_elem? s.views id ≡ some view → get_elem? s.views other ≡ some its → slice_get view.mine index ≡ Some one → slice_get its.mine another ≡ Some that
      → one.tenant ≡ that.tenant → ((id ≡ other) × (index ≡ another)) ⊎ AreTwo one that
  two id other index another view its one that at there mine also tenant = elim (cases_eq id other) [
    | inl one_view ↦ elim (cases_eq index another) [ inl one_index ↦ inl (one_view, one_index) | inr apart ↦ inr (are_two (λ same. apart same.1)) ]
    | inr apart ↦ inr (are_two (λ same. apart same.0))
  ]
    where
      are_two : ((id ≡ other) × (index ≡ another) → ⊥) → AreTwo one that
      are_two apart =
          let distinct = numbers id other index another view its one that at there mine also tenant apart in
          record { numbers = distinct; changes = own_changes one that (right id index view one at mine) (right other another its that there also) tenant distinct }

  spent_or_live : (view : View) → IsSpent view → IsLive view → ⊥
  spent_or_live view spent (inl alive) = let e = spent.flag in cc
  spent_or_live view spent (inr (one, rest, are)) = let e = spent.no_tokens in cc

  pub fits_live : (id : ℕ) (view : View) → get_elem? s.views id ≡ some view → IsLive view → Fits config rule.past.openings rule.state rule.events view
  fits_live id view at live = elim (rule.fits id view at) [ inl spent ↦ absurd (spent_or_live view spent live) | inr fits ↦ fits ]

  pub one_history : IsOneHistory config begun s rule
  one_history = record {
    known = λ id view at. (rule.known id view at).known;
    gave = λ id tenant view at live low. (fits_live id view at live).gave tenant low;
    seen = λ id tenant view at live low. (fits_live id view at live).seen tenant low;
    right = right;
    two = two;
    refused = λ id index view one at mine tells.
        let is = right id index view one at mine in
        refused_requests_make_no_change config rule.past.openings (rule.past.before ++ rule.events) rule.state one.tenant is.handed.0 one.request one.reply rule.past.played is.there is.handed.1 tells;
  }

pub moments_have_one_history : (config : Config) (begun : (ℕ → TenantStart) → List WorldEvent → Type 0) → MomentsHaveOneHistory config begun
moments_have_one_history config begun s rule = one_history config begun s rule
