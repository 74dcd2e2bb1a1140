-- What a thread knows of finished requests and sealed changes is right, and stays so when more is sealed, when it is split,
-- and when threads meet.
-- Used by: knowledge_stays_right, mw_table, mw_law_threads.
use Rattle.std.specs.Prelude.{ℕ, ◌+◌, ◌≡◌, ◌≤◌, ◌<◌, List, [], ◌++◌, length}
use Rattle.std.proofs.Common.{refl, sym, ap, subst, arith}
use Rattle.std.proofs.lemmas.List.{length-append}
use Rattle.std.proofs.lemmas.Option.{none-some}
use Rattle.mw_world.specs.declared.config.Config.{Config}
use Rattle.mw_world.specs.Claim.Headline.{IsExecution}
use Rattle.mw_world.specs.Definition.Events.{WorldEvent}
use Rattle.mw_world.specs.Definition.State.{State, TenantStart, tenants_of}
use Rattle.mw_rule.specs.FromLaws.{IsBeginning, IsRightAt, SealedChange, sealed_of, words_at_start}
use Rattle.mw_rule.proofs.FromLaws.{places_stay_right, sealed_are_right}
use Rattle.mw_rule.specs.declared.views.Finished.{Finished}
use Rattle.mw_rule.specs.declared.views.View.{View}
use Rattle.mw_rule.specs.Steps.{IsPrefix}
use Rattle.mw_rule.specs.Splits.{without_file, takes_files, dealt, with_file_given, merges, learns, left_over, meets, note}
use Rattle.mw_rule.specs.Laws.{MeetingsAreRight, PartsAreRight}
use Rattle.mw_rule.specs.Rule.{AreRight, Each, IsFinished, HasEvidenceIfWhole, IsOfThese, IsRight, IsRightAmong, has, notes_of, quota_given, words_given}
use Rattle.mw_rule.specs.Prefixes.{ArePrefixes, Gave, opening_at, seen_at}
use Rattle.mw_rule.proofs.WorkerStretches.{begins_itself}
use Rattle.mw_rule.proofs.FinishedRequests.{each_of_head, each_of_rest, head_own, parts_sum, rest_own}
use Rattle.mw_rule.proofs.Totals.{each_more, each_on, heads_and_rests, times_behind, times_more}

-- A finished request stays right if more is sealed after the others, and the tenants' quotas and words are the same.
pub right_on : (tenants : ℕ) (quotas quota : ℕ → ℕ) (words now : ℕ → List ℕ) (sealed after : ℕ → List SealedChange) → ((tenant : ℕ) → tenant < tenants → quotas tenant ≡ quota tenant)
    → ((tenant : ℕ) → tenant < tenants → words tenant ≡ now tenant)
    → ((tenant : ℕ) → tenant < tenants → IsBeginning (sealed tenant) (after tenant)) → (one : Finished) → IsRightAmong tenants quotas words sealed one → IsRightAmong tenants quota now after one
right_on tenants quotas quota words now sealed after as_many same begins one right =
    let first = begins one.tenant right.there in
    let long = ap (λ (changes : List SealedChange). length changes) first.parted in
    let within = right.within in
    let stays = places_stay_right (words one.tenant) (sealed one.tenant) first.rest one.place one.request one.job one.reply within right.right in
    record {
      there = right.there;
      within = omega (arith, long, length-append (sealed one.tenant) first.rest, within);
      right = subst (λ (start : List ℕ). IsRightAt start (after one.tenant) one.place one.request one.job one.reply) (same one.tenant right.there)
          (subst (λ (all : List SealedChange). IsRightAt (words one.tenant) all one.place one.request one.job one.reply) (sym first.parted) stays);
      evidence = subst (λ (n : ℕ). HasEvidenceIfWhole n one) (as_many one.tenant right.there) right.evidence;
    }

-- a finished request is right in a world
abbrev pub IsRightIn : Config → (ℕ → TenantStart) → State → Finished → Type 0
IsRightIn config openings state one = IsRightAmong (tenants_of config) (λ tenant. (state.tenant_states tenant).quota) (words_at_start openings state) (sealed_of openings state) one

-- A thread knows what a start gave, and the changes that it saw are prefixes of those of a world.
module _ (config : Config) (openings : ℕ → TenantStart) (state : State) (view : View) (same : view.config ≡ config)
    (gave : (tenant : ℕ) → tenant < tenants_of config → Gave openings state tenant (opening_at view.openings tenant)) where
  -- what is right among the changes that the thread saw is right in the world
  pub mine_in : ArePrefixes (tenants_of config) view.seen (sealed_of openings state) → (mine : List Finished) → Each (IsFinished view) mine → Each (IsRightIn config openings state) mine
  mine_in seen mine right = each_on (IsFinished view) (IsRightIn config openings state) (λ one so.
      right_on (tenants_of config) (quota_given view) (λ tenant. (state.tenant_states tenant).quota) (words_given view) (words_at_start openings state) (seen_at view.seen) (sealed_of openings state)
      (λ tenant low. sym (gave tenant low).quota) (λ tenant low. sym (gave tenant low).words) seen one
      (subst (λ (c : Config). IsRightAmong (tenants_of c) (quota_given view) (words_given view) (seen_at view.seen) one) same so)) mine right

  -- if the thread saw all changes, what is right in the world is right among those that it saw
  pub sees_right : (events : List WorldEvent) → IsExecution config openings events state → ((tenant : ℕ) → tenant < tenants_of config → seen_at view.seen tenant ≡ sealed_of openings state tenant)
      → Each (IsRightIn config openings state) view.mine → ((tenant request : ℕ) → notes_of tenant request view ≤ 1) → Each (IsOfThese view.tokens) view.mine → ((worker : ℕ) → has worker view ≤ 1) → IsRight view
  sees_right events played all mine once own alone = record {
    changes = λ tenant low.
        let there = subst (λ (c : Config). tenant < tenants_of c) same low in
        let right = sealed_are_right config openings events state tenant played there in
        subst (λ (words : List ℕ). AreRight words (seen_at view.seen tenant)) (gave tenant there).words
        (subst (AreRight (words_at_start openings state tenant)) (sym (all tenant there)) (record { fit = right.fit; once = right.once }));
    mine = each_on (IsRightIn config openings state) (IsFinished view) (λ one so.
        subst (λ (c : Config). IsRightAmong (tenants_of c) (quota_given view) (words_given view) (seen_at view.seen) one) (sym same)
        (right_on (tenants_of config) (λ tenant. (state.tenant_states tenant).quota) (quota_given view) (words_at_start openings state) (words_given view) (sealed_of openings state) (seen_at view.seen)
        (λ tenant low. (gave tenant low).quota) (λ tenant low. (gave tenant low).words)
        (λ tenant low. subst (IsBeginning (sealed_of openings state tenant)) (sym (all tenant low)) (begins_itself (sealed_of openings state tenant))) one so)) view.mine mine;
    once = once;
    own = own;
    alone = alone;
  }

-- an empty list of changes is right
pub nothing_right : (words : List ℕ) → AreRight words []
nothing_right words = record { fit = λ place one at. absurd (none-some one at); once = λ place other one another at its same. absurd (none-some one at) }

-- The parts of right knowledge are right.
pub left_right : (view : View) → IsRight view → IsRight (left_over view)
left_right view right = record {
  changes = right.changes;
  mine = each_of_rest (IsFinished view) view.tokens view.mine right.mine;
  once = λ tenant request. let sum = parts_sum tenant request view.tokens view.mine in let few = right.once tenant request in omega (arith, sum, few);
  own = rest_own view.tokens view.mine right.own;
  alone = λ worker. let sum = heads_and_rests worker view.tokens in let few = right.alone worker in omega (arith, sum, few);
}

pub dealt_right : (view : View) → IsRight view → IsRight (dealt view)
dealt_right view right = record {
  changes = right.changes;
  mine = each_of_head (IsFinished view) view.tokens view.mine right.mine;
  once = λ tenant request. let sum = parts_sum tenant request view.tokens view.mine in let few = right.once tenant request in omega (arith, sum, few);
  own = head_own view.tokens view.mine right.own;
  alone = λ worker. let sum = heads_and_rests worker view.tokens in let few = right.alone worker in omega (arith, sum, few);
}

pub note_right : (view : View) → IsRight view → IsRight (note view)
note_right view right = record { changes = right.changes; mine = tt; once = λ tenant request. omega arith; own = tt; alone = λ worker. omega arith }

pub learns_right : (view other : View) → IsRight view → IsRight (learns view other)
learns_right view other right = record { changes = right.changes; mine = right.mine; once = right.once; own = right.own; alone = right.alone }

pub without_file_right : (view : View) → IsRight view → IsRight (without_file view)
without_file_right view right = record { changes = right.changes; mine = right.mine; once = right.once; own = right.own; alone = right.alone }

pub with_file_given_right : (view : View) → IsRight view → IsRight (with_file_given view)
with_file_given_right view right = record { changes = right.changes; mine = tt; once = λ tenant request. omega arith; own = tt; alone = λ worker. omega arith }

pub takes_files_right : (view other : View) → IsRight view → IsRight (takes_files view other)
takes_files_right view other right = record { changes = right.changes; mine = right.mine; once = right.once; own = right.own; alone = right.alone }

pub parts_are_right : PartsAreRight
parts_are_right view other right = (
  left_right view right,
  dealt_right view right,
  note_right view right,
  learns_right view other right,
  without_file_right view right,
  with_file_given_right view right,
  takes_files_right view other right,
)

-- When a thread takes what another saw, which saw no less.
pub meets_right : (view its : View) → ((tenant : ℕ) → tenant < tenants_of view.config → words_given its tenant ≡ words_given view tenant) → its.config ≡ view.config
    → IsPrefix (tenants_of view.config) view.seen its.seen → IsRight view → IsRight its → IsRight (meets view its)
meets_right view its same config first right its_right = record {
  changes = λ tenant low.
      subst (λ (words : List ℕ). AreRight words (seen_at its.seen tenant)) (same tenant low) (its_right.changes tenant (subst (λ (c : Config). tenant < tenants_of c) (sym config) low));
  mine = each_on (IsFinished view) (IsFinished (meets view its)) (λ one so.
      right_on (tenants_of view.config) (quota_given view) (quota_given view) (words_given view) (words_given view) (seen_at view.seen) (seen_at its.seen) (λ tenant low. refl) (λ tenant low. refl) first one so) view.mine right.mine;
  once = right.once;
  own = right.own;
  alone = right.alone;
}

-- When two threads' knowledge is merged, the second of which saw no less.
pub merges_right : (view its : View) → ((tenant : ℕ) → tenant < tenants_of view.config → quota_given its tenant ≡ quota_given view tenant) → ((tenant : ℕ) → tenant < tenants_of view.config → words_given its tenant ≡ words_given view tenant) → its.config ≡ view.config
    → IsPrefix (tenants_of view.config) view.seen its.seen → ((tenant request : ℕ) → notes_of tenant request view + notes_of tenant request its ≤ 1) → ((worker : ℕ) → has worker view + has worker its ≤ 1)
    → IsRight view → IsRight its → IsRight (merges view its)
merges_right view its as_many same config first once alone right its_right =
    let met = meets_right view its same config first right its_right in
    record {
      changes = met.changes;
      mine = each_more (IsFinished (merges view its)) view.mine its.mine (each_on (IsFinished (meets view its)) (IsFinished (merges view its)) (λ one so. so) view.mine met.mine)
          (each_on (IsFinished its) (IsFinished (merges view its)) (λ one so.
          right_on (tenants_of view.config) (quota_given its) (quota_given view) (words_given its) (words_given view) (seen_at its.seen) (seen_at its.seen) as_many same (λ tenant low. begins_itself (seen_at its.seen tenant)) one
          (subst (λ (c : Config). IsRightAmong (tenants_of c) (quota_given its) (words_given its) (seen_at its.seen) one) config so)) its.mine its_right.mine);
      once = λ tenant request. let few = once tenant request in let sum = times_more tenant request view.mine its.mine in omega (arith, few, sum);
      own = each_more (IsOfThese (view.tokens ++ its.tokens)) view.mine its.mine
          (each_on (IsOfThese view.tokens) (IsOfThese (view.tokens ++ its.tokens)) (λ one so. let sum = times_behind one.worker view.tokens its.tokens in omega (arith, sum, so)) view.mine right.own)
          (each_on (IsOfThese its.tokens) (IsOfThese (view.tokens ++ its.tokens)) (λ one so. let sum = times_behind one.worker view.tokens its.tokens in omega (arith, sum, so)) its.mine its_right.own);
      alone = λ worker. let few = alone worker in let sum = times_behind worker view.tokens its.tokens in omega (arith, few, sum);
    }

pub meetings_are_right : MeetingsAreRight
meetings_are_right view its right its_right config openings first =
    meets_right view its (λ tenant low. ap (λ (all : List TenantStart). (opening_at all tenant).words) openings) config first right its_right
