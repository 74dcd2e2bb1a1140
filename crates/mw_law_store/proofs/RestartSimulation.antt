-- After a start, each tenant's part of the world refines what the start leaves of its store alone (the reference model).
-- Used by: Started.
use Rattle.std.specs.Prelude.{ℕ, ◌≡◌, ◌<◌, ◌≤◌, ◌&&◌, ◌||◌, not, Bool, true, false, if◌then◌else◌, is_none, nat_le, bytes_eq, List, [], ◌∷◌, Option, Some, None}
use Rattle.std.proofs.Common.{refl, sym, ap, subst, ◌∙◌, arith}
use Rattle.std.proofs.lemmas.Bool.{and_from, le-leb}
use Rattle.std.proofs.lemmas.Option.{same_Some, none-some}
use Rattle.std.proofs.lemmas.Slice.Eq.{bytes_eq-Decides}
use Rattle.mw_words.specs.declared.jobs.Entry.{Entry}
use Rattle.mw_words.specs.Change.{put}
use Rattle.mw_words.specs.declared.limits.TheConstants.{MAX_QUOTA}
use Rattle.mw_lone.specs.Store.{Store, entries_in_doubt, is_quota, store_after_start}
use Rattle.mw_law_store.specs.Late.MarkEffects.{IsInDoubt, Restarts}
use Rattle.mw_world.specs.declared.config.Config.{Config}
use Rattle.mw_world.specs.Definition.Events.{Found}
use Rattle.mw_world.specs.Definition.Restarts.{takes, may_find, may_fail, may_interrupt, may_be_found, opened_file, found_of, quota_then, under_way, doubt_then, is_sealed_then, interrupted_request, reopened, restarted, restart}
use Rattle.mw_world.specs.Definition.State.{State, tenants_of}
use Rattle.mw_law_store.specs.Files.Files.{HasFiles}
use Rattle.mw_law_store.proofs.Files.ArrivalsAndStarts.{among_all}
use Rattle.mw_law_runs.specs.RunInvariant.{IsSound}
use Rattle.mw_law_runs.proofs.Counts.Startable.{may_start, start_tells}
use Rattle.mw_law_runs.proofs.GuardedEvents.{first_holds, second_holds}
use Rattle.mw_law_store.proofs.StartSimulation.{started_refines, leaves_in_doubt, could_be_cut}
use Rattle.mw_law_store.specs.WorldFacts.{HasWorldFacts}
use Rattle.mw_law_store.specs.Laws.{DecidedChangesFit}
use Rattle.mw_law_store.specs.Refinement.{Refines}

-- an optional value that a test lets through
if_some : {A : Type 0} (b : Bool) (x y : A) → (if b then Some x else None) ≡ Some y → (b ≡ true) × (x ≡ y)
if_some true x y e = (refl, same_Some x y e)
if_some false x y e = absurd (none-some y e)

same_words : (words other : List ℕ) → bytes_eq words other ≡ true → words ≡ other
same_words words other is = grind (arith, bytes_eq-Decides words other, is)

-- Words that may be found are those before, or, if the change in doubt is found, those with that change put over them.
found_so : (is_sealed : Bool) (before : List ℕ) (doubt : List Entry) (words : List ℕ) → may_find is_sealed before doubt words ≡ true → words ≡ (if takes before doubt words then put before doubt else before)
found_so true before [] words may = same_words words before may
found_so true before (entry ∷ entries) words may =
    same_words words (put before (entry ∷ entries)) may ∙ ap (λ (b : Bool). if b then put before (entry ∷ entries) else before) (sym may)
found_so false before doubt words may = by_test (takes before doubt words) refl
  where
    took : (some : List Entry) → takes before some words ≡ true → words ≡ put before some
    took [] is = absurd (cc)
    took (entry ∷ entries) is = same_words words (put before (entry ∷ entries)) is

    true_false : true ≡ false → ⊥
    true_false e = cc

    or_first : (a b : Bool) → a || b ≡ true → b ≡ false → a ≡ true
    or_first true b either none = refl
    or_first false b either none = absurd (true_false (sym either ∙ none))

    by_test : (taken : Bool) → takes before doubt words ≡ taken → words ≡ (if taken then put before doubt else before)
    by_test true is = took doubt is
    by_test false is = same_words words before (or_first (bytes_eq words before) (takes before doubt words) may is)

-- if a change in doubt is found, there is one
in_doubt : (store : Store) (interrupted : Option ℕ) (before words : List ℕ) (doubt : List Entry) → doubt ≡ entries_in_doubt store interrupted → takes before doubt words ≡ true → IsInDoubt store interrupted
in_doubt store (Some number) before words doubt same is = tt
in_doubt store None before words doubt same is = λ none. empty_not doubt (same ∙ none) is
  where
    empty_not : (some : List Entry) → some ≡ [] → takes before some words ≡ true → ⊥
    empty_not [] e took = cc
    empty_not (entry ∷ entries) e took = cc

opened_words : (words : List ℕ) (fails : Option ℕ) → (opened_file words fails).contents ≡ words
opened_words words None = refl
opened_words words (Some number) = refl

opened_failed : (words : List ℕ) (fails : Option ℕ) → (opened_file words fails).has_failed ≡ not (is_none fails)
opened_failed words None = refl
opened_failed words (Some number) = refl

opened_doubt : (words : List ℕ) (fails : Option ℕ) → (opened_file words fails).doubt ≡ []
opened_doubt words None = refl
opened_doubt words (Some number) = refl

-- a quota that fits is one that a tenant may have
fits_test : (quota : ℕ) → (1 ≤ quota) × (quota ≤ MAX_QUOTA) → is_quota quota ≡ true
fits_test quota fits = and_from (nat_le 1 quota) (nat_le quota MAX_QUOTA) (le-leb 1 quota fits.0) (le-leb quota MAX_QUOTA fits.1)

-- A start of all is the store's Restart, if a change that is decided to be made fits its file's words.
pub restart_refines : (config : Config) (state next : State) (founds : List Found) (tenant : ℕ) (store : Store) → DecidedChangesFit → IsSound config state → HasFiles config state → HasWorldFacts state
    → tenant < tenants_of config → Refines state tenant store → restart config state founds ≡ Some next
    → let found = found_of founds tenant in let call = under_way config state found.interrupted in let file = (state.tenant_states tenant).file in
    (t : Store) × Restarts store (interrupted_request call) (takes file.contents (doubt_then file call) found.words) (is_none found.fails_at) (quota_then (state.tenant_states tenant) found) t × Refines next tenant t
restart_refines config state next founds tenant store decided sound files world_facts low refines is =
    let found = found_of founds tenant in
    let call = under_way config state found.interrupted in
    let file = (state.tenant_states tenant).file in
    let before = file.contents in
    let doubt = doubt_then file call in
    let take = takes before doubt found.words in
    let opened = is_none found.fails_at in
    let quota = quota_then (state.tenant_states tenant) found in
    let came = if_some (may_start config state founds) (restarted config state founds) next is in
    let starts = start_tells config state founds came.0 in
    let may : may_be_found config state tenant found ≡ true =
    among_all config state founds (tenants_of config) tenant starts.found low in
    let found_there = may_find (is_sealed_then call) before doubt found.words in
    let both : may_interrupt config state tenant found.interrupted && found_there ≡ true =
    first_holds (may_interrupt config state tenant found.interrupted && found_there) (may_fail found.opening_calls found.fails_at) may in
    let cut : may_interrupt config state tenant found.interrupted ≡ true = first_holds (may_interrupt config state tenant found.interrupted) found_there both in
    let finds : found_there ≡ true = second_holds (may_interrupt config state tenant found.interrupted) found_there both in
    let left = leaves_in_doubt config state tenant store sound files refines in
    let same_doubt : doubt ≡ entries_in_doubt store (interrupted_request call) = left.in_doubt found.interrupted cut in
    let words = if take then put store.words (entries_in_doubt store (interrupted_request call)) else store.words in
    let same_found : found.words ≡ words =
    found_so (is_sealed_then call) before doubt found.words finds
    ∙ ap (λ (w : List ℕ). if take then put w doubt else w) left.words ∙ ap (λ (d : List Entry). if take then put store.words d else store.words) same_doubt in (
      store_after_start store words opened quota,
      record {
        could_be_interrupted = could_be_cut config state tenant store found.interrupted decided sound files world_facts refines cut;
        is_in_doubt = λ taken. in_doubt store (interrupted_request call) before found.words doubt same_doubt taken;
        may_be_given = fits_test quota (starts.quotas.each tenant low);
        after = refl;
      },
      subst (λ (s : State). Refines s tenant (store_after_start store words opened quota)) came.1
          (started_refines config (λ other. reopened (state.tenant_states other) (found_of founds other) (under_way config state (found_of founds other).interrupted)) tenant (store_after_start store words opened quota)
          (opened_words found.words found.fails_at ∙ same_found) refl refl (opened_failed found.words found.fails_at) (opened_doubt found.words found.fails_at) refines.holds.next refl),
    )
