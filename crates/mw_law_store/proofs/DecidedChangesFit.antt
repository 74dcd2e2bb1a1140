-- A change that is decided YES and not yet sealed still has its expected values in the words of its tenant's file.
-- Used by: changes_fit, mw_law_threads.
use Rattle.std.specs.Prelude.{ℕ, zero, suc, ◌≡◌, ◌≢◌, ◌<◌, ◌==◌, ◌&&◌, Bool, true, List, [], ◌∷◌, length, Option}
use Rattle.std.specs.List.{list_all}
use Rattle.std.specs.Option.{option_map_or}
use Rattle.std.proofs.Common.{refl, sym, ap, subst, ◌∙◌, arith}
use Rattle.std.proofs.lemmas.Bool.Decides.{nat_tests}
use Rattle.mw_words.specs.declared.jobs.Entry.{Entry}
use Rattle.mw_words.specs.declared.statuses.Status.{Status}
use Rattle.mw_words.specs.declared.statuses.Status.TheVariants.{Draft, YesDirty}
use Rattle.mw_words.specs.declared.words.Word.{Word}
use Rattle.mw_words.specs.Change.{fits, is_change, is_in_range, word_at}
use Rattle.mw_actor.specs.declared.points.Slot.{Slot}
use Rattle.mw_actor.specs.ActorState.{entry_at}
use Rattle.mw_world.specs.declared.config.Config.{Config}
use Rattle.mw_world.specs.declared.step_labels.Phase.{Phase}
use Rattle.mw_world.specs.declared.step_labels.Phase.TheVariants.{Fresh, Acquired, Written, Released}
use Rattle.mw_world.specs.Claim.Invariant.{MayBe}
use Rattle.mw_world.specs.Definition.History.{expected, has, new}
use Rattle.mw_world.specs.Definition.Logical.{held_value}
use Rattle.mw_world.specs.Definition.State.{State, tenant_at, tenants_of}
use Rattle.mw_law_runs.specs.Moves.Values.{told_at, value_told}
use Rattle.mw_law_runs.proofs.Moves.ValuesFromHistory.{words_tell}
use Rattle.mw_law_runs.specs.Knowledge.Facts.{IsKnown}
use Rattle.mw_law_runs.proofs.Knowledge.Reads.Memory.{has_word_at}
use Rattle.mw_law_runs.specs.RunInvariant.{IsSound}
use Rattle.mw_law_store.specs.Files.Files.{HasFiles}
use Rattle.mw_law_store.specs.WorldFacts.{HasWorldFacts}
use Rattle.mw_law_store.specs.Laws.{DecidedChangesFit}
use Rattle.mw_law_store.proofs.ReadKnowledge.{found_here}

-- a word of the file of a tenant that is up has the value that the history tells
pub value_is_now : (config : Config) (state : State) (tenant address : ℕ) → IsSound config state → HasFiles config state → tenant < tenants_of config → (state.tenant_states tenant).is_up ≡ true
    → address < (tenant_at config tenant).words → word_at (state.tenant_states tenant).file.contents address ≡ told_at state tenant address
value_is_now config state tenant address sound has low up within =
    sym ((has.told tenant low).shown up address within) ∙ words_tell config state tenant address sound.memory

-- each entry of a change is of one of the tenant's words
all_in_range : (words : ℕ) (entries : List Entry) → is_change words entries ≡ true → list_all (is_in_range words) entries ≡ true
all_in_range words entries is = grind (arith, nat_tests, is)

first_low : (words : ℕ) (entry : Entry) (entries : List Entry) → list_all (is_in_range words) (entry ∷ entries) ≡ true → entry.addr < words
first_low words entry entries is = grind (arith, nat_tests, is)

rest_in_range : (words : ℕ) (entry : Entry) (entries : List Entry) → list_all (is_in_range words) (entry ∷ entries) ≡ true → list_all (is_in_range words) entries ≡ true
rest_in_range words entry entries is = grind (arith, nat_tests, is)

low_at : (words : ℕ) (entries : List Entry) (index : ℕ) → list_all (is_in_range words) entries ≡ true → index < length entries → (entry_at entries index).addr < words
low_at words [] index all within = absurd (omega (arith, within))
low_at words (entry ∷ entries) zero all within = first_low words entry entries all
low_at words (entry ∷ entries) (suc index) all within = low_at words entries index (rest_in_range words entry entries all) (omega (arith, within))

pub word_within : (words : ℕ) (entries : List Entry) (index : ℕ) → is_change words entries ≡ true → index < length entries → (entry_at entries index).addr < words
word_within words entries index formed within = low_at words entries index (all_in_range words entries formed) within

-- a change fits words each of which has the value that its entry expects
both_so : (one two : Bool) → one ≡ true → two ≡ true → (one && two) ≡ true
both_so one two here there = grind (arith, here, there)

pub all_fit : (words : List ℕ) (entries : List Entry) → ((index : ℕ) → index < length entries → word_at words (entry_at entries index).addr ≡ (entry_at entries index).expected) → fits words entries ≡ true
all_fit words [] each = refl
all_fit words (entry ∷ entries) each =
    let first = each 0 (omega arith) in
    both_so (word_at words entry.addr == entry.expected) (fits words entries) (grind (arith, nat_tests, first))
    (all_fit words entries (λ index within. each (suc index) (omega (arith, within))))

-- a word of a change that is decided to be made is acquired for it
held_still : (status : Status) (phase : Phase) → status ≡ YesDirty → MayBe status phase → phase ≡ Acquired
held_still status phase is may = only phase (subst (λ (one : Status). MayBe one phase) is may)
  where
    only : (one : Phase) → MayBe YesDirty one → one ≡ Acquired
    only Fresh may = absurd may
    only Acquired may = refl
    only Written may = absurd may
    only Released may = absurd may

no_draft : (status : Status) → status ≡ YesDirty → status ≢ Draft
no_draft status is draft = cc

module _ (config : Config) (state : State) (target : Slot) (sound : IsSound config state) (has_files : HasFiles config state) (world_facts : HasWorldFacts state)
    (is_claimed : state.history.is_claimed target.slot target.seq ≡ true) (decided : state.history.fate target.slot target.seq ≡ YesDirty) where
  abbrev tenant : ℕ
  tenant = state.history.tenant target.slot target.seq

  abbrev change : List Entry
  change = state.history.change target.slot target.seq

  known : IsKnown state tenant target
  known = record { is_claimed = is_claimed; same_tenant = refl; ready = no_draft (state.history.fate target.slot target.seq) decided }

  formed : is_change (tenant_at config tenant).words change ≡ true
  formed = (sound.memory.claims.formed target.slot target.seq is_claimed).1

  -- the value of a word that is acquired for it is the one that it expects there
  told_expected : (address : ℕ) → has state.history target.slot target.seq address ≡ true → told_at state tenant address ≡ expected state.history target.slot target.seq address
  told_expected address found =
      let phase = held_still (state.history.fate target.slot target.seq) (state.history.phase target.slot target.seq address) decided (sound.memory.words.allowed target.slot target.seq address found) in
      ap (λ (word : Word). value_told state address word) (sound.memory.words.acquired target.slot target.seq address phase)
      ∙ ap (λ (status : Status). held_value status (expected state.history target.slot target.seq address) (new state.history target.slot target.seq address)) decided

  each : (index : ℕ) → index < length change → word_at (state.tenant_states tenant).file.contents (entry_at change index).addr ≡ (entry_at change index).expected
  each index within =
      let address = (entry_at change index).addr in
      value_is_now config state tenant address sound has_files (sound.memory.claims.formed target.slot target.seq is_claimed).0 (world_facts.up target.slot target.seq is_claimed)
      (word_within (tenant_at config tenant).words change index formed within)
      ∙ told_expected address (has_word_at config state sound.memory tenant target known index within)
      ∙ ap (λ (found : Option Entry). option_map_or (λ (entry : Entry). entry.expected) found 0) (found_here (tenant_at config tenant).words change index address formed (record { within = within; same = refl }))

  pub change_fits : fits (state.tenant_states tenant).file.contents change ≡ true
  change_fits = all_fit (state.tenant_states tenant).file.contents change each

pub decided_changes_fit : DecidedChangesFit
decided_changes_fit config state target sound has_files world_facts live is_claimed decided = change_fits config state target sound has_files world_facts is_claimed decided
