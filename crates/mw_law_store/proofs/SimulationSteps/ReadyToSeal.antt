-- When a file seals a change, the change is in its record place and its expected values are the file's words. Used by: Called.
use Rattle.std.specs.Prelude.{ℕ, ◌≡◌, Bool, true, false, List}
use Rattle.std.proofs.Common.{refl, sym, ap, subst, ◌∙◌}
use Rattle.mw_words.specs.declared.jobs.Entry.{Entry}
use Rattle.mw_words.specs.declared.statuses.Status.{Status}
use Rattle.mw_words.specs.declared.statuses.Status.TheVariants.{YesDirty}
use Rattle.mw_words.specs.Change.{fits}
use Rattle.mw_actor.specs.declared.points.Slot.{Slot}
use Rattle.mw_world.specs.Files.State.{File, entries_at, entries_in, is_empty}
use Rattle.mw_world.specs.declared.config.Config.{Config}
use Rattle.mw_world.specs.Claim.Invariant.{IsInFile, placed}
use Rattle.mw_world.specs.Definition.State.{State}
use Rattle.mw_law_runs.specs.Moves.Guards.{IsLive}
use Rattle.mw_law_runs.specs.Knowledge.Facts.{IsKnown}
use Rattle.mw_law_store.proofs.DecidedChangesFit.{decided_changes_fit}
use Rattle.mw_law_store.proofs.ServiceLaws.{IsWithFactsWorld}

-- a change that is decided to be made is prepared in its place
prepared_in : (status : Status) (change : List Entry) → status ≡ YesDirty → (is_empty (placed status change) ≡ false) × (entries_in (placed status change) ≡ change)
prepared_in status change is = subst (λ (one : Status). (is_empty (placed one change) ≡ false) × (entries_in (placed one change) ≡ change)) (sym is) (refl, refl)

-- Such a change of a live slot: its place has its entries, it fits the file's words, and FAULT is not decided for it if the file
-- works.
module _ (config : Config) (state : State) (world : IsWithFactsWorld config state) (tenant : ℕ) (target : Slot) (known : IsKnown state tenant target) (live : IsLive state target) where
  abbrev file : File
  file = (state.tenant_states tenant).file

  abbrev change : List Entry
  change = state.history.change target.slot target.seq

  in_file : state.history.fate target.slot target.seq ≡ YesDirty → IsInFile state tenant target.slot
  in_file is = record {
    taken = live.taken;
    same_tenant = ap (λ (n : ℕ). state.history.tenant target.slot n) live.seq ∙ known.same_tenant;
    in_file = ap (λ (n : ℕ). is_empty (placed (state.history.fate target.slot n) (state.history.change target.slot n))) live.seq ∙ (prepared_in (state.history.fate target.slot target.seq) change is).0;
  }

  pub same_entries : state.history.fate target.slot target.seq ≡ YesDirty → entries_at file (file.place_of target.slot) ≡ change
  same_entries is =
      ap entries_in (world.files.places.there tenant target.slot (in_file is))
      ∙ ap (λ (n : ℕ). entries_in (placed (state.history.fate target.slot n) (state.history.change target.slot n))) live.seq
      ∙ (prepared_in (state.history.fate target.slot target.seq) change is).1

  pub fits_now : state.history.fate target.slot target.seq ≡ YesDirty → fits file.contents change ≡ true
  fits_now is =
      ap (λ (n : ℕ). fits (state.tenant_states n).file.contents change) (sym known.same_tenant)
      ∙ decided_changes_fit config state target world.sound world.files world.world_facts live known.is_claimed is

  pub not_fault_decided : file.has_failed ≡ false → state.history.is_fault_decided target.slot target.seq ≡ false
  not_fault_decided works = by_test (state.history.is_fault_decided target.slot target.seq) refl
    where
      true_false : true ≡ false → ⊥
      true_false e = cc

      by_test : (b : Bool) → state.history.is_fault_decided target.slot target.seq ≡ b → state.history.is_fault_decided target.slot target.seq ≡ false
      by_test true is = absurd (true_false (sym (world.world_facts.fault_decided target.slot target.seq is) ∙ ap (λ (n : ℕ). (state.tenant_states n).file.has_failed) known.same_tenant ∙ works))
      by_test false is = is
