-- A call on a file keeps the table's rule (`specs/Rule`), if the thread that has the file makes it by one step on one word.
-- Used by: FileCalls.
use Rattle.std.specs.Prelude.{ℕ, ◌≡◌, ◌≤◌, Bool, List, [], ◌∷◌, ◌++◌, slice_index, slice_set, Option, Some, None}
use Rattle.std.proofs.Common.{refl, sym, ap, subst, ◌∙◌, ◌⊎◌, inl, inr}
use Rattle.std.proofs.lemmas.Option.{same_Some}
use mathlib.Core.Option.{some}
use lib.ListN.{get_elem?}
use Rattle.atomic_table.specs.Table.{State as Table}
use Rattle.mw_look.specs.declared.observations.Observation.{Observation}
use Rattle.mw_look.specs.declared.observations.Observation.TheVariants.{Filed}
use Rattle.mw_look.specs.Places.{pack}
use Rattle.mw_look.specs.Steps.{Step, op_of, place}
use Rattle.mw_actor.specs.ActorState.{ActorState}
use Rattle.mw_world.specs.declared.outcomes.Outcome.{Outcome}
use Rattle.mw_world.specs.declared.config.Config.{Config}
use Rattle.mw_world.specs.Definition.Calls.{Called as CallOn, called_at}
use Rattle.mw_world.specs.Definition.Cells.{Cells, read}
use Rattle.mw_world.specs.Definition.Events.{WorldEvent, File as FileEvent}
use Rattle.mw_world.specs.Definition.State.{State, TenantStart}
use Rattle.mw_world.specs.Definition.Turns.{Made, moved}
use Rattle.mw_rule.specs.Calls.OtherEvents.{AreBesideFile}
use Rattle.mw_rule.specs.Calls.CallEnds.{CallEnds}
use Rattle.mw_rule.proofs.FromLaws.{same_or_other}
use Rattle.mw_rule.specs.declared.views.HeldFile.{HeldFile}
use Rattle.mw_rule.specs.declared.views.WorkerToken.{WorkerToken}
use Rattle.mw_rule.specs.declared.views.View.{View}
use Rattle.mw_rule.specs.FileCalls.{went, went_as}
use Rattle.mw_rule.specs.Layout.{index_of}
use Rattle.mw_rule.specs.Rule.{Each, HoldsFile, TableInvariant, BitsMatch, holds_of, times_held}
use Rattle.mw_rule.specs.Ways.{made_of_bits}
use Rattle.mw_rule.proofs.FileCallEvents.{calls}
use Rattle.mw_rule.proofs.Preservation.{ties_on}
use Rattle.mw_rule.proofs.StepRule.{its_fits, its_holds, place_there}
use Rattle.mw_rule.proofs.ViewAfterStep.{Moved, moves}
use Rattle.mw_rule.proofs.Words.{step_other, step_packs}

-- a call leaves each token with its worker
went_worker : (went_well : Bool) (token : WorkerToken) → (went went_well token).worker ≡ token.worker
went_worker went_well token = by token.actor
  where
    by : (actor : Option ActorState) → (went_as went_well token actor).worker ≡ token.worker
    by None = refl
    by (Some actor) = refl

-- A call with this event, made by a step on one word; `files` is what the thread holds after it.
module _ (config : Config) (begun : (ℕ → TenantStart) → List WorldEvent → Type 0) (s : Table ActorState View) (tied : TableInvariant config begun s) (id : ℕ) (old : View) (at : get_elem? s.views id ≡ some old)
    (token : WorkerToken) (only : old.tokens ≡ token ∷ []) (actor : ActorState) (carries : token.actor ≡ Some actor) (called : CallOn) (comes_to : called_at actor.point ≡ Some called)
    (outcome : Outcome) (by : Step) (found : Observation) (made : Made) (went_well : Bool) (is_told : made.observation ≡ Filed went_well) (ends : CallEnds config tied.state token.worker actor outcome by found made)
    (own : 1 ≤ holds_of actor.tenant old) where
  beside : (tenant : ℕ) → AreBesideFile config tenant tied.state (FileEvent token.worker outcome ∷ []) ⊎ (1 ≤ holds_of tenant old)
  beside tenant = elim (same_or_other tenant actor.tenant) [
    | inl same ↦ inr (subst (λ (one : ℕ). 1 ≤ holds_of one old) (sym same) own)
    | inr apart ↦ inl (
      λ other sits same. apart (sym same ∙ ap (λ (one : ActorState). one.tenant) (same_Some other actor (sym sits ∙ (its_holds config begun s tied id old at token only).actor ∙ carries))),
      λ next is. tt,
    )
  ]

  pub call_moves : (index : ℕ) (make : ℕ → ℕ) (files : List HeldFile) → index ≡ index_of config.pool (place by) → ((bits : ℕ) → make bits ≡ made_of_bits (op_of by) bits)
      → ((tenant : ℕ) → times_held tenant files ≡ holds_of tenant old) → Each (HoldsFile config (moved tied.state token.worker actor made)) files
      → Moved config begun s tied (FileEvent token.worker outcome ∷ []) id index (make (slice_index s.words index)) old (went went_well) files (λ noted. noted ≡ [])
  call_moves index make files is makes same_files hold_files =
      let state = tied.state in
      let openings = tied.past.openings in
      let before = tied.past.before ++ tied.events in
      let bits = slice_index s.words index in
      let there = place_there config by ends.words.there in
      let seen : bits ≡ pack (place by) (read state.cells (place by)) = ap (slice_index s.words) is ∙ tied.ties (place by) there in
      let made_so : pack (place by) (read made.cells (place by)) ≡ make bits =
      ap (λ (cells : Cells). pack (place by) (read cells (place by))) (sym ends.words.leaves) ∙ step_packs config by state.cells ends.words.there ends.words.right
      ∙ sym (makes bits ∙ ap (made_of_bits (op_of by)) seen) in
      let ties : BitsMatch config made.cells (slice_set s.words index (make bits)) =
      subst (λ n. BitsMatch config made.cells (slice_set s.words n (make bits))) (sym is)
      (ties_on config state.cells made.cells s.words (place by) (make bits) tied.past.played.made there tied.long tied.ties made_so
      (λ other apart. ap (λ (cells : Cells). read cells other) (sym ends.words.leaves) ∙ step_other by state.cells other apart)) in
      let reached = calls config openings before state tied.past.played tied.events token actor carries called comes_to (its_holds config begun s tied id old at token only) outcome made went_well is_told
      ends.happens in
      moves config begun s tied (FileEvent token.worker outcome ∷ []) id index (make bits) old token (went went_well) made.cells files (λ noted. noted ≡ []) at only
      (its_fits config begun s tied id old at token only) (went_worker went_well) reached.0 ties beside same_files
      (subst (λ (after : State). Each (HoldsFile config after) files) (sym reached.1) hold_files)
