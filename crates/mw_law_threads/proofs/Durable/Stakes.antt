-- The change at stake in a call on a file is just what one request asked for: the change in a seal's place, or the one in
-- doubt. Used by: DurableLaws.
use Rattle.std.specs.Prelude.{ℕ, ◌<◌, List, length, Option}
use Rattle.std.proofs.Common.{ap, subst, inl, inr, arith}
use Rattle.std.proofs.lemmas.Bool.{cases_lt}
use Rattle.std.proofs.lemmas.Option.{slice_get_past}
use Rattle.mw_look.specs.declared.steps.Call.{Call}
use Rattle.mw_look.specs.declared.steps.Call.TheVariants.{Prepare as PrepareCall, Seal as SealCall, Settle as SettleCall, Cancel as CancelCall}
use Rattle.mw_world.specs.Files.Calls.{place_for}
use Rattle.mw_world.specs.Files.Crashes.{at_stake}
use Rattle.mw_world.specs.Files.State.{Place, entries_at, entries_in}
use Rattle.mw_world.specs.declared.config.Config.{Config}
use Rattle.mw_world.specs.Claim.Headline.{IsExecution}
use Rattle.mw_world.specs.Definition.Calls.{Called as CallOn}
use Rattle.mw_world.specs.Definition.Events.{WorldEvent}
use Rattle.mw_world.specs.Definition.State.{State, TenantStart, tenants_of}
use Rattle.mw_law_threads.specs.Whole.WholeChanges.{IsAskedChange, IsWholeChange}
use Rattle.mw_law_threads.proofs.Whole.WholeChangeLaws.{doubt_is_whole, places_hold_whole_changes}
use Rattle.mw_rule.specs.declared.file_token.PlaceKept.{PlaceKept}
use Rattle.mw_rule.specs.Calls.FileTokens.{TellsFile, file_told, place_if}
use Rattle.mw_core.specs.FileCalls.{stake_by}
use Rattle.mw_core.specs.FromTable.{FileToken}
use Rattle.mw_table.specs.FromRule.{End, FindsFault, GoesWell, MeetsFault, Skips}

module _ (config : Config) (openings : ℕ → TenantStart) (events : List WorldEvent) (state : State) (tenant : ℕ) (played : IsExecution config openings events state) (low : tenant < tenants_of config)
    (places slots : ℕ) (token : FileToken) (tells : TellsFile places slots token (state.tenant_states tenant).file) where
  -- the change in doubt has an owner of which no change is sealed
  pub doubt_is_pending : IsWholeChange openings state tenant token.doubt
  doubt_is_pending = subst (IsWholeChange openings state tenant) tells.doubt (doubt_is_whole config openings events state tenant played low).0

  pub doubt_is_asked : IsAskedChange state tenant token.doubt
  doubt_is_asked = elim doubt_is_pending [
    | inl none ↦ inl none
    | inr owned ↦ inr (owned.0, owned.1.asked)
  ]

  place_is_asked : (place : ℕ) → IsAskedChange state tenant (entries_at (file_told token) place)
  place_is_asked place = elim (cases_lt place places) [
    | inl within ↦ subst (λ (one : Place). IsAskedChange state tenant (entries_in one)) (tells.places place within) (elim (places_hold_whole_changes config openings events state tenant place played low) [
      | inl none ↦ inl none
      | inr owned ↦ inr (state.history.request owned.slot (state.cells.gates owned.slot).seq, owned.asked)
    ])
    | inr past ↦ inl (ap (λ (one : Option PlaceKept). entries_in (place_if one)) (slice_get_past token.places place (let long = tells.long in omega (arith, long, past))))
  ]

  by_call : (call : Call) (place : ℕ) → IsAskedChange state tenant (at_stake call (file_told token) place)
  by_call PrepareCall place = doubt_is_asked
  by_call SealCall place = place_is_asked place
  by_call SettleCall place = doubt_is_asked
  by_call CancelCall place = doubt_is_asked

  pub stake_is_asked : (end : End) (called : CallOn) → IsAskedChange state tenant (stake_by end called token)
  stake_is_asked GoesWell called = by_call called.call (place_for called.call (file_told token) (length token.places) called.change.slot)
  stake_is_asked (MeetsFault number) called = by_call called.call (place_for called.call (file_told token) (length token.places) called.change.slot)
  stake_is_asked Skips called = doubt_is_asked
  stake_is_asked FindsFault called = doubt_is_asked
