-- Before and after each step of a thread's call on a file, what it knows of the file and its request is true. Used by: FileCalls.
use Rattle.std.specs.Prelude.{ℕ, ◌+◌, ◌≡◌, ◌≤◌, ◌<◌, ◌==◌, true, List, [], ◌∷◌, ◌++◌, Some, None}
use Rattle.std.proofs.Common.{sym, ap, subst, ◌∙◌, arith}
use Rattle.std.proofs.lemmas.Bool.Decides.{nat_tests}
use Rattle.std.proofs.lemmas.Option.{same_Some}
use mathlib.Core.Option.{some}
use lib.ListN.{get_elem?}
use Rattle.atomic_table.specs.Table.{State as Table}
use Rattle.mw_words.specs.declared.statuses.Status.{Status}
use Rattle.mw_actor.specs.ActorState.{ActorState, own_entries}
use Rattle.mw_world.specs.Files.State.{File}
use Rattle.mw_world.specs.declared.config.Config.{Config}
use Rattle.mw_world.specs.Definition.Calls.{Called as CallOn, called_at, starts_from}
use Rattle.mw_world.specs.Definition.Events.{WorldEvent}
use Rattle.mw_world.specs.Definition.State.{TenantState, TenantStart, tenants_of}
use Rattle.mw_world.specs.Definition.Turns.{Made, tenant_state_after, moved}
use Rattle.mw_rule.specs.Calls.FileTokens.{TellsCall, TellsFile, file_told}
use Rattle.mw_rule.specs.Calls.CallStarts.{HasWords, IsAtCall}
use Rattle.mw_rule.specs.declared.file_token.FileToken.{FileToken}
use Rattle.mw_rule.proofs.Calls.CallStartLaws.{calls_have_words}
use Rattle.mw_rule.proofs.Calls.TokensTellCalls.{file_tokens_tell_calls}
use Rattle.mw_rule.proofs.FromLaws.{upd_here}
use Rattle.mw_rule.specs.declared.views.HeldFile.{HeldFile}
use Rattle.mw_rule.specs.declared.views.View.{View}
use Rattle.mw_rule.specs.FileCalls.{Calls, places_held}
use Rattle.mw_rule.specs.Rule.{Each, Fits, Holds, HoldsFile, TableInvariant, Waits, WaitsIf, holds_of, times_held, weight}
use Rattle.mw_rule.proofs.StepRule.{its_fits, its_holds}
use Rattle.mw_rule.proofs.Totals.{weight_own}

module _ (config : Config) (begun : (ℕ → TenantStart) → List WorldEvent → Type 0) (s : Table ActorState View) (tied : TableInvariant config begun s) (id : ℕ) (old : View) (at : get_elem? s.views id ≡ some old)
    (worker : ℕ) (actor : ActorState) (called : CallOn) (held : HeldFile) (by : Calls old worker actor called held) where
  abbrev before : List WorldEvent
  before = tied.past.before ++ tied.events

  abbrev quota : ℕ
  quota = (tied.state.tenant_states actor.tenant).quota

  abbrev the_file : File
  the_file = (tied.state.tenant_states actor.tenant).file

  abbrev slot : ℕ
  slot = called.change.slot

  pub fits : Fits config tied.past.openings tied.state tied.events old
  fits = its_fits config begun s tied id old at by.token by.has.only

  pub holds : Holds config tied.past.openings tied.state tied.events by.token
  holds = its_holds config begun s tied id old at by.token by.has.only

  pub at_call : IsAtCall tied.state by.token.worker actor called
  at_call = record { sits = holds.actor ∙ by.carries; comes_to = by.comes_to }

  pub words : HasWords config actor called
  words = calls_have_words config tied.past.openings before tied.state by.token.worker actor called tied.past.played at_call

  pub held_file : HoldsFile config tied.state held
  held_file = (subst (Each (HoldsFile config tied.state)) by.only fits.files).0

  pub tells : TellsFile quota config.pool held.file the_file
  tells = subst (λ (tenant : ℕ). TellsFile (tied.state.tenant_states tenant).quota config.pool held.file (tied.state.tenant_states tenant).file) by.its held_file.tells

  pub same_quota : quota ≡ places_held old called held
  same_quota = ap (λ (tenant : ℕ). (tied.state.tenant_states tenant).quota) (sym by.its) ∙ (fits.gave held.file.tenant held_file.there).quota

  low_slot : slot < config.pool
  low_slot = let is = words.slot in grind (arith, nat_tests, is)

  pub tells_call : TellsCall quota slot called.call (own_entries actor) (file_told held.file) the_file
  tells_call = file_tokens_tell_calls quota config.pool slot called.call (own_entries actor) held.file the_file tells low_slot

  pub own_file : 1 ≤ holds_of actor.tenant old
  own_file = subst (λ (all : List HeldFile). 1 ≤ times_held actor.tenant all) (sym by.only) (let one = weight_own held.file.tenant actor.tenant by.its in omega (arith, one))

  -- one file in place of another counts the same, if it is of the same tenant
  pub same_right : (after : HeldFile) → after.file.tenant ≡ actor.tenant → (tenant : ℕ) → times_held tenant (after ∷ []) ≡ holds_of tenant old
  same_right after same tenant =
      ap (λ (one : ℕ). weight (one == tenant) + 0) (same ∙ sym by.its) ∙ ap (times_held tenant) (sym by.only)

  -- what is known of the file after a call
  pub held_after : (made : Made) (after : FileToken) → after.tenant ≡ actor.tenant → TellsFile quota config.pool after made.file
      → Each (HoldsFile config (moved tied.state by.token.worker actor made)) (record held { file = after; found = None } ∷ [])
  held_after made after same so =
      let state = tied.state in
      let tenant_state = upd_here state.tenant_states actor.tenant (tenant_state_after (state.tenant_states actor.tenant) (state.worker_states by.token.worker) made state) in
      let next = moved state by.token.worker actor made in (
        record {
          there = subst (λ (tenant : ℕ). tenant < tenants_of config) (sym same) words.tenant;
          tells = subst (λ (tenant : ℕ). TellsFile (next.tenant_states tenant).quota config.pool after (next.tenant_states tenant).file) (sym same)
              (subst (λ (one : TenantState). TellsFile one.quota config.pool after one.file) (sym tenant_state) so);
          waits = tt;
        },
        tt,
      )

  -- the status that was found is still there
  module _ (status : Status) (found : held.found ≡ Some (record { worker = worker; status = status })) where
    waits : Waits tied.state held.file.tenant (record { worker = worker; status = status })
    waits = subst (WaitsIf tied.state held.file.tenant) found held_file.waits

    same_actor : waits.actor ≡ actor
    same_actor = same_Some waits.actor actor (sym waits.at_call.sits ∙ ap (λ (one : ℕ). (tied.state.worker_states one).actor) (sym by.has.own) ∙ holds.actor ∙ by.carries)

    same_call : waits.called ≡ called
    same_call = same_Some waits.called called (sym waits.at_call.comes_to ∙ ap (λ (one : ActorState). called_at one.point) same_actor ∙ by.comes_to)

    pub status_is : tied.state.cells.statuses slot ≡ status
    status_is = ap (λ (one : CallOn). tied.state.cells.statuses one.change.slot) (sym same_call) ∙ waits.is

    pub starts_so : starts_from called.call (tied.state.cells.statuses slot) ≡ true
    starts_so = ap (starts_from called.call) status_is ∙ ap (λ (one : CallOn). starts_from one.call status) (sym same_call) ∙ waits.starts
