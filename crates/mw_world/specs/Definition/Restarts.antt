-- Defines a restart of a world (the model of a whole server): calls on files that may have been under way, what may be found
-- of each file, the quotas, and the world after it.
-- Used by: many crates from mw_law_runs on.
use Rattle.std.specs.Prelude.{ℕ, zero, suc, ◌==◌, ◌&&◌, Bool, true, false, if◌then◌else◌, List, [], ◌∷◌, ◌++◌, nat_le, is_none, length, slice_index_or, Option, Some, None}
use Rattle.std.specs.Option.{option_map, unwrap_or}
use Rattle.mw_words.specs.declared.jobs.Entry.{Entry}
use Rattle.mw_lone.specs.declared.marks.Mark.TheVariants.{Restart as IsRestart}
use Rattle.mw_look.specs.declared.steps.Call.{Call}
use Rattle.mw_look.specs.declared.steps.Call.TheVariants.{Seal as SealCall}
use Rattle.mw_actor.specs.ActorState.{ActorState, own_entries}
use Rattle.mw_world.specs.Files.State.{File, entries_at}
use Rattle.mw_world.specs.declared.config.Config.{Config}
use Rattle.mw_world.specs.declared.events.Interrupted.{Interrupted}
use Rattle.mw_world.specs.Definition.Extent.{has_slot}
use Rattle.mw_world.specs.Definition.Events.{Found}
use Rattle.mw_world.specs.Definition.State.{State, TenantState, may_be_quotas, places_of, tenants_of, marks_in, started}
use Rattle.mw_world.specs.Definition.Calls.{Called, called_at, calls_made, can_be_made, place_for}
-- what may be found of one file
pub use Rattle.mw_world.specs.Files.Restarts.{doubt_if, is_whole_seal, takes, may_find, may_fail, opened_file}

-- A call on a tenant's file that was under way: its tenant, the call, the request and the entries of its change, how
-- many of its device calls were made, and how many it makes. A call makes none if it can't be made, or if its slot
-- doesn't exist.
pub record UnderWay : Type 0 where
  pub tenant : ℕ
  pub call : Call
  pub request : ℕ
  pub entries : List Entry
  pub made : ℕ
  pub calls : ℕ

-- a call that was stopped after this number of its device calls
abbrev pub stopped_call : Config → State → ActorState → ℕ → Called → UnderWay
stopped_call config state actor made called =
    let file = (state.tenant_states actor.tenant).file in
    let places = (state.tenant_states actor.tenant).quota in
    let slot = called.change.slot in
    let place = place_for called.call file places slot in
    record {
      tenant = actor.tenant;
      call = called.call;
      request = state.history.request slot called.change.seq;
      entries = entries_at file place;
      made = made;
      calls = if has_slot config slot && can_be_made called.call file places place (own_entries actor) then calls_made called.call (state.cells.statuses slot) file place else 0;
    }

-- the call to which a worker's request has come, stopped after this number of its device calls
abbrev pub stopped_at : Config → State → ℕ → Option ActorState → Option UnderWay
stopped_at config state made None = None
stopped_at config state made (Some actor) = option_map (stopped_call config state actor made) (called_at actor.point)

-- the call of an interruption; None: there is no such call
abbrev pub call_of : Config → State → Interrupted → Option UnderWay
call_of config state interrupted = stopped_at config state interrupted.made (state.worker_states interrupted.worker).actor

-- the call that was under way, if one was
abbrev pub under_way : Config → State → Option Interrupted → Option UnderWay
under_way config state None = None
under_way config state (Some interrupted) = call_of config state interrupted

-- The call may have been under way: it is a call on this tenant's file, and makes at least this number of device
-- calls.
abbrev pub may_be_cut : ℕ → Option UnderWay → Bool
may_be_cut tenant None = false
may_be_cut tenant (Some call) = (call.tenant == tenant) && nat_le call.made call.calls

-- this call on the tenant's file, or none, may be interrupted
abbrev pub may_interrupt : Config → State → ℕ → Option Interrupted → Bool
may_interrupt config state tenant None = true
may_interrupt config state tenant (Some interrupted) = may_be_cut tenant (call_of config state interrupted)

-- the change in doubt after a stop with this call under way, or with none
abbrev pub doubt_then : File → Option UnderWay → List Entry
doubt_then file None = file.doubt
doubt_then file (Some call) = doubt_if call.call file.doubt call.made call.entries

-- the interrupted call had made all of a seal
abbrev pub is_sealed_then : Option UnderWay → Bool
is_sealed_then None = false
is_sealed_then (Some call) = is_whole_seal call.call call.made call.calls

-- the request whose change was being sealed, if a device call of the seal was made
abbrev pub sealing : Call → ℕ → ℕ → Option ℕ
sealing SealCall made request = if made == 0 then None else Some request
sealing call made request = None

-- the request whose seal this call is, if one of its device calls was made
abbrev pub interrupted_request : Option UnderWay → Option ℕ
interrupted_request None = None
interrupted_request (Some call) = sealing call.call call.made call.request

-- this may be found of a tenant's file
abbrev pub may_be_found : Config → State → ℕ → Found → Bool
may_be_found config state tenant found =
    let file = (state.tenant_states tenant).file in
    let call = under_way config state found.interrupted in
    may_interrupt config state tenant found.interrupted && may_find (is_sealed_then call) file.contents (doubt_then file call) found.words
    && may_fail found.opening_calls found.fails_at

-- what is found past the last tenant: nothing
abbrev pub nothing_found : Found
nothing_found = record { interrupted = None; words = []; opening_calls = 0; fails_at = None; quota = None }

-- what was found of a tenant's file
abbrev pub found_of : List Found → ℕ → Found
found_of founds tenant = slice_index_or founds tenant nothing_found

-- this may be found of each of the first so many tenants
abbrev pub may_all_be_found : Config → State → List Found → ℕ → Bool
may_all_be_found config state founds zero = true
may_all_be_found config state founds (suc tenant) = may_all_be_found config state founds tenant && may_be_found config state tenant (found_of founds tenant)

-- a tenant's quota after a start: the one that the start gives, else the one before
abbrev pub quota_then : TenantState → Found → ℕ
quota_then tenant_state found = unwrap_or found.quota tenant_state.quota

-- each tenant's quota after a start
abbrev pub quotas_then : State → List Found → ℕ → ℕ
quotas_then state founds tenant = quota_then (state.tenant_states tenant) (found_of founds tenant)

-- a tenant's state after a start that found this of its file, with this call under way
abbrev pub reopened : TenantState → Found → Option UnderWay → TenantState
reopened tenant_state found call = record {
  file = opened_file found.words found.fails_at;
  quota = quota_then tenant_state found;
  places = tenant_state.places;
  asked = tenant_state.asked;
  is_up = is_none found.fails_at;
  closed = tenant_state.closed ++ marks_in tenant_state.lines
      ++ IsRestart (interrupted_request call) (takes tenant_state.file.contents (doubt_then tenant_state.file call) found.words) (is_none found.fails_at)
      (quota_then tenant_state found) ∷ [];
  lines = [];
}

-- the world after a start that found this of the tenants' files, and gave these quotas
abbrev pub restarted : Config → State → List Found → State
restarted config state founds =
    started config (λ tenant. reopened (state.tenant_states tenant) (found_of founds tenant) (under_way config state (found_of founds tenant).interrupted))

-- The server stops and starts again. This may happen if what is given for each tenant may be found of its file, and
-- the quotas after the start fit. Each, also one that stays, is 1 to MAX_QUOTA and at most the file's places. Their
-- sum is at most the pool.
abbrev pub restart : Config → State → List Found → Option State
restart config state founds =
    if (length founds == tenants_of config) && may_all_be_found config state founds (tenants_of config) && may_be_quotas config (quotas_then state founds) (places_of state)
    then Some (restarted config state founds)
    else None
